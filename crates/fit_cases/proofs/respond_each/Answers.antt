-- `fit_cases::respond_each` is safe and ends: each case ends after its start.
use Rattle.text.proofs.OutputLaws.{text_of-text}
use Rattle.fit_cases.proofs.respond_each.Goals as goal

pub write-requires : goal.write-requires
write-requires g c = rw c.respond.ensures.bytes (text_of-text _ c.respond.ensures.whole)

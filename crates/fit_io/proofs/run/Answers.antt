-- `fit_io::run` is safe: what it writes is a text.
use Rattle.text.proofs.OutputLaws.{text_of-text}
use Rattle.fit_io.proofs.run.Goals as goal

pub write-requires : goal.write-requires
write-requires g c = rw c.respond.ensures.bytes (text_of-text _ c.respond.ensures.whole)

-- `calls::read_outline_strict` reads, and what reading gives is as laid down.
use Rattle.outline.proofs.ReadingLaws.{reading-promises}
use Rattle.calls.proofs.read_outline_strict.Goals as goal

pub returns-clause-rules : goal.returns-clause-rules
returns-clause-rules c = (reading-promises _ _ c.read.ensures).1

-- `calls::read_outline` reads, and what reading gives is as laid down.
use Rattle.outline.proofs.EitherLaws.{either-promises}
use Rattle.calls.proofs.read_outline.Goals as goal

pub returns-clause-rules : goal.returns-clause-rules
returns-clause-rules c = (either-promises _ _ c.read_either.ensures).1

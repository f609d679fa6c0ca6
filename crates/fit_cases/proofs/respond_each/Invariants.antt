-- `fit_cases::respond_each` ends: each turn leaves fewer bytes.
use Rattle.std.proofs.Common.{length}
use Rattle.fit_cases.proofs.respond_each.Given as goal

abbrev pub decreases-loop-rest : goal.decreases-loop-rest
decreases-loop-rest g l = length l.rest

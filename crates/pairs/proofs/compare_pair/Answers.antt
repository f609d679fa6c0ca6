-- `pairs::compare_pair`: A's length is read from the bytes that are left, and then no more are left than before.
use Rattle.std.proofs.Common.{arith}
use Rattle.case_input.proofs.Progress.{number-shorter, number-not-longer, numbers-not-longer}
use Rattle.pairs.proofs.compare_pair.Goals as goal

pub loop-init : goal.loop-init
loop-init g c = grind (arith, number-shorter, number-not-longer, numbers-not-longer)

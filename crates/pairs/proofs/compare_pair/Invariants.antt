-- `pairs::compare_pair`: fewer bytes are left than before A's list, where there were any.
use Rattle.std.proofs.Common.{◌<◌, length}
use Rattle.pairs.proofs.compare_pair.Given as goal

abbrev pub invariant-loop : goal.invariant-loop
invariant-loop g l = 0 < length l.fn.pair → length l.pair < length l.fn.pair

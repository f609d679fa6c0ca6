-- `pairs::compare_pairs` ends: after each pair fewer bytes are left.
use lib.ListN.{length}
use Rattle.pairs.proofs.compare_pairs.Given as goal

abbrev pub decreases-loop-pairs : goal.decreases-loop-pairs
decreases-loop-pairs g l = length l.pairs

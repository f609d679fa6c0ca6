-- `summing::side_sum` adds the gap of one corner a turn. No sum of some of them is above the bound on the sum of all.
use Prim.Native.Nat.{◌+◌}
use lib.ListN.{length}
use Rattle.lists.proofs.FoldLaws.{Folding}
use Rattle.outline.specs.Corners.{corner}
use Rattle.mismatch.specs.code.MismatchSum.{gap_units}
use Rattle.reading.specs.Accepted.{accepted_corners}
use Rattle.summing.proofs.side_sum.Given as goal

abbrev pub invariant-loop-i : goal.invariant-loop-i
invariant-loop-i l =
    let vs = accepted_corners l.outline in let cs = accepted_corners l.other in
    Folding ◌+◌ 0 (λ k. gap_units cs (corner vs k)) (length vs) l.sum l.i

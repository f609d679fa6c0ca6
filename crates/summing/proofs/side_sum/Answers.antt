-- `summing::side_sum` adds the gap of one corner a turn. No sum of some of them is above the bound on the sum of all.
use native.Mathlib.Nat.{lt_of_le_of_lt}
use native.Mathlib.Omega.{arith}
use mathlib.Core.List.{List}
use mathlib.Core.Path.{◌≡◌}
use Prim.Native.Nat.{ℕ, ◌+◌, ◌<◌, ◌^◌}
use lib.Dec.{lit<}
use lib.ListN.{length}
use Rattle.lists.proofs.FoldLaws.{Folding, fold_start, fold_on}
use Rattle.plane.specs.declared.Corner.{Corner}
use Rattle.outline.specs.Convex.{Accepted}
use Rattle.outline.specs.Corners.{corner}
use Rattle.outline.proofs.EitherLaws.{accepted-held}
use Rattle.mismatch.specs.code.MismatchSum.{gap_units}
use Rattle.mismatch.proofs.MismatchLaws.{side-sum-at-most}
use Rattle.summing.proofs.side_sum.Goals as goal

module _ (vs cs : List Corner) where
  abbrev Added : ℕ → ℕ → Type 0
  Added = Folding ◌+◌ 0 (λ k. gap_units cs (corner vs k)) (length vs)

  -- at most 256 corners are added
  fits : {added i : ℕ} → Accepted vs → Accepted cs → Added added i → added < 2 ^ 63
  fits ok-v ok-c so_far =
      rw so_far.joined_so_far (lt_of_le_of_lt (side-sum-at-most _ so_far.turn ok-v ok-c) (lit< tt))

  -- the gap of corner i is added
  turn : {added i gap : ℕ} {v : Corner} → Added added i → i < length vs → gap ≡ gap_units cs v → v ≡ corner vs i
      → Added (added + gap) (i + 1)
  turn so_far below is-gap is-v = rw (is-gap, is-v) (fold_on so_far below)

pub loop-i-init : goal.loop-i-init
loop-i-init c = fold_start _ _ _ _

pub overflow_add-sum : goal.overflow_add-sum
overflow_add-sum c =
    let next = turn _ _ c.loop-i.invariant (omega arith) c.gap_units-sum.ensures c.corner.ensures.value in
    omega (arith, fits _ _ (accepted-held c.args.outline.now.accepted) (accepted-held c.args.other.now.accepted) next)

pub loop-i-preserved : goal.loop-i-preserved
loop-i-preserved c = turn _ _ c.loop-i.invariant (omega arith) c.gap_units-sum.ensures c.corner.ensures.value

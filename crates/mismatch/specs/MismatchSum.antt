-- Rules 4.9 and 4.10: the mismatch sum, the sum of the squared distances from every corner of each outline to the
-- other piece, each brought down to a whole number of units. It cites neither the steps nor the exhaustive search.
use Rattle.std.specs.Prelude.{ℕ, ◌+◌, ◌<◌, ◌≡◌, length}
use Rattle.integers.specs.declared.fraction.Fraction.{Fraction}
use Rattle.integers.specs.Fraction.{NotGreater, LessThan, plus}
use Rattle.integers.specs.Units.{of_units, WholeUnits}
use Rattle.lists.specs.Fold.{fold, sum}
use Rattle.outline.specs.declared.Side.{Side}
use Rattle.outline.specs.declared.Side.TheVariants.{A, B}
use Rattle.nearest.specs.declared.NearestPoint.{NearestPoint}
use Rattle.hausdorff.specs.Pair.{Pair}
use Rattle.hausdorff.specs.CornerGap.{with_corner}
use Rattle.hausdorff.specs.Answer.{IsGap}

-- how many units make a square millimetre
abbrev pub units : ℕ
units = 1024

-- the exact sum of the fractions g 0, g 1, .. below n
abbrev pub fraction_sum : (ℕ → Fraction) → ℕ → Fraction
fraction_sum g n = fold plus (record { upper = 0; lower = 1 }) g n

-- the exact sum of the squared distances of all corners of both outlines: `near s i` is the nearest point to corner i of
-- side s, and its gap the squared distance
abbrev pub exact_sum : Pair → (Side → ℕ → NearestPoint) → Fraction
exact_sum pair near =
    plus (fraction_sum (λ i. (near A i).gap) (length (pair A))) (fraction_sum (λ i. (near B i).gap) (length (pair B)))

-- m is the mismatch sum
pub record IsMismatchSum (pair : Pair) (m : ℕ) : Type 0 where
  -- rule 4.9: `near s i` is the nearest point of the other piece to corner i of side s, with its gap, for every corner of
  -- each outline. There is only one (`near-unique` in `proofs/MismatchLaws.antt`)
  pub near : Side → ℕ → NearestPoint
  pub is_gap : (s : Side) (i : ℕ) → i < length (pair s) → IsGap pair (with_corner s i (near s i))
  -- `term s i` is that gap in whole units, rounded down
  pub term : Side → ℕ → ℕ
  pub brought_down : (s : Side) (i : ℕ) → i < length (pair s) → WholeUnits units (near s i).gap (term s i)
  -- those of A's corners and of B's are added
  pub added : m ≡ sum (term A) (length (pair A)) + sum (term B) (length (pair B))
  -- rule 4.10, which follows: it is never above the exact sum, and short of it by less than the number of corners of
  -- both, in units
  pub not_above : NotGreater (of_units units m) (exact_sum pair near)
  pub short_by_less : LessThan (exact_sum pair near) (of_units units (m + (length (pair A) + length (pair B))))

-- The exact sum of fractions, and sums over the corners of a list.
--     fraction_sum-positive      the lower number of a sum is above 0
--     fraction_sum-not-above     fractions in whole units are together not above their sum
--     fraction_sum-less          and short of it by less than their number, in units
--     sum-next            a sum over all corners of a list is the same from the next corner on
use Prim.Native.Nat.{ℕ, zero, suc, ◌+◌, ◌<◌}
use mathlib.Core.Path.{◌≡◌, refl, ap}
use native.Mathlib.Nat.{le_of_lt, mul-pos}
use native.Mathlib.Omega.{arith}
use lib.Dec.{lit<}
use Rattle.integers.specs.declared.fraction.Fraction.{Fraction}
use Rattle.integers.specs.Fraction.{NotGreater, LessThan}
use Rattle.integers.specs.Units.{of_units, WholeUnits}
use Rattle.integers.proofs.UnitsLaws.{units-above, plus-not-above, plus-above}
use Rattle.lists.specs.Fold.{fold, sum}
use Rattle.lists.proofs.FoldLaws.{sum_same, sum_first}
use Rattle.outline.specs.Corners.{next}
use Rattle.outline.proofs.CornersLaws.{next-suc, next_last}
use Rattle.mismatch.specs.MismatchSum.{fraction_sum}

module _ (gap : ℕ → Fraction) (positive : (i : ℕ) → 0 < (gap i).lower) where
  pub fraction_sum-positive : (n : ℕ) → 0 < (fraction_sum gap n).lower
  unfolding fold
  fraction_sum-positive zero = lit< tt
  fraction_sum-positive (suc n) = mul-pos (fraction_sum-positive n) (positive n)

  module _ (u : ℕ) (term : ℕ → ℕ) (whole : (i : ℕ) → WholeUnits u (gap i) (term i)) where
    pub fraction_sum-not-above : (n : ℕ) → NotGreater (of_units u (sum term n)) (fraction_sum gap n)
    unfolding fold
    fraction_sum-not-above zero = omega arith
    fraction_sum-not-above (suc n) = plus-not-above u _ _ (fraction_sum gap n) (gap n) (fraction_sum-not-above n) (whole n).not_above

    -- the sum of the first n is not above their units and n more; the next is less than its own and one more
    one_more : (n : ℕ) → NotGreater (fraction_sum gap n) (of_units u (sum term n + n))
        → LessThan (fraction_sum gap (suc n)) (of_units u (sum term (suc n) + suc n))
    unfolding fold
    one_more n before =
        let together : sum term n + n + suc (term n) ≡ sum term n + term n + suc n = omega arith in
        rw together at (plus-above u _ _ (fraction_sum gap n) (gap n) (fraction_sum-positive n) before (units-above (whole n)))

    not-greater : (n : ℕ) → NotGreater (fraction_sum gap n) (of_units u (sum term n + n))
    unfolding fold
    not-greater zero = omega arith
    not-greater (suc n) = le_of_lt (one_more n (not-greater n))

    pub fraction_sum-less : (n : ℕ) → 0 < n → LessThan (fraction_sum gap n) (of_units u (sum term n + n))
    fraction_sum-less zero some = absurd (omega arith)
    fraction_sum-less (suc n) some = one_more n (not-greater n)

-- corner i is followed by corner i + 1, and the last by corner 0
pub sum-next : (f : ℕ → ℕ) (n : ℕ) → sum (λ i. f (next n i)) n ≡ sum f n
unfolding fold
sum-next f zero = refl
sum-next f (suc n) =
    rw (sum_same n (λ i below. ap f (next-suc (suc n) i (omega arith))), next_last (suc n) n (omega arith))
    (omega (arith, sum_first f n))

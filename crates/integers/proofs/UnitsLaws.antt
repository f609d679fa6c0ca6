-- Fractions in whole units, rounded down, and sums of fractions. All lower numbers are above 0.
--     units-is            `whole_units u g` is the largest number of units that is not above g
--     units-unique        there is one such number
--     units-above         one unit more is above g
--     units-zero-iff      it is 0 exactly where g is less than one unit
--     units-at-most       it is not above k u, where g is not above k
--     units-by-parts      the whole part and the remainder, each in whole units, are together the fraction in whole units
--     plus-not-above      units that are not above two fractions are together not above their sum
--     plus-above          units of which one fraction is not above some, and another below others, are together above
--                         their sum
use Prim.Native.Nat.{ℕ, suc, ◌+◌, ◌*◌, ◌/◌, ◌%◌, ◌<◌, ◌≤◌}
use mathlib.Core.Path.{◌≡◌, refl, sym, ap, ◌∙◌}
use mathlib.Core.Logic.{◌↔◌}
use native.Mathlib.Nat.{add_comm, add-mul, add-mul-div_right, div-add-mod', le_antisymm, le-div_iff_mul-le, le_of_eq}
use native.Mathlib.Nat.{le_of_mul-le-mul_right, lt_irrefl, lt_of_le_of_lt, lt_of_mul-lt-mul_right, lt_of_not-le}
use native.Mathlib.Nat.{mul-le-mul_right, mul-lt-mul_of_pos_right, mul_right_comm}
use native.Mathlib.Omega.{arith}
use Rattle.integers.specs.declared.fraction.Fraction.{Fraction}
use Rattle.integers.specs.Fraction.{NotGreater, LessThan, plus}
use Rattle.integers.specs.Units.{of_units, WholeUnits}
use Rattle.integers.specs.code.Units.{whole_units}

-- k ≤ n / d exactly where k d ≤ n
pub units-is : (u : ℕ) (g : Fraction) → 0 < g.lower → WholeUnits u g (whole_units u g)
unfolding whole_units
units-is u g positive = record {
  not_above = (le-div_iff_mul-le positive).0 (le_of_eq refl);
  largest = λ k most. (le-div_iff_mul-le positive).1 most;
}

-- neither number is above the other
pub units-unique : {u m k : ℕ} {g : Fraction} → WholeUnits u g m → WholeUnits u g k → m ≡ k
units-unique {m = m} {k} one other = le_antisymm (other.largest m one.not_above) (one.largest k other.not_above)

-- one more is not among those that are not above
pub units-above : {u m : ℕ} {g : Fraction} → WholeUnits u g m → LessThan g (of_units u (suc m))
units-above {m = m} is = lt_of_not-le (λ most. lt_irrefl m (is.largest (suc m) most))

-- m d ≤ n u < d leaves 0 for m
pub units-zero-iff : {u m : ℕ} {g : Fraction} → WholeUnits u g m → (m ≡ 0) ↔ LessThan g (of_units u 1)
units-zero-iff {g = g} is = (
  λ none. rw none at (units-above is),
  λ less. let small = lt_of_mul-lt-mul_right g.lower (lt_of_le_of_lt is.not_above less) in omega (arith, small),
)

-- m d ≤ n u ≤ k d u, and d is above 0
pub units-at-most : (k : ℕ) {u m : ℕ} {g : Fraction} → 0 < g.lower → NotGreater g (record { upper = k; lower = 1 })
    → WholeUnits u g m → m ≤ k * u
units-at-most k {u} positive most is =
    le_of_mul-le-mul_right (omega (arith, is.not_above, mul-le-mul_right u most)) positive

-- n = (n / d) d + n % d, and the first part is a whole number of times d
pub units-by-parts : (u : ℕ) (g : Fraction) → 0 < g.lower
    → g.upper / g.lower * u + g.upper % g.lower * u / g.lower ≡ whole_units u g
unfolding whole_units
units-by-parts u g positive =
    add_comm (n / d * u) (n % d * u / d) ∙ sym (add-mul-div_right (n % d * u) (n / d * u) positive)
    ∙ ap (λ (x : ℕ). x / d) parts
  where
    n : ℕ
    n = g.upper

    d : ℕ
    d = g.lower

    parts : n % d * u + n / d * u * d ≡ n * u
    parts =
        add_comm (n % d * u) (n / d * u * d) ∙ ap (λ (x : ℕ). x + n % d * u) (mul_right_comm (n / d) u d)
        ∙ sym (add-mul (n / d * d) (n % d) u) ∙ ap (λ (x : ℕ). x * u) (div-add-mod' n d)

-- m k ≤ a u and n l ≤ b u, times l and times k
pub plus-not-above : (u m n : ℕ) (a b : Fraction) → NotGreater (of_units u m) a → NotGreater (of_units u n) b
    → NotGreater (of_units u (m + n)) (plus a b)
plus-not-above u m n a b one other = omega (arith, mul-le-mul_right b.lower one, mul-le-mul_right a.lower other)

-- a u ≤ m k and b u < n l, times l and times k
pub plus-above : (u m n : ℕ) (a b : Fraction) → 0 < a.lower → NotGreater a (of_units u m) → LessThan b (of_units u n)
    → LessThan (plus a b) (of_units u (m + n))
plus-above u m n a b positive one other =
    omega (arith, mul-le-mul_right b.lower one, mul-lt-mul_of_pos_right other positive)

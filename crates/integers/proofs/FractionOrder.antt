-- The order of fractions as values, of fractions with a lower number above 0.
--     not_greater-refl, not_greater-trans     it is a preorder
--     is_less-true, is_less-false             what the test says
--     less-is_less, not_greater-is_less        and back
--     less-not_greater                       the order is total
--     not_greater-zero                       only 0 is not greater than 0
use Prim.Native.Nat.{◌<◌}
use mathlib.Core.Logic.{◌↔◌, inl, inr}
use native.Mathlib.Nat.{zero-mul, mul-pos, eq-zero-or-pos, le_of_lt, le_of_mul-le-mul_right, le_refl, lt_of_not-le}
use native.Mathlib.Nat.{mul-le-mul_right, not-le_of_lt}
use native.Mathlib.Omega.{arith}
use borrow.Author.Tests.{lt-ltb, le-ltb, ltb-true, ltb-false}
use mathlib.Core.Path.{◌≡◌}
use mathlib.Core.Bool.{true, false}
use Rattle.integers.specs.declared.fraction.Fraction.{Fraction}
use Rattle.integers.specs.Fraction.{is_less, NotGreater}

-- the two cross products are the same
pub not_greater-refl : (g : Fraction) → NotGreater g g
not_greater-refl g = le_refl _

-- With f, g, h = a/k, b/l, c/m: a l ≤ b k times m, and b m ≤ c l times k, give a m l ≤ c k l, and l is above 0.
pub not_greater-trans : (f g h : Fraction) → 0 < g.lower → NotGreater f g → NotGreater g h → NotGreater f h
not_greater-trans f g h positive first second =
    le_of_mul-le-mul_right (omega (arith, mul-le-mul_right h.lower first, mul-le-mul_right f.lower second)) positive

-- the test passes only where the second fraction is greater
pub is_less-true : (g h : Fraction) → is_less g h ≡ true → ¬ NotGreater h g
is_less-true g h e = not-le_of_lt (ltb-true _ _ e)

-- and fails only where it is not
pub is_less-false : (g h : Fraction) → is_less g h ≡ false → NotGreater h g
is_less-false g h e = ltb-false _ _ e

-- it passes wherever the second fraction is greater
pub less-is_less : (g h : Fraction) → ¬ NotGreater h g → is_less g h ≡ true
less-is_less g h less = lt-ltb _ _ (lt_of_not-le less)

-- and fails wherever it is not
pub not_greater-is_less : (g h : Fraction) → NotGreater h g → is_less g h ≡ false
not_greater-is_less g h most = le-ltb _ _ most

-- of two fractions one is not greater
pub less-not_greater : (g h : Fraction) → ¬ NotGreater h g → NotGreater g h
less-not_greater g h less = le_of_lt (lt_of_not-le less)

-- only 0 is not greater than 0
pub not_greater-zero : (f g : Fraction) → 0 < g.lower → g.upper ≡ 0 → NotGreater f g ↔ (f.upper ≡ 0)
not_greater-zero f g some none = (
  λ not-greater. elim (eq-zero-or-pos f.upper) [
    | inl is ↦ is
    | inr above ↦ absurd (omega (arith, mul-pos above some, rw (none, zero-mul) at not-greater))
  ],
  λ is. rw (is, zero-mul) (omega arith),
)

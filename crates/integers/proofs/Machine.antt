-- The size of whole numbers, and signed machine arithmetic that stays within computed bounds, at any width.
--     nat_abs-neg, nat_abs-+, nat_abs-*     the size of a negation, a sum, a product
--     at_most-neg, at_most-+, at_most--, at_most-*     the same for bounds
--     local w z, i32, i64      z as a local or field of the width holds it: written as bits and read back
--     Exact b z e             the machine's expression e is exactly the whole number z, which is at most b in size
--     value                   an expression starts from a known bound
--     stored                  it is kept in a local, perhaps wider: so a widening cast too
--     plus, minus, times      the operations
--     fits                    it ends: the result fits its type. That it is z is `(stored w r tt).exact`
--     size_fits               a number that is not negative is cast to an unsigned type
-- Each test `T (ltb bound (2 ^ ..))` computes, and is answered by `tt`.
use mathlib.Core.Path.{◌≡◌, refl, ◌∙◌}
use mathlib.Core.Bool.{Bool, true, false, cond}
use Prim.Native.Nat.{ℕ, zero, suc, ◌+◌, ◌*◌, ◌-◌, ◌^◌, ◌≤◌}
use native.Mathlib.Nat.{le_refl, le_trans, mul-le-mul, lt_of_le_of_lt}
use native.Mathlib.Omega.{arith}
use lib.Dec.{T, ltb, ltb→lt}
use lib.IntN.{ℤ, pos, negsuc, neg_ℤ, nat_abs, sub_ℕ, ◌+ℤ◌, ◌-ℤ◌, ◌*ℤ◌}
use lib.Signed.{mag, non_neg}
use mir.Syntax.{Width, w32, w64}
use mir.Val.{Fits, SFits, bits, hbits, to_z, of_z}
use mir.ValLaws.{to_z-of_z}
use Rattle.integers.specs.Size.{AtMost}

-- sizes

pub nat_abs-neg : (z : ℤ) → nat_abs (neg_ℤ z) ≡ nat_abs z
nat_abs-neg (pos zero) = refl
nat_abs-neg (pos (suc n)) = refl
nat_abs-neg (negsuc n) = refl

nat_abs-sub : (a b : ℕ) → nat_abs (sub_ℕ a (suc b)) ≤ a + suc b
nat_abs-sub a b = by-test (ltb a (suc b))
  where
    by-test : (t : Bool) → nat_abs (cond t (negsuc (suc b - suc a)) (pos (a - suc b))) ≤ a + suc b
    by-test true = omega arith
    by-test false = omega arith

pub nat_abs-+ : (y z : ℤ) → nat_abs (y +ℤ z) ≤ nat_abs y + nat_abs z
nat_abs-+ (pos a) (pos b) = le_refl (a + b)
nat_abs-+ (pos a) (negsuc b) = nat_abs-sub a b
nat_abs-+ (negsuc a) (pos b) = omega (arith, nat_abs-sub b a)
nat_abs-+ (negsuc a) (negsuc b) = omega arith

pub nat_abs-* : (y z : ℤ) → nat_abs (y *ℤ z) ≡ nat_abs y * nat_abs z
nat_abs-* (pos a) (pos b) = refl
nat_abs-* (pos a) (negsuc b) = nat_abs-neg (pos (a * suc b))
nat_abs-* (negsuc a) (pos b) = nat_abs-neg (pos (suc a * b))
nat_abs-* (negsuc a) (negsuc b) = refl

mag-nat_abs : (z : ℤ) → mag z ≤ nat_abs z
mag-nat_abs (pos n) = le_refl n
mag-nat_abs (negsuc n) = omega arith

-- bounds

pub at_most-neg : {b : ℕ} {z : ℤ} → AtMost b z → AtMost b (neg_ℤ z)
at_most-neg {b} {z} h = record { size = rw nat_abs-neg h.size }

pub at_most-+ : {a b : ℕ} {y z : ℤ} → AtMost a y → AtMost b z → AtMost (a + b) (y +ℤ z)
at_most-+ {a} {b} {y} {z} h k = record { size = omega (arith, nat_abs-+ y z) }

pub at_most-- : {a b : ℕ} {y z : ℤ} → AtMost a y → AtMost b z → AtMost (a + b) (y -ℤ z)
at_most-- h k = at_most-+ h (at_most-neg k)

pub at_most-* : {a b : ℕ} {y z : ℤ} → AtMost a y → AtMost b z → AtMost (a * b) (y *ℤ z)
at_most-* {a} {b} {y} {z} h k = record { size = rw nat_abs-* (mul-le-mul h.size k.size) }

-- expressions of the machine

abbrev pub local : Width → ℤ → ℤ
local w z = to_z w (of_z w z)

abbrev pub i32 : ℤ → ℤ
i32 = local w32

abbrev pub i64 : ℤ → ℤ
i64 = local w64

-- a record, so that all three can be inferred from an operand
pub record Exact (b : ℕ) (z e : ℤ) : Type 0 where
  pub bound : AtMost b z
  pub exact : e ≡ z

pub value : {b : ℕ} {z : ℤ} → AtMost b z → Exact b z z
value h = record { bound = h; exact = refl }

pub plus : {a b : ℕ} {y z d e : ℤ} → Exact a y d → Exact b z e → Exact (a + b) (y +ℤ z) (d +ℤ e)
plus r s = record { bound = at_most-+ r.bound s.bound; exact = cc }

pub minus : {a b : ℕ} {y z d e : ℤ} → Exact a y d → Exact b z e → Exact (a + b) (y -ℤ z) (d -ℤ e)
minus r s = record { bound = at_most-- r.bound s.bound; exact = cc }

pub times : {a b : ℕ} {y z d e : ℤ} → Exact a y d → Exact b z e → Exact (a * b) (y *ℤ z) (d *ℤ e)
times r s = record { bound = at_most-* r.bound s.bound; exact = cc }

pub fits : {w : Width} {b : ℕ} {z e : ℤ} → Exact b z e → T (ltb b (2 ^ hbits w)) → SFits w e
fits {w} {b} {z} r t =
    rw r.exact
    (record { sfits = lt_of_le_of_lt (le_trans (mag-nat_abs z) r.bound.size) (ltb→lt b (2 ^ hbits w) t) })

pub stored : {b : ℕ} {z e : ℤ} (w : Width) → Exact b z e → T (ltb b (2 ^ hbits w)) → Exact b z (local w e)
stored {e} w r t = record { bound = r.bound; exact = to_z-of_z w e (fits r t) ∙ r.exact }

-- what the cast of e to an unsigned type asks
pub size_fits : {w : Width} {b : ℕ} {z e : ℤ} → Exact b z e → T (non_neg z) → T (ltb b (2 ^ bits w)) → T (non_neg e) × Fits w (nat_abs e)
size_fits {w} {b} r h t =
    rw r.exact (h, record { fits = lt_of_le_of_lt r.bound.size (ltb→lt b (2 ^ bits w) t) })

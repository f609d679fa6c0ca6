-- Infinite descent.
--     nat_abs-<      sizes of integers that are not negative compare as they do
--     no_descent    nothing holds that holds on and on while a number that is never below 0 falls
use Prim.Native.Nat.{ℕ, zero, suc, ◌<◌}
use native.Mathlib.Omega.{arith}
use lib.Dec.{ltb→lt}
use lib.IntN.{ℤ, pos, negsuc, nat_abs}
use lib.Signed.{◌≤ℤ◌, ◌<ℤ◌}

nat_abs-< : (a b : ℤ) → pos 0 ≤ℤ a → a <ℤ b → nat_abs a < nat_abs b
nat_abs-< (pos a) (pos b) h k = ltb→lt a b k.lt
nat_abs-< (pos a) (negsuc b) h k = absurd k.lt
nat_abs-< (negsuc a) b h k = absurd h.le

pub no_descent : (P : ℕ → Type 0) (step : ℕ → ℕ) (size : ℕ → ℤ) → ((i : ℕ) → pos 0 ≤ℤ size i)
    → ((i : ℕ) → P i → P (step i) × (size (step i) <ℤ size i)) → (i : ℕ) → ¬ P i
no_descent P step size from-0 falls i holds = below (suc (nat_abs (size i))) i (omega arith) holds
  where
    below : (bound i : ℕ) → nat_abs (size i) < bound → ¬ P i
    below zero i less holds = omega arith
    below (suc bound) i less holds =
        let (on, falls-on) = falls i holds in
        below bound (step i) (omega (arith, nat_abs-< (size (step i)) (size i) (from-0 (step i)) falls-on)) on

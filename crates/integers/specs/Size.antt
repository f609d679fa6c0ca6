-- The size of a whole number, without its sign.
use Rattle.std.specs.Prelude.{ℕ, ◌≤◌, ℤ, nat_abs}

-- z is at most b in size. A record, so that b and z can be inferred from a hypothesis
pub record AtMost (b : ℕ) (z : ℤ) : Type 0 where
  pub size : nat_abs z ≤ b

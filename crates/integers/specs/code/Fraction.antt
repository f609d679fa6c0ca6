-- What the code that compares fractions promises and asks.
use Rattle.std.specs.Prelude.{ℕ, ◌^◌, ◌<◌}
use Rattle.std.specs.Ordering.{nat_cmp}
use Rattle.std.specs.declared.cmp.Ordering.{Ordering}
use Rattle.integers.specs.declared.fraction.Fraction.{Fraction}

-- the three-way comparison of two natural numbers
abbrev pub order : ℕ → ℕ → Ordering
order x y = nat_cmp x y

-- a fraction that `whole_units` takes: its lower number is below 2^32, and so is what a division by it leaves, whose
-- product with a number of 32 bits fits 64. That it is above 0 makes it a fraction
pub record Bounded (a : Fraction) : Type 0 where
  pub lower_positive : 0 < a.lower
  pub lower_fits : a.lower < 2 ^ 32

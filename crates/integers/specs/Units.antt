-- A fraction in whole units, rounded down.
use Rattle.std.specs.Prelude.{ℕ, ◌≤◌}
use Rattle.integers.specs.declared.fraction.Fraction.{Fraction}
use Rattle.integers.specs.Fraction.{NotGreater}

-- m units as a fraction, where u units make 1, and u is at least 1
abbrev pub of_units : ℕ → ℕ → Fraction
of_units u m = record { upper = m; lower = u }

-- m is the largest whole number of units that is not above the fraction
pub record WholeUnits (u : ℕ) (g : Fraction) (m : ℕ) : Type 0 where
  pub not_above : NotGreater (of_units u m) g
  pub largest : (k : ℕ) → NotGreater (of_units u k) g → k ≤ m

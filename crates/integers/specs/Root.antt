-- A square root, rounded up.
use Rattle.std.specs.Prelude.{ℕ, ◌*◌, ◌≤◌}
use Rattle.integers.specs.declared.fraction.Fraction.{Fraction}

-- m is the smallest whole number whose square is not below the fraction
pub record CeilingRoot (g : Fraction) (m : ℕ) : Type 0 where
  pub not_below : g.upper ≤ m * m * g.lower
  pub smallest : (k : ℕ) → g.upper ≤ k * k * g.lower → m ≤ k

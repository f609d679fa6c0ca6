-- Equality of whole numbers as a test that computes.
use Rattle.std.specs.Prelude.{Bool, ◌&&◌, ℤ}
use Rattle.std.specs.Int.Signed.{le_z}

-- neither number is less than the other
abbrev pub eq_z : ℤ → ℤ → Bool
eq_z a b = le_z a b && le_z b a

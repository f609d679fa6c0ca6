-- Signed numbers of 64 bits, as locals hold them.
--     i64-is       a number in a local is the number
--     read_back    a natural number that was cast
use Prim.Native.Nat.{ℕ, ◌^◌, ◌<◌}
use mathlib.Core.Path.{◌≡◌, ◌∙◌}
use lib.IntN.{ℤ, pos}
use mir.Syntax.{w64}
use mir.Val.{SFits, to_z}
use mir.ValLaws.{to_z-of_z}
use Rattle.integers.proofs.Machine.{i64}

-- a local holds the bits of a value that fits
pub i64-is : {y z : ℤ} → SFits w64 z → z ≡ y → i64 z ≡ y
i64-is {z} small is = to_z-of_z w64 z small ∙ is

-- bits below 2^63 are read as the number that they are
pub read_back : {n : ℕ} → n < 2 ^ 63 → to_z w64 n ≡ pos n
read_back {n} small = to_z-of_z w64 (pos n) (record { sfits = small })

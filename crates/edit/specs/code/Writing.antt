-- For the code that writes the corners of an edited outline.
use Rattle.std.specs.Prelude.{ℕ, zero, suc, ◌≤◌, ◌<◌, ◌≡◌, List, ℤ, length}
use Rattle.plane.specs.declared.Corner.{Corner}
use Rattle.plane.specs.Vector.{coordinates}
use Rattle.outline.specs.Corners.{corners}
use Rattle.edit.specs.Removal.{without}
use Rattle.edit.specs.Insertion.{inserted}

-- what removing needs: the list has corner k, and what remains fills the list to write
pub record Removable (s : List ℤ) (k : ℕ) (out : List ℤ) : Type 0 where
  pub known : k < length (corners s)
  pub long : length out ≡ length (coordinates (without k (corners s)))

-- the number in the longer list of the i-th of the other corners
abbrev pub old_number : ℕ → ℕ → ℕ
old_number zero i = suc i
old_number (suc k) zero = zero
old_number (suc k) (suc i) = suc (old_number k i)

-- what inserting needs: the list has at least k corners, and the result fills the list to write
pub record Insertable (s : List ℤ) (k : ℕ) (v : Corner) (out : List ℤ) : Type 0 where
  pub known : k ≤ length (corners s)
  pub long : length out ≡ length (coordinates (inserted k v (corners s)))

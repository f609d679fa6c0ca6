-- The first of some points, by a test of which of two comes before the other.
use Rattle.std.specs.Prelude.{ℕ, ◌<◌, ◌≡◌, Bool, List, length, drop}
use Rattle.lists.specs.code.Lists.{first_by}
use Rattle.plane.specs.declared.Corner.{Corner}
use Rattle.outline.specs.Corners.{corner}

-- the test can be asked of any two of the points
abbrev pub Comparable : (Corner → Corner → Type 0) → List Corner → Type 0
Comparable pre cs = (i j : ℕ) → i < length cs → j < length cs → pre (corner cs i) (corner cs j)

-- the test computes an order
abbrev pub Computes : (Corner → Corner → Bool → Type 0) → (Corner → Corner → Bool) → Type 0
Computes post before = (x y : Corner) (t : Bool) → post x y t → t ≡ before x y

-- r is the first of the points, by the order that the test computes
abbrev pub IsFirst : (Corner → Corner → Bool → Type 0) → List Corner → Corner → Type 0
IsFirst post cs r =
    (before : Corner → Corner → Bool) → Computes post before → r ≡ first_by before (corner cs 0) (drop 1 cs)

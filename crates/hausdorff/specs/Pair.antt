-- Two outlines that are compared, A and B.
use Rattle.std.specs.Prelude.{ℕ, ◌+◌, Bool, true, false, List, length}
use Rattle.plane.specs.declared.Corner.{Corner}
use Rattle.outline.specs.declared.Orientation.{Orientation}
use Rattle.outline.specs.declared.Side.{Side}
use Rattle.outline.specs.declared.Side.TheVariants.{A, B}
use Rattle.outline.specs.Orientation.{given_corner}

-- the corners of each side as held: a function of the side, so that what is done both ways is written once
abbrev pub Pair : Type 0
Pair = Side → List Corner

-- the pair of two corner lists
abbrev pub both : List Corner → List Corner → Pair
both ps qs A = ps
both ps qs B = qs

-- the orientation of each side's list
abbrev pub Orientations : Type 0
Orientations = Side → Orientation

-- those of two lists
abbrev pub both_orientations : Orientation → Orientation → Orientations
both_orientations o q A = o
both_orientations o q B = q

-- the number of a side's corner i in the list as given
abbrev pub given : Pair → Orientations → Side → ℕ → ℕ
given pair os s i = given_corner (os s) (length (pair s)) i

-- the other side
abbrev pub other : Side → Side
other A = B
other B = A

-- two sides are one
abbrev pub same_side : Side → Side → Bool
same_side A A = true
same_side A B = false
same_side B A = false
same_side B B = true

-- rule 5.3: N, the number of edges of both; an outline has as many edges as corners
abbrev pub step_count : Pair → ℕ
step_count pair = length (pair A) + length (pair B)

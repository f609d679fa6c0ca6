-- Rule 1.9: the orientation of a list of corners, how the corners are held, and their numbers in the list as given.
use Rattle.std.specs.Prelude.{ℕ, ◌-◌, ◌%◌, ◌≤◌, ◌<◌, ◌≡◌, ◌≢◌, List, [], ◌∷◌, reverse, ℤ, pos, length, ◌<ℤ◌}
use Rattle.plane.specs.declared.Corner.{Corner}
use Rattle.plane.specs.Vector.{side}
use Rattle.outline.specs.declared.Orientation.{Orientation}
use Rattle.outline.specs.declared.Orientation.TheVariants.{Counterclockwise, Clockwise}
use Rattle.outline.specs.Convex.{AllInRange, StrictlyConvex}
use Rattle.outline.specs.Corners.{corners, corner, next, fewest, most}

-- corner c is strictly right of edge e: its side number is negative
abbrev pub RightOf : List Corner → ℕ → ℕ → Type 0
RightOf cs e c = side (corner cs e) (corner cs (next (length cs) e)) (corner cs c) <ℤ pos 0

-- every corner other than an edge's two ends is strictly right of that edge, for every edge
abbrev pub StrictlyClockwise : List Corner → Type 0
StrictlyClockwise cs =
    (e c : ℕ) → e < length cs → c < length cs → c ≢ e → c ≢ next (length cs) e → RightOf cs e c

-- the corners fit an orientation
abbrev pub HasOrientation : Orientation → List Corner → Type 0
HasOrientation Counterclockwise cs = StrictlyConvex cs
HasOrientation Clockwise cs = StrictlyClockwise cs

-- corner 0, and then the others in the opposite order
abbrev pub reversed : List Corner → List Corner
reversed [] = []
reversed (c ∷ cs) = c ∷ reverse cs

-- the corners as they are held
abbrev pub as_held : Orientation → List Corner → List Corner
as_held Counterclockwise cs = cs
as_held Clockwise cs = reversed cs

-- of n corners the number, in the list as given, of the one that is held as corner j
unfoldable pub given_corner : Orientation → ℕ → ℕ → ℕ
given_corner Counterclockwise n j = j
given_corner Clockwise n j = (n - j) % n

-- of n edges the number, in the list as given, of the one that is held as edge j: in the list as given too, edge i joins
-- corner i to the following one (`given-edge-start`, `given-edge-end`)
abbrev pub given_edge : Orientation → ℕ → ℕ → ℕ
given_edge Counterclockwise n j = j
given_edge Clockwise n j = n - 1 - j

-- the list gives an outline that is accepted with this orientation: its length is even, and it has 3 to 256 corners,
-- every coordinate in range, which fit the orientation
pub record AcceptedAs (o : Orientation) (s : List ℤ) : Type 0 where
  pub even : length s % 2 ≡ 0
  pub at_least : fewest ≤ length (corners s)
  pub at_most : length (corners s) ≤ most
  pub all_in_range : AllInRange (corners s)
  pub fits : HasOrientation o (corners s)

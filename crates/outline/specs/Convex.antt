-- Rule 1.4: which corners are an accepted outline's.
use Rattle.std.specs.Prelude.{ℕ, ◌≤◌, ◌<◌, ◌≢◌, List, pos, length, ◌<ℤ◌}
use Rattle.plane.specs.declared.Corner.{Corner}
use Rattle.plane.specs.Range.{InRange}
use Rattle.plane.specs.Vector.{side}
use Rattle.outline.specs.Corners.{corner, next, fewest, most}

-- every coordinate is in range
abbrev pub AllInRange : List Corner → Type 0
AllInRange cs = (i : ℕ) → i < length cs → InRange (corner cs i)

-- corner c is strictly left of edge e: its side number is positive
abbrev pub LeftOf : List Corner → ℕ → ℕ → Type 0
LeftOf cs e c = pos 0 <ℤ side (corner cs e) (corner cs (next (length cs) e)) (corner cs c)

-- every corner other than an edge's two ends is strictly left of that edge, for every edge
abbrev pub StrictlyConvex : List Corner → Type 0
StrictlyConvex cs =
    (e c : ℕ) → e < length cs → c < length cs → c ≢ e → c ≢ next (length cs) e → LeftOf cs e c

-- 3 to 256 corners, every coordinate in range, and strictly convex
pub record Accepted (cs : List Corner) : Type 0 where
  pub at_least : fewest ≤ length cs
  pub at_most : length cs ≤ most
  pub all_in_range : AllInRange cs
  pub convex : StrictlyConvex cs

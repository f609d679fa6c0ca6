-- The order of points from the lowest on, and at one height from the left.
use Rattle.std.specs.Prelude.{◌≡◌, ◌⊎◌, ◌≤ℤ◌, ◌<ℤ◌}
use Rattle.plane.specs.declared.Corner.{Corner}

-- p is lower than q or, at the same height, not right of it
abbrev pub NotAfter : Corner → Corner → Type 0
NotAfter p q = (p.y <ℤ q.y) ⊎ ((p.y ≡ q.y) × (p.x ≤ℤ q.x))

-- Points and vectors of the plane with whole coordinates.
use Rattle.std.specs.Prelude.{List, [], ◌∷◌, ℤ, ◌+ℤ◌, ◌-ℤ◌, ◌*ℤ◌}
use Rattle.plane.specs.declared.Corner.{Corner}
use Rattle.plane.specs.declared.Vector.{Vector}

infix 60 ◌⇀◌
-- the vector from p to q: the differences of their coordinates
unfoldable pub ◌⇀◌ : Corner → Corner → Vector
p ⇀ q = record { x = q.x -ℤ p.x; y = q.y -ℤ p.y }

-- the cross product, positive where b turns left from a
unfoldable pub cross : Vector → Vector → ℤ
cross a b = (a.x *ℤ b.y) -ℤ (a.y *ℤ b.x)

-- the dot product: the sum of the products of the x and of the y differences
unfoldable pub dot : Vector → Vector → ℤ
dot a b = (a.x *ℤ b.x) +ℤ (a.y *ℤ b.y)

-- rule 1.3, the side number of v against the edge from p to q: (qx - px) × (vy - py) - (qy - py) × (vx - px)
abbrev pub side : Corner → Corner → Corner → ℤ
side p q v = cross (p ⇀ q) (p ⇀ v)

-- the list of numbers that gives some points: x and y of the first, then of the second, and so on
abbrev pub coordinates : List Corner → List ℤ
coordinates [] = []
coordinates (p ∷ ps) = p.x ∷ p.y ∷ coordinates ps

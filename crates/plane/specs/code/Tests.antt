-- Tests of points with whole coordinates.
use Rattle.std.specs.Prelude.{Bool, cond, ◌&&◌, pos}
use Rattle.std.specs.Int.Signed.{lt_z}
use Rattle.integers.specs.Equal.{eq_z}
use Rattle.plane.specs.declared.Corner.{Corner}
use Rattle.plane.specs.declared.Vector.{Vector}
use Rattle.plane.specs.Vector.{◌⇀◌, cross}

-- v is strictly left of the line that starts at `from` and has the differences `run`: its side number is positive
abbrev pub is_left : Corner → Vector → Corner → Bool
is_left from run v = lt_z (pos 0) (cross run (from ⇀ v))

-- v is strictly right of that line: its side number is negative
abbrev pub is_right : Corner → Vector → Corner → Bool
is_right from run v = lt_z (cross run (from ⇀ v)) (pos 0)

-- two points are the same
unfoldable pub same : Corner → Corner → Bool
same p q = eq_z p.x q.x && eq_z p.y q.y

-- p is lower than q or, at the same height, left of it
abbrev pub is_lower : Corner → Corner → Bool
is_lower p q = cond (eq_z p.y q.y) (lt_z p.x q.x) (lt_z p.y q.y)

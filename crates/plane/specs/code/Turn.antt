-- The turn from one vector to another.
use Rattle.std.specs.Prelude.{Bool, pos}
use Rattle.std.specs.Int.Signed.{lt_z}
use Rattle.plane.specs.declared.Vector.{Vector}
use Rattle.plane.specs.Vector.{cross}

-- b turns strictly left of a: by less than half a turn
abbrev pub turns_left : Vector → Vector → Bool
turns_left a b = lt_z (pos 0) (cross a b)

-- Rule 5.1, the direction of an edge, by whole numbers.
use Rattle.std.specs.Prelude.{Bool, true, false, not, ◌&&◌, ◌||◌, pos}
use Rattle.std.specs.Int.Signed.{lt_z}
use Rattle.integers.specs.Equal.{eq_z}
use Rattle.plane.specs.Vector.{cross}
use Rattle.plane.specs.declared.Vector.{Vector}

-- in the first half turn, counterclockwise from the positive x axis: dy is positive, or dy is zero and dx positive
unfoldable pub is_first_half : Vector → Bool
is_first_half d = lt_z (pos 0) d.y || (eq_z d.y (pos 0) && lt_z (pos 0) d.x)

-- two tests give the same: both vectors are in the first half turn, or both in the second
abbrev pub same_half : Bool → Bool → Bool
same_half true t = t
same_half false t = not t

-- the first half comes first; within a half d comes before e when dx × ey - dy × ex is positive
unfoldable pub is_before : Vector → Vector → Bool
is_before d e =
    (is_first_half d && not (is_first_half e)) || (same_half (is_first_half d) (is_first_half e) && lt_z (pos 0) (cross d e))

-- two directions are equal when the vectors are in the same half and dx × ey - dy × ex is zero
unfoldable pub same_direction : Vector → Vector → Bool
same_direction d e = same_half (is_first_half d) (is_first_half e) && eq_z (cross d e) (pos 0)

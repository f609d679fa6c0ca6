-- A corner written to a list of numbers.
use Rattle.std.specs.Prelude.{ℕ, ◌+◌, ◌*◌, List, ℤ, set}
use Rattle.plane.specs.declared.Corner.{Corner}

-- a list with a corner written as its corner j
abbrev pub put_corner : List ℤ → ℕ → Corner → List ℤ
put_corner s j c = set (set s (2 * j) c.x) (2 * j + 1) c.y

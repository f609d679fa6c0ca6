-- Strict convexity, tested in one pass over the corners: `proofs/TurnsLaws.antt` shows that corners pass exactly
-- where they are `StrictlyConvex`.
use Rattle.std.specs.Prelude.{ℕ, suc, ◌-◌, Bool, ◌&&◌, List, length}
use Rattle.lists.specs.Fold.{all}
use Rattle.plane.specs.declared.Corner.{Corner}
use Rattle.plane.specs.declared.Vector.{Vector}
use Rattle.plane.specs.Vector.{◌⇀◌}
use Rattle.plane.specs.code.Tests.{is_left}
use Rattle.outline.specs.Corners.{corner}

-- the tests of a corner: against edge 0, the line from corner 0 to the corner before, and the edge to that corner.
-- v comes after p and q; edge 0 starts at `from` and has the differences `run`
abbrev pub keeps_left : Corner → Vector → Corner → Corner → Corner → Bool
keeps_left from run p q v = is_left from run v && is_left from (from ⇀ q) v && is_left p (p ⇀ q) v

-- the tests of corner i + 2
abbrev pub keeps_left_at : List Corner → ℕ → Bool
keeps_left_at cs i =
    keeps_left (corner cs 0) (corner cs 0 ⇀ corner cs 1) (corner cs i) (corner cs (suc i)) (corner cs (suc (suc i)))

-- every corner after the first two passes them
unfoldable pub is_convex : List Corner → Bool
is_convex cs = all (keeps_left_at cs) (length cs - 2)

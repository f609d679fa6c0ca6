-- `wrapping::points::first_by` passes over the points and keeps the first: one of the points, so that it can be compared.
use Rattle.std.proofs.Common.{◌≡◌, ◌<◌, ℕ, Bool, length}
use Rattle.lists.proofs.FirstByLaws.{Choosing}
use Rattle.plane.specs.declared.Corner.{Corner}
use Rattle.outline.specs.Corners.{corners, corner, origin}
use Rattle.wrapping.specs.First.{Computes}
use Rattle.wrapping.proofs.points.first_by.Given as goal

abbrev pub invariant-loop-i : goal.invariant-loop-i
invariant-loop-i g l =
    ((j : ℕ) × (j < length (corners l.zs)) × (l.found ≡ corner (corners l.zs) j))
    × ((before : Corner → Corner → Bool) → Computes (goal.F-post g l.comes_before) before
    → Choosing before origin (corners l.zs) l.i l.found)

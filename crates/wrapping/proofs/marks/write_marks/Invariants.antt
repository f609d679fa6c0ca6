-- `wrapping::marks::write_marks` writes a mark a turn.
use Rattle.std.proofs.Common.{◌≡◌, ◌<◌, ℕ, pos, get_or}
use Rattle.outline.specs.Corners.{corners}
use Rattle.hull.specs.code.Marks.{mark}
use Rattle.wrapping.proofs.marks.write_marks.Given as goal

abbrev pub invariant-loop-i : goal.invariant-loop-i
invariant-loop-i l = (k : ℕ) → k < l.i → get_or l.out k (pos 0) ≡ mark (corners l.s) (corners l.hull) k

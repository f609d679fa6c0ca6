-- `wrapping::points::is_candidate` goes by whether p is the start.
use mathlib.Core.Path.{◌≡◌, ◌∙◌}
use mathlib.Core.Bool.{Bool, true, false, not}
use Rattle.plane.specs.declared.Corner.{Corner}
use Rattle.plane.specs.declared.Vector.{Vector}
use Rattle.plane.specs.Vector.{◌⇀◌}
use Rattle.plane.specs.code.Tests.{is_left, same}
use Rattle.plane.proofs.Range.{span-difference}
use Rattle.plane.proofs.Tests.{same-is}
use Rattle.hull.specs.code.Wrapping.{is_candidate}
use Rattle.wrapping.proofs.points.is_candidate.Goals as goal

-- by what the test of p and the start answers
module _ (s p z : Corner) {t : Bool} (tested : t ≡ same s p) where
  from_start : {u : Bool} → u ≡ same s z → t ≡ true → not u ≡ is_candidate s p z
  unfolding is_candidate
  from_start is start = rw (← tested, start, is)

  later : {u : Bool} {run : Vector} → u ≡ is_left s run z → run ≡ s ⇀ p → t ≡ false → u ≡ is_candidate s p z
  unfolding is_candidate
  later is from other = rw (← tested, other, ← from) is

pub returns-then-eq : goal.returns-then-eq
returns-then-eq c = c.ne.ensures ∙ from_start _ _ _ (c.eq.ensures ∙ same-is _ _) (same-is _ _) c.if-eq.true

pub is_left-requires-clause-span : goal.is_left-requires-clause-span
is_left-requires-clause-span c = span-difference c.difference.ensures c.requires.in_range c.requires.in_range_2

pub returns : goal.returns
returns c =
    later _ _ _ (c.eq.ensures ∙ same-is _ _) c.is_left.ensures c.difference.ensures
    c.if-eq.false

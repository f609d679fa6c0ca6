-- `projection::local::corner_is_nearest` makes the definition's three tests, the last of them first.
use borrow.Author.Rules.{sfits_of}
use mathlib.Core.Bool.{Bool, true, false, not, and-true, and-false}
use mathlib.Core.Path.{◌≡◌, ◌∙◌}
use lib.IntN.{ℤ, pos}
use lib.Signed.{lt_z, le_z}
use mir.Facts.{to_z-of_z}
use mir.Syntax.{w64}
use mir.Val.{SFits}
use Rattle.integers.proofs.Order.{lt_z-true, lt_z-false, ≤ℤ-le_z, <ℤ-le_z}
use Rattle.plane.specs.declared.Corner.{Corner}
use Rattle.plane.specs.Vector.{◌⇀◌, dot}
use Rattle.plane.specs.code.Tests.{same}
use Rattle.plane.proofs.Range.{span-difference}
use Rattle.plane.proofs.Tests.{same-is}
use Rattle.nearest.specs.code.Local.{corner_is_nearest}
use Rattle.projection.proofs.local.corner_is_nearest.Goals as goal

above : (z : ℤ) → lt_z (pos 0) z ≡ true → le_z z (pos 0) ≡ false
above z e = <ℤ-le_z (lt_z-true {a = pos 0} {b = z} e)

not_above : (z : ℤ) → lt_z (pos 0) z ≡ false → le_z z (pos 0) ≡ true
not_above z e = ≤ℤ-le_z (lt_z-false {a = pos 0} {b = z} e)

module _ (v before c after : Corner) where
  abbrev to-before : ℤ
  to-before = dot (c ⇀ v) (c ⇀ before)

  abbrev to-after : ℤ
  to-after = dot (c ⇀ v) (c ⇀ after)

  toward-after : lt_z (pos 0) to-after ≡ true → false ≡ corner_is_nearest v before c after
  toward-after e = rw (above to-after e, and-false)

  toward-before : lt_z (pos 0) to-before ≡ true → false ≡ corner_is_nearest v before c after
  toward-before e = rw (above to-before e, and-false)

  neither : {s : Bool} → lt_z (pos 0) to-after ≡ false → lt_z (pos 0) to-before ≡ false → s ≡ same c v
      → not s ≡ corner_is_nearest v before c after
  neither a b is = rw (not_above to-after a, not_above to-before b, is) (simp and-true)

pub dot-requires : goal.dot-requires
dot-requires c = search span-difference

pub returns-then-dot-gt0 : goal.returns-then-dot-gt0
returns-then-dot-gt0 c =
    let after-fits : SFits w64 c.dot.result = search sfits_of in
    toward-after _ _ _ _
    (rw (to_z-of_z after-fits, c.dot.ensures, c.difference.ensures, c.difference-to.ensures)
    at c.if-dot-gt0.true)

pub dot-requires-2 : goal.dot-requires-2
dot-requires-2 c = search span-difference

pub returns-then-dot-gt0-2 : goal.returns-then-dot-gt0-2
returns-then-dot-gt0-2 c =
    let before-fits : SFits w64 c.dot-2.result = search sfits_of in
    toward-before _ _ _ _
    (rw (to_z-of_z before-fits, c.dot-2.ensures, c.difference-2.ensures, c.difference-to.ensures) at c.if-dot-gt0-2.true)

pub returns : goal.returns
returns c =
    let after-fits : SFits w64 c.dot.result = search sfits_of in
    let before-fits : SFits w64 c.dot-2.result = search sfits_of in
    c.ne.ensures ∙ neither _ _ _ _
    (rw (to_z-of_z after-fits, c.dot.ensures, c.difference.ensures, c.difference-to.ensures)
    at c.if-dot-gt0.false)
    (rw (to_z-of_z before-fits, c.dot-2.ensures, c.difference-2.ensures, c.difference-to.ensures)
    at c.if-dot-gt0-2.false)
    (same-is _ _)

-- `reading::checks::orientation` tests corner 2 against edge 0.
use mathlib.Core.Bool.{Bool, cond}
use mathlib.Core.List.{List}
use mathlib.Core.Path.{◌≡◌}
use native.Mathlib.Omega.{arith}
use Prim.Native.Nat.{◌≤◌}
use lib.ListN.{length}
use Rattle.plane.specs.declared.Corner.{Corner}
use Rattle.plane.specs.declared.Vector.{Vector}
use Rattle.plane.specs.Range.{InRange}
use Rattle.plane.specs.Vector.{◌⇀◌}
use Rattle.plane.specs.code.Range.{Span, reach}
use Rattle.plane.specs.code.Tests.{is_left}
use Rattle.plane.proofs.Range.{span-⇀}
use Rattle.outline.specs.declared.Orientation.TheVariants.{Counterclockwise, Clockwise}
use Rattle.outline.specs.Convex.{AllInRange}
use Rattle.outline.specs.Corners.{corners, corner, fewest}
use Rattle.outline.specs.code.Either.{orientation_of}
use Rattle.reading.proofs.checks.orientation.Goals as goal

module _ (cs : List Corner) {p q v : Corner} {run : Vector} (is-p : p ≡ corner cs 0) (is-q : q ≡ corner cs 1)
    (is-run : run ≡ p ⇀ q) (is-v : v ≡ corner cs 2) where
  -- what `is_left` asks
  in_reach : fewest ≤ length cs → AllInRange cs → Span reach run × (InRange p × InRange v)
  in_reach three all =
      let p-in = all 0 (omega arith) in
      (rw (is-run, is-p, is-q) (span-⇀ p-in (all 1 (omega arith))), (rw is-p p-in, rw is-v (all 2 (omega arith))))

  told : {t b : Bool} → t ≡ is_left p run v → t ≡ b → cond b Counterclockwise Clockwise ≡ orientation_of cs
  unfolding orientation_of
  told is answer = rw (← is-p, ← is-q, ← is-run, ← is-v, ← is, answer)

pub is_left-requires : goal.is_left-requires
is_left-requires c =
    let (run, (from, to)) =
    in_reach (corners _) c.corner-p.ensures c.corner.ensures c.difference-run.ensures
    c.corner-2.ensures c.requires.fewest_in_bounds c.requires.all_in_range in
    record { span = run; in_range = from; in_range_2 = to }

pub returns-then-is_left : goal.returns-then-is_left
returns-then-is_left c =
    told (corners _) c.corner-p.ensures c.corner.ensures c.difference-run.ensures
    c.corner-2.ensures c.is_left.ensures c.if-is_left.true

pub returns-else-is_left : goal.returns-else-is_left
returns-else-is_left c =
    told (corners _) c.corner-p.ensures c.corner.ensures c.difference-run.ensures
    c.corner-2.ensures c.is_left.ensures c.if-is_left.false

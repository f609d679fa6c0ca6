-- `wrapping::wrap` finds a corner a turn, and leaves out the points that can no longer come.
use native.Mathlib.Omega.{arith}
use Prim.Native.Nat.{◌*◌, ◌≤◌, ◌<◌}
use mathlib.Core.List.{List, Memᴰ}
use lib.IntN.{ℤ}
use lib.ListN.{length}
use Rattle.plane.specs.declared.Corner.{Corner}
use Rattle.plane.specs.Range.{InRange}
use Rattle.outline.specs.Convex.{AllInRange}
use Rattle.hull.proofs.Points.{member-corner}
use Rattle.wrapping.proofs.WrapLaws.{part_count, keeps-part, keeps-fits, keeps-room}
use Rattle.wrapping.proofs.WrapLaws.{wrap-start, wrap-room, next-in-range, wrap-less, wrap-next, wrap-end}
use Rattle.wrapping.proofs.wrap.Goals as goal

-- the start is in range, as one of the points, and there is room for it
start-in-range : {s : Corner} {cs : List Corner} → Memᴰ s cs → AllInRange cs → InRange s
start-in-range there all = let (i, below, is) = member-corner there in rw is at (all i below)

first-room : {s : Corner} (cs : List Corner) (hull : List ℤ) → Memᴰ s cs → 2 * length cs ≤ length hull → 1 < length hull
first-room cs hull there room = let (i, below, is) = member-corner there in omega arith

pub keep_candidates-left-requires-clause-in_range : goal.keep_candidates-left-requires-clause-in_range
keep_candidates-left-requires-clause-in_range c = start-in-range c.requires.fact c.requires.all_in_range

pub keep_candidates-left-requires-clause-in_range_2 : goal.keep_candidates-left-requires-clause-in_range_2
keep_candidates-left-requires-clause-in_range_2 c = start-in-range c.requires.fact c.requires.all_in_range

pub foremost-last-requires-clause-nonzero : goal.foremost-last-requires-clause-nonzero
foremost-last-requires-clause-nonzero c =
    omega (arith, part_count c.loop-left.zs c.loop-left.left c.loop-left.invariant.fits)

pub keep_candidates-left-requires-in-loop-left-clause-in_range : goal.keep_candidates-left-requires-in-loop-left-clause-in_range
keep_candidates-left-requires-in-loop-left-clause-in_range c = start-in-range c.requires.fact c.requires.all_in_range

pub keep_candidates-left-requires-in-loop-left-clause-in_range_2 : goal.keep_candidates-left-requires-in-loop-left-clause-in_range_2
keep_candidates-left-requires-in-loop-left-clause-in_range_2 c =
    next-in-range c.loop-left.invariant c.loop-left-test.true c.foremost-last.ensures

pub overflow_add-count : goal.overflow_add-count
overflow_add-count c =
    omega (
      arith,
      wrap-room c.loop-left.invariant c.loop-left-test.true
          (keeps-room c.keep_candidates-left.ensures c.requires.fact c.args.hull.now _ c.requires.zs_in_bounds
          c.put_corner.ensures),
    )

pub loop-left-init : goal.loop-left-init
loop-left-init c =
    rw c.put_corner.ensures
    (wrap-start c.args.hull.now c.keep_candidates-left.ensures c.requires.all_in_range
    (start-in-range c.requires.fact c.requires.all_in_range) (first-room _ c.args.hull.now c.requires.fact c.requires.zs_in_bounds))

pub put_corner-requires-in-loop-left : goal.put_corner-requires-in-loop-left
put_corner-requires-in-loop-left c =
    wrap-room c.loop-left.invariant c.loop-left-test.true
    (keeps-room c.keep_candidates-left.ensures c.requires.fact c.args.hull.now _ c.requires.zs_in_bounds
    c.put_corner.ensures)

pub loop-left-smaller : goal.loop-left-smaller
loop-left-smaller c =
    wrap-less c.loop-left.invariant c.loop-left-test.true c.foremost-last.ensures
    c.keep_candidates-left-in-loop-left.ensures

pub loop-left-preserved : goal.loop-left-preserved
loop-left-preserved c =
    rw c.put_corner-in-loop-left.ensures
    (wrap-next c.loop-left.invariant c.loop-left-test.true c.foremost-last.ensures
    c.keep_candidates-left-in-loop-left.ensures
    (wrap-room c.loop-left.invariant c.loop-left-test.true
    (keeps-room c.keep_candidates-left.ensures c.requires.fact c.args.hull.now _ c.requires.zs_in_bounds
    c.put_corner.ensures)))

pub returns : goal.returns
returns c =
    rw (keeps-part c.keep_candidates-left.ensures) at
    (wrap-end c.loop-left.invariant c.loop-left-test.false
    (keeps-room c.keep_candidates-left.ensures c.requires.fact c.args.hull.now _ c.requires.zs_in_bounds
    c.put_corner.ensures)
    (part_count _ _ (keeps-fits c.keep_candidates-left.ensures)))

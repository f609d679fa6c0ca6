-- `calls::convex_hull` goes by the checks of the points and then by the count of corners.
use mathlib.Core.Path.{◌≡◌, sym}
use mathlib.Core.List.{List}
use native.Mathlib.Omega.{arith}
use Prim.Native.Nat.{ℕ, ◌*◌, ◌≤◌}
use lib.IntN.{ℤ}
use lib.ListN.{length, take}
use lib.Seq.{length-take-le}
use Rattle.std.proofs.lemmas.Result.{err_from_is_err_and}
use Rattle.plane.specs.Vector.{coordinates}
use Rattle.outline.specs.Corners.{corners, most}
use Rattle.outline.proofs.CornersLaws.{corners-fit}
use Rattle.hull.specs.Call.{PermittedPoints, filled_up}
use Rattle.hull.specs.code.Marks.{marks}
use Rattle.hull.specs.code.Wrapping.{convex_hull}
use Rattle.hull.proofs.CallLaws.{points-refused, points-short, points-made, points-permit, refused-promises, made-promises}
use Rattle.hull.proofs.HullLaws.{hull-length}
use Rattle.wrapping.specs.Steps.{Wraps}
use Rattle.wrapping.proofs.WrapLaws.{wraps-corners, wraps-fits}
use Rattle.calls.proofs.convex_hull.Goals as goal

-- the corners that were found, in a list of the call
module _ (s : List ℤ) {room places : ℕ} (may : PermittedPoints s room places) {r : ℕ} {l : List ℤ}
    (wraps : Wraps (convex_hull (corners s)) r l) where
  -- there is room for them
  part-fits : length (take (2 * r) l) ≤ room
  part-fits =
      omega (arith, length-take-le (2 * r) l (wraps-fits wraps), wraps.count, hull-length (corners s), corners-fit s, may.long)

  few : length (corners (take (2 * r) l)) ≤ most
  few = rw (wraps-corners wraps) (omega (arith, hull-length (corners s), may.at_most))

  written : {out : List ℤ} → out ≡ filled_up room (take (2 * r) l) → out ≡ filled_up (length s) (coordinates (convex_hull (corners s)))
  written is = rw (wraps.first, may.long) at is

  marked : {ms : List ℤ} → ms ≡ marks (corners s) (corners (take (2 * r) l)) → ms ≡ marks (corners s) (convex_hull (corners s))
  marked is = rw (wraps-corners wraps) at is

pub returns-in_err-check_points : goal.returns-in_err-check_points
returns-in_err-check_points c =
    let p = err_from_is_err_and c.from_residual.result c.from_residual.ensures.1 in
    let promised =
    refused-promises _ _ _ (points-refused _ _ _ c.check_points.ensures c.in_err-check_points.was) in
    rw (p.1, p.2) (record { answer = promised.0; list = promised.1.0; marked = promised.1.1.0; rules = promised.1.1.1 })

pub convex_hull-count-requires : goal.convex_hull-count-requires
convex_hull-count-requires c =
    let may = points-permit _ _ _ c.check_points.ensures
    c.in_ok-check_points.was in
    record { s_len = may.even; s_len_bound = may.at_most; all_in_range = may.all_in_range; hull_len = sym c.no_numbers-hull.ensures }

pub returns-then-count-lt-FEWEST : goal.returns-then-count-lt-FEWEST
returns-then-count-lt-FEWEST c =
    let promised =
    refused-promises _ _ _ (points-short _ _ _ c.check_points.ensures
    c.in_ok-check_points.was c.convex_hull-count.ensures.count c.if-count-lt-FEWEST.true) in
    rw c.refuse.ensures (record { answer = promised.0; list = promised.1.0; marked = promised.1.1.0; rules = promised.1.1.1 })

pub overflow_mul-hull : goal.overflow_mul-hull
overflow_mul-hull c =
    let may = points-permit _ _ _ c.check_points.ensures c.in_ok-check_points.was in
    omega (arith, c.convex_hull-count.ensures.count, hull-length (corners c.args.s.now), may.at_most)

pub overflow_mul-hull-2 : goal.overflow_mul-hull-2
overflow_mul-hull-2 c =
    let may = points-permit _ _ _ c.check_points.ensures c.in_ok-check_points.was in
    omega (arith, c.convex_hull-count.ensures.count, hull-length (corners c.args.s.now), may.at_most)

pub slice_bounds-hull-end : goal.slice_bounds-hull-end
slice_bounds-hull-end c = wraps-fits c.convex_hull-count.ensures

pub slice_bounds-fill-end : goal.slice_bounds-fill-end
slice_bounds-fill-end c = sym (length-take-le _ _ (wraps-fits c.convex_hull-count.ensures))

pub fill-requires : goal.fill-requires
fill-requires c =
    part-fits _ (points-permit _ _ _ c.check_points.ensures c.in_ok-check_points.was) c.convex_hull-count.ensures

pub slice_bounds-hull-end-2 : goal.slice_bounds-hull-end-2
slice_bounds-hull-end-2 c = wraps-fits c.convex_hull-count.ensures

pub slice_bounds-write_marks-end : goal.slice_bounds-write_marks-end
slice_bounds-write_marks-end c = sym (length-take-le _ _ (wraps-fits c.convex_hull-count.ensures))

pub write_marks-requires : goal.write_marks-requires
write_marks-requires c =
    let may = points-permit _ _ _ c.check_points.ensures c.in_ok-check_points.was in
    record { out_len = may.marks_long; hull_len_bound = few _ may c.convex_hull-count.ensures }

pub returns : goal.returns
returns c =
    let may = points-permit _ _ _ c.check_points.ensures c.in_ok-check_points.was in
    let promised =
    made-promises _ _ _ (points-made _ _ _ c.check_points.ensures
    c.in_ok-check_points.was c.convex_hull-count.ensures.count
    c.if-count-lt-FEWEST.false)
    c.convex_hull-count.ensures.count (written _ may c.convex_hull-count.ensures c.fill.ensures)
    (marked _ may c.convex_hull-count.ensures c.write_marks.ensures) in
    record { answer = promised.0; list = promised.1.0; marked = promised.1.1.0; rules = promised.1.1.1 }

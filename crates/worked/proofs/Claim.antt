-- All marked examples hold: each by computing what the definitions give.
use mathlib.Core.Path.{refl}
use Rattle.plane.specs.code.Range.{in_range}
use Rattle.plane.specs.Vector.{◌⇀◌, cross, dot}
use Rattle.plane.specs.code.Tests.{same}
use Rattle.lists.specs.Fold.{fold}
use Rattle.outline.specs.Corners.{corners, next}
use Rattle.outline.specs.Orientation.{given_corner}
use Rattle.outline.specs.code.Reading.{check_range, check_repeated, check_edge, check_convex, check}
use Rattle.outline.specs.code.Turns.{is_convex}
use Rattle.outline.specs.code.Either.{orientation_of, check_either_convex, check_either}
use Rattle.nearest.specs.code.Local.{feature}
use Rattle.nearest.specs.Search.{tried, least}
use Rattle.nearest.specs.code.Call.{check_nearest}
use Rattle.edit.specs.Removal.{without}
use Rattle.edit.specs.code.Removal.{check_removal}
use Rattle.edit.specs.Insertion.{inserted}
use Rattle.edit.specs.code.Insertion.{check_insertion}
use Rattle.lists.specs.code.Lists.{first_by}
use Rattle.hull.specs.code.Wrapping.{is_candidate, kept, is_ahead, wrap, convex_hull}
use Rattle.hull.specs.code.Marks.{is_among, number_from, marks}
use Rattle.hull.specs.code.Call.{check_hull}
use Rattle.plane.specs.Direction.{is_first_half, is_before, same_direction}
use Rattle.plane.specs.Point.{◌⇢◌}
use Rattle.integers.specs.code.Root.{root_by}
use Rattle.integers.specs.code.Units.{whole_units}
use Rattle.lists.specs.Lists.{insert, sort}
use Rattle.hausdorff.specs.AngularOrder.{precedes, angular_order}
use Rattle.hausdorff.specs.code.Counting.{lies_at, is_counted}
use Rattle.hausdorff.specs.Support.{first_start, pass_all}
use Rattle.hausdorff.specs.code.Sweep.{measured, worst_after}
use Rattle.hausdorff.specs.code.Report.{report}
use Rattle.hausdorff.specs.code.Call.{check_pair}
use Rattle.records.specs.Chain.{records, walk_from}
use Rattle.records.specs.code.Call.{check_records}
use Rattle.worked.specs.Cases.{All, cases, S, T, halved, star, straight, clockwise, straight_back, twice, wedge, moved}
use Rattle.worked.specs.Cases.{turned, low, high, S3, T3, upward, downward, square, square_back, square_moved, flat}
use Rattle.worked.specs.Cases.{tall, kite, kite_back, thin, wide, needle, long, long_bent, short, short_bent, store}
use Rattle.worked.specs.Cases.{cloud, cloud_back, straight_hull, star_hull, in_line}

pub claim : All cases
unfolding in_range ◌⇀◌ cross dot same fold corners next check_range check_repeated check_edge check_convex check check_pair
    without check_removal inserted check_insertion feature tried least check_nearest is_first_half is_before same_direction ◌⇢◌
    root_by precedes insert sort angular_order lies_at is_counted first_start pass_all measured worst_after report
    orientation_of given_corner check_either_convex check_either is_convex whole_units
    S T halved star straight clockwise straight_back twice wedge moved turned low high S3 T3 upward downward
    square square_back square_moved flat tall kite kite_back thin wide needle long long_bent short short_bent store
    records walk_from check_records first_by is_candidate kept is_ahead wrap convex_hull is_among number_from marks check_hull
    cloud cloud_back straight_hull star_hull in_line
claim =
    (refl, (refl, (refl, (refl, (refl, (refl, (refl, (refl, (refl, (refl, (refl, (refl, ((refl, refl), ((refl, refl), ((refl, refl), ((refl, refl), ((refl, refl), ((refl, refl), ((refl, refl), ((refl, refl), ((refl, refl), ((refl, refl), ((refl, refl), ((refl, refl), ((refl, refl), ((refl, refl), ((refl, refl), ((refl, refl), ((refl, refl), ((refl, refl), ((refl, refl, refl), ((refl, refl, refl), ((refl, refl, refl), ((refl, refl, refl), ((refl, refl, refl), ((refl, refl, refl), ((refl, refl, refl), ((refl, refl, refl), ((refl, refl, refl), ((refl, refl, refl), ((refl, refl, refl), ((refl, refl, refl), ((refl, refl, refl), ((refl, refl, refl), (refl, (refl, (refl, (refl, (refl, (refl, (refl, (refl, (refl, (refl, (refl, (refl, (refl, (refl, (refl, (refl, (refl, (refl, (refl, (refl, (refl, (refl, (refl, (refl, (refl, (refl, (refl, (refl, (refl, (refl, (refl, (refl, (refl, (refl, (refl, (refl, (refl, (refl, (refl, (refl, (refl, (refl, (refl, (refl, (refl, (refl, (refl, (refl, (refl, (refl, (refl, (refl, (refl, (refl, (refl, (refl, ((refl, refl, refl), ((refl, refl, refl), ((refl, refl, refl), ((refl, refl, refl), ((refl, refl, refl), ((refl, refl, refl), ((refl, refl, refl), (refl, (refl, (refl, (refl, (refl, (refl, (refl, (refl, (refl, (refl, (refl, (refl, (refl, (refl, (refl, (refl, (refl, (refl, (refl, (refl, (refl, (refl, (refl, (refl, (refl, (refl, (refl, (refl, (refl, (refl, (refl, tt))))))))))))))))))))))))))))))))))))))))))))))))))))))))))))))))))))))))))))))))))))))))))))))))))))))))))))))))))))))))))))))))))))))))))

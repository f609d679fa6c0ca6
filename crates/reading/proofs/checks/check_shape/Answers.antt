-- `reading::checks::check_shape` makes the two checks in order. Where the corners are strictly convex, both take.
use Rattle.outline.proofs.ChecksLaws.{first_stops, first-goes-on, first-last}
use Rattle.reading.proofs.CheckLaws.{convex-shape}
use Rattle.reading.proofs.checks.check_shape.Goals as goal

ruleset in_order = (convex-shape, first_stops, first-goes-on, first-last)

pub returns-then-is_convex : goal.returns-then-is_convex
returns-then-is_convex c = search in_order

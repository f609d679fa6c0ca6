-- The pass over the corners that tests strict convexity: it visits each corner once. For the code alone.
use Rattle.std.specs.Prelude.{Bool, ◌&&◌}
use Rattle.plane.specs.declared.Corner.{Corner}
use Rattle.plane.specs.declared.Vector.{Vector}
use Rattle.plane.specs.Vector.{◌⇀◌}
use Rattle.plane.specs.code.Range.{Span, reach}
use Rattle.plane.specs.code.Turn.{turns_left}
use Rattle.reading.specs.declared.checks.Visit.{Visit}

-- the visit of the corner `to`, which comes after `from`; `apex` is corner 0
abbrev pub visit_of : Corner → Corner → Corner → Visit
visit_of apex from to = record {
  corner = to;
  diagonal = apex ⇀ to;
  edge = from ⇀ to;
}

-- its differences are those of points in range
pub record InReach (visit : Visit) : Type 0 where
  pub diagonal : Span reach visit.diagonal
  pub edge : Span reach visit.edge

-- the tests of a corner by its visit and `last`, that of the corner before. `keeps_left` in
-- `outline/specs/code/Turns.antt` makes them by the corners; `tests` in the proof of `is_convex` shows that they are
-- the same
abbrev pub keeps_left_by : Vector → Visit → Visit → Bool
keeps_left_by run last visit =
    turns_left run visit.diagonal
    && turns_left last.diagonal visit.diagonal
    && turns_left last.edge visit.edge

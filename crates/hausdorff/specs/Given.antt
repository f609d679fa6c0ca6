-- Rule 6.5: a report with its corners and edges named by the lists as given, where `pair` has the corners as held.
use Rattle.std.specs.Prelude.{length, Option, None, Some}
use Rattle.outline.specs.declared.Side.TheVariants.{A, B}
use Rattle.nearest.specs.Given.{given_nearest}
use Rattle.hausdorff.specs.declared.CornerGap.{CornerGap}
use Rattle.hausdorff.specs.declared.Spent.{Spent}
use Rattle.hausdorff.specs.declared.Done.{Done}
use Rattle.hausdorff.specs.declared.Report.{Report}
use Rattle.hausdorff.specs.Pair.{Pair, Orientations, given, other}
use Rattle.hausdorff.specs.CornerGap.{with_corner, nearest_of}

-- a gap: the corner has its number in its own list, and the nearest feature has its number in the other list
abbrev pub given_gap : Pair → Orientations → CornerGap → CornerGap
given_gap pair os w =
    let t = other w.side in
    with_corner w.side (given pair os w.side w.corner) (given_nearest (os t) (length (pair t)) (nearest_of w))

-- the worst so far: its gap, if there is one
abbrev pub given_worst : Pair → Orientations → Option CornerGap → Option CornerGap
given_worst pair os None = None
given_worst pair os (Some w) = Some (given_gap pair os w)

-- a spent report: its support corners, each with the number in its own list, and the worst so far
abbrev pub given_spent : Pair → Orientations → Spent → Spent
given_spent pair os p = record {
  steps = p.steps;
  support = record { a = given pair os A p.support.a; b = given pair os B p.support.b };
  worst = given_worst pair os p.worst;
  sides = record { a = given_worst pair os p.sides.a; b = given_worst pair os p.sides.b };
}

-- a done report: its answer and the worst of each side
abbrev pub given_done : Pair → Orientations → Done → Done
given_done pair os d = record {
  steps = d.steps;
  answer = given_gap pair os d.answer;
  clearance = d.clearance;
  sides = record { a = given_gap pair os d.sides.a; b = given_gap pair os d.sides.b };
}

-- a report, spent or done
abbrev pub given_report : Pair → Orientations → Report → Report
given_report pair os (Report.Spent p) = Report.Spent (given_spent pair os p)
given_report pair os (Report.Done d) = Report.Done (given_done pair os d)

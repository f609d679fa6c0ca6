-- Rules 9.4 to 9.6, 9.10 and 9.13: the numbers that a result list holds after a call, place by place.
use Rattle.std.specs.Prelude.{ℕ, List, [], ◌∷◌, ◌++◌, ℤ, pos, negsuc, replicate, Option, None, Some}
use Rattle.nearest.specs.declared.Feature.{Feature}
use Rattle.nearest.specs.declared.Feature.TheVariants.{Within, Corner, Edge}
use Rattle.nearest.specs.declared.NearestPoint.{NearestPoint}
use Rattle.outline.specs.declared.Side.{Side}
use Rattle.outline.specs.declared.Side.TheVariants.{A, B}
use Rattle.hausdorff.specs.declared.CornerGap.{CornerGap}
use Rattle.hausdorff.specs.declared.Spent.{Spent}
use Rattle.hausdorff.specs.declared.Done.{Done}
use Rattle.hausdorff.specs.declared.Report.{Report}
use Rattle.hausdorff.specs.CornerGap.{nearest_of}
use Rattle.hausdorff.specs.Sides.{at_side}

-- rule 9.6: -1 stands where a place does not apply
abbrev pub absent : ℤ
absent = negsuc 0

-- the kind of a feature: 0 within, 1 corner, 2 edge
abbrev pub kind_of : Feature → ℤ
kind_of Within = pos 0
kind_of (Corner i) = pos 1
kind_of (Edge i) = pos 2

-- the number of a feature; within has none
abbrev pub number_of : Feature → ℤ
number_of Within = absent
number_of (Corner i) = pos i
number_of (Edge i) = pos i

-- rule 9.4, of a nearest point: the feature's kind and number, the gap's upper and lower, X, Y and D of the point
abbrev pub of_nearest : NearestPoint → List ℤ
of_nearest a =
    kind_of a.feature
    ∷ number_of a.feature
    ∷ pos a.gap.upper
    ∷ pos a.gap.lower
    ∷ a.point.x
    ∷ a.point.y
    ∷ pos a.point.lower
    ∷ []

-- the side of a corner: 1 for A, 2 for B
abbrev pub side_code : Side → ℤ
side_code A = pos 1
side_code B = pos 2

-- of a corner with its gap: side and corner, and then as `of_nearest`
abbrev pub of_corner : CornerGap → List ℤ
of_corner w = side_code w.side ∷ pos w.corner ∷ of_nearest (nearest_of w)

-- of the worst so far. Where there is none, the side is 0 and nothing else applies
abbrev pub of_worst : Option CornerGap → List ℤ
of_worst None = pos 0 ∷ replicate 8 absent
of_worst (Some w) = of_corner w

-- of both outlines together: kind, steps made, support corners of A and B, the worst so far, clearance
abbrev pub row : ℤ → ℤ → ℤ → ℤ → Option CornerGap → ℤ → List ℤ
row kind steps support_a support_b worst clearance =
    kind ∷ steps ∷ support_a ∷ support_b ∷ of_worst worst ++ (clearance ∷ [])

-- of a done report: kind 0, no support corners, and the answer in the places of the worst so far
abbrev pub of_done : Done → List ℤ
of_done d = row (pos 0) (pos d.steps) absent absent (Some d.answer) (pos d.clearance)

-- of a spent report: kind 1, no clearance
abbrev pub of_spent : Spent → List ℤ
of_spent p = row (pos 1) (pos p.steps) (pos p.support.a) (pos p.support.b) p.worst absent

-- of what comparing reports of both outlines together
abbrev pub of_overall : Report → List ℤ
of_overall (Report.Spent p) = of_spent p
of_overall (Report.Done d) = of_done d

-- what is reported of a side: its answer where the report is done, and else its worst so far or none
abbrev pub reported_of : Side → Report → Option CornerGap
reported_of s (Report.Spent p) = at_side p.sides s
reported_of s (Report.Done d) = Some (at_side d.sides s)

-- of that
abbrev pub of_side : Side → Report → List ℤ
of_side s r = of_worst (reported_of s r)

-- rule 9.5, of what comparing reports: places 0 to 13 of both outlines together, 14 to 22 of A, and 23 to 31 of B
abbrev pub of_report : Report → List ℤ
of_report r = of_overall r ++ of_side A r ++ of_side B r

-- rules 9.10 and 9.13, of a mismatch sum the sum, and of a convex hull the corner count
abbrev pub of_number : ℕ → List ℤ
of_number m = pos m ∷ []

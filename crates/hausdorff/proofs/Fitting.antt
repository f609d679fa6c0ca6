-- The natural numbers of an answer fit an i64: none is above 2,048,000,000 squared, which is below 2^63. (X and Y
-- of its point are i64 in the code, and the steps u32.)
--     values-fit          of what rule 3.4 lays down for a feature of an accepted outline and a point in range
--     given-fits          so of the nearest point, by the list as given
--     corner-fits         and of a corner with its gap to the other outline
--     found-fits          what the call for the nearest point answers
--     clearance-at-most   no clearance is above 45,255
--     report-fits         what the call that compares reports
use Prim.Native.Nat.{ℕ, ◌^◌, ◌≤◌, ◌<◌}
use mathlib.Core.Path.{◌≡◌, sym, subst}
use mathlib.Core.List.{List}
use native.Mathlib.Nat.{le_trans, lt_of_le_of_lt, lt_of_lt_of_le, mul-le-mul_right, mul-one}
use native.Mathlib.Omega.{arith}
use lib.Dec.{T, ltb, lit<, lit≤, ltb→lt}
use lib.IntN.{ℤ, nat_abs}
use lib.ListN.{length}
use Rattle.std.specs.Prelude.{Ok, Option, None, Some}
use Rattle.integers.specs.Size.{AtMost}
use Rattle.integers.proofs.Machine.{at_most-*}
use Rattle.plane.specs.declared.Corner.{Corner}
use Rattle.plane.specs.declared.Point.{Point}
use Rattle.plane.specs.Point.{whole}
use Rattle.plane.specs.Range.{InRange}
use Rattle.plane.proofs.Arithmetic.{dot-is}
use Rattle.plane.proofs.Range.{span-⇀, at_most-side}
use Rattle.outline.specs.declared.Orientation.{Orientation}
use Rattle.outline.specs.Convex.{Accepted}
use Rattle.outline.specs.Corners.{corners}
use Rattle.outline.proofs.EdgeLaws.{accepted-polygon, length-size}
use Rattle.outline.proofs.CornersLaws.{next-below}
use Rattle.outline.proofs.EitherLaws.{accepted-held}
use Rattle.outline.proofs.OrientationLaws.{given_below, held-length}
use Rattle.nearest.specs.declared.Feature.{Feature}
use Rattle.nearest.specs.declared.NearestPoint.{NearestPoint}
use Rattle.nearest.specs.code.Call.{nearest_answer}
use Rattle.nearest.specs.Feature.{values}
use Rattle.nearest.specs.Given.{given_feature, given_nearest}
use Rattle.nearest.specs.code.Given.{FeatureBelow}
use Rattle.nearest.specs.Nearest.{Fits, Answers}
use Rattle.nearest.proofs.CallLaws.{nearest-answers}
use Rattle.nearest.proofs.GapLimit.{gap-at-most}
use Rattle.nearest.proofs.GivenLaws.{given-feature-below, answers-below}
use Rattle.hausdorff.specs.declared.CornerGap.{CornerGap}
use Rattle.outline.specs.declared.Side.{Side}
use Rattle.outline.specs.declared.Side.TheVariants.{A, B}
use Rattle.hausdorff.specs.declared.Spent.{Spent}
use Rattle.hausdorff.specs.declared.Done.{Done}
use Rattle.hausdorff.specs.declared.Report.{Report}
use Rattle.hausdorff.specs.Pair.{Pair, Orientations, given, other}
use Rattle.hausdorff.specs.code.Pair.{AcceptedPair}
use Rattle.hausdorff.specs.Answer.{IsGap}
use Rattle.hausdorff.specs.Support.{support_after}
use Rattle.hausdorff.specs.Counted.{LeadsOrNone}
use Rattle.hausdorff.specs.Law.{OfDone, OfSpent, Law}
use Rattle.hausdorff.specs.Call.{IsComparison}
use Rattle.hausdorff.specs.code.Call.{orientations}
use Rattle.hausdorff.specs.Given.{given_gap, given_worst, given_spent, given_done, given_report}
use Rattle.hausdorff.proofs.Law.{law-done, law-spent}
use Rattle.hausdorff.proofs.CallLaws.{held-pair, reported-means}
use Rattle.hausdorff.proofs.WorstLaws.{support-known}
use Rattle.hausdorff.specs.code.Sizes.{FitsI64, FeatureFits, NearestFits, CornerFits, WorstFits, DoneFits}
use Rattle.hausdorff.specs.code.Sizes.{SpentFits, ReportFits}

-- a number of known size
bounded-fits : {b : ℕ} {z : ℤ} → AtMost b z → T (ltb b (2 ^ 63)) → FitsI64 (nat_abs z)
bounded-fits {b} bound small = lt_of_le_of_lt bound.size (ltb→lt b (2 ^ 63) small)

module _ {cs : List Corner} (ok : Accepted cs) where
  -- a corner's number
  number_fits : (i : ℕ) → i < length cs → FitsI64 i
  number_fits i below = lt_of_lt_of_le below (le_trans ok.at_most (lit≤ tt))

  module _ {v : Corner} (all_in_range : InRange v) where
    -- a squared distance and a squared length are at most 2,048,000,000, and a side number too
    values-fit : (y : Point) (f : Feature) → Fits cs (whole v) y f → NearestFits (values cs v f)
    values-fit y Feature.Within h = record { feature = tt; upper = lit< tt; lower = lit< tt; point_lower = lit< tt }
    values-fit y (Feature.Corner i) (outside, below, same) =
        let to = span-⇀ (ok.all_in_range i below) all_in_range in
        record { feature = number_fits i below; upper = bounded-fits (dot-is to to).bound tt; lower = lit< tt; point_lower = lit< tt }
    values-fit y (Feature.Edge i) (outside, below, between) =
        let p = ok.all_in_range i below in
        let q = ok.all_in_range _ (next-below (length cs) i (omega arith)) in
        let side = at_most-side p q all_in_range in
        let long = bounded-fits (length-size ok i below) tt in
        record { feature = number_fits i below; upper = bounded-fits (at_most-* side side) tt; lower = long; point_lower = long }

    answers-fit : {a : NearestPoint} → Answers cs v a → NearestFits a
    answers-fit {a} is =
        subst (λ (x : NearestPoint). NearestFits x) (sym is.written) (values-fit a.point a.feature is.fits)

    -- the number of a feature of the list fits
    feature-fits : (f : Feature) → FeatureBelow (length cs) f → FeatureFits f
    feature-fits Feature.Within below = tt
    feature-fits (Feature.Corner i) below = number_fits i below
    feature-fits (Feature.Edge i) below = number_fits i below

    -- and so does its number in the list as given
    given-fits : (o : Orientation) {a : NearestPoint} → Answers cs v a → NearestFits (given_nearest o (length cs) a)
    given-fits o {a} is = let fits = answers-fit is in record {
      feature = feature-fits (given_feature o (length cs) a.feature)
          (given-feature-below o (length cs) a.feature (answers-below is));
      upper = fits.upper;
      lower = fits.lower;
      point_lower = fits.point_lower;
    }

pub found-fits : (v : Corner) (s : List ℤ) {a : NearestPoint} → nearest_answer v s ≡ Ok a → NearestFits a
found-fits v s {a} is =
    let of = (nearest-answers v s a).0 is in let o = of.orientation in
    rw (of.named, ← held-length o (corners s))
    (given-fits (accepted-held of.accepted) of.all_in_range o of.answers)

module _ {pair : Pair} (os : Orientations) (ok : AcceptedPair pair) where
  -- a corner's number as given
  given-number-fits : (s : Side) (i : ℕ) → i < length (pair s) → FitsI64 (given pair os s i)
  given-number-fits s i below = number_fits (ok s) _ (given_below (os s) (length (pair s)) i below)

  corner-fits : {w : CornerGap} → IsGap pair w → CornerFits (given_gap pair os w)
  corner-fits {w} is = let t = other w.side in record {
    corner = given-number-fits w.side w.corner is.known;
    nearest = given-fits (ok t) ((ok w.side).all_in_range w.corner is.known) (os t) is.answers;
  }

  worst-fits : (T : CornerGap → Type 0) (x : Option CornerGap) → LeadsOrNone pair os T x → WorstFits (given_worst pair os x)
  worst-fits T None is = tt
  worst-fits T (Some w) leads = corner-fits leads.is_gap

  -- no gap is above 2 · 32,000², and the square of 45,255 is
  pub clearance-at-most : {d : Done} → OfDone pair os d → d.clearance ≤ 45255
  clearance-at-most {d} of =
      let is = of.as_defined.is_gap in let w = d.answer in
      let small = gap-at-most (ok (other w.side)) ((ok w.side).all_in_range w.corner is.known) is.answers in
      of.clearance.smallest 45255 (le_trans (rw mul-one at small) (mul-le-mul_right w.gap.lower (lit≤ tt)))

  of-done-fits : {d : Done} → OfDone pair os d → DoneFits (given_done pair os d)
  of-done-fits of = record {
    answer = corner-fits of.as_defined.is_gap;
    clearance = lt_of_le_of_lt (clearance-at-most of) (lit< tt);
    side_a = corner-fits of.side_a.as_defined.is_gap;
    side_b = corner-fits of.side_b.as_defined.is_gap;
  }

  support-fits : (k : ℕ) (s : Side) → FitsI64 (given pair os s (support_after pair k s))
  support-fits k s = given-number-fits s _ (support-known pair (λ t. accepted-polygon (ok t)) k s)

  of-spent-fits : {n : ℕ} {p : Spent} → OfSpent pair os n p → SpentFits (given_spent pair os p)
  of-spent-fits {n} {p} of = record {
    support_a = rw of.support_a (support-fits n A);
    support_b = rw of.support_b (support-fits n B);
    worst = worst-fits _ p.worst of.worst;
    side_a = worst-fits _ p.sides.a of.side_a.worst;
    side_b = worst-fits _ p.sides.b of.side_b.worst;
  }

  by-report : {n : ℕ} (q : Report) → Law pair os n q → ReportFits (given_report pair os q)
  by-report (Report.Spent p) lawful = of-spent-fits (law-spent lawful).1
  by-report (Report.Done d) lawful = of-done-fits (law-done lawful).1

pub report-fits : (s t : List ℤ) (allowance : ℕ) (q : Report) → IsComparison s t allowance (Ok q) → ReportFits q
report-fits s t allowance q is =
    let tells = reported-means s t allowance q is in
    rw tells.named (by-report (orientations s t)
    (held-pair s t _ _ tells.accepted_a tells.accepted_b) tells.answer_as_held tells.lawful)

-- What is reported of the state after some steps is the sweep's report, by the lists as given.
--     listed-held          corner 0 and the number of corners are those of the list as held
--     or_within-bounded     the gap of a side's answer can be compared exactly
--     worse-positive       and the gap of the worse of two has a lower number above 0
--     after-reportable     the state after k steps has what reporting asks
--     steps_made, min-steps    the steps that are made: all N, or as many as are allowed; the lesser of the two
--     report_of-after       what is reported after them is `report`, by the lists as given
use Prim.Native.Nat.{ℕ, ◌<◌}
use mathlib.Core.List.{List}
use mathlib.Core.Path.{◌≡◌, refl, sym, ap, ◌∙◌}
use mathlib.Core.Bool.{Bool, true, false, cond}
use native.Mathlib.Omega.{arith}
use lib.Dec.{ltb, lit<}
use lib.ListN.{length}
use Rattle.std.specs.Prelude.{min, Option, None, Some}
use Rattle.integers.specs.Fraction.{is_less}
use Rattle.integers.specs.code.Fraction.{Bounded}
use Rattle.plane.specs.declared.Corner.{Corner}
use Rattle.outline.specs.declared.Orientation.{Orientation}
use Rattle.outline.specs.declared.Side.{Side}
use Rattle.outline.specs.declared.Side.TheVariants.{A, B}
use Rattle.outline.specs.Corners.{corner}
use Rattle.outline.specs.Orientation.{as_held}
use Rattle.outline.proofs.EdgeLaws.{accepted-polygon}
use Rattle.outline.proofs.OrientationLaws.{given-first, held-length, held-corner-given}
use Rattle.nearest.specs.Feature.{within_values}
use Rattle.hausdorff.specs.declared.CornerGap.{CornerGap}
use Rattle.hausdorff.specs.declared.Report.TheVariants as Report
use Rattle.hausdorff.specs.Pair.{Pair, Orientations, step_count}
use Rattle.hausdorff.specs.code.Pair.{AcceptedPair, Polygons}
use Rattle.hausdorff.specs.CornerGap.{with_corner, worse, overall}
use Rattle.hausdorff.specs.Law.{or_within}
use Rattle.hausdorff.specs.Given.{given_gap, given_worst, given_report}
use Rattle.hausdorff.specs.code.Report.{spent, done, report}
use Rattle.hausdorff.proofs.WorstLaws.{support-known}
use Rattle.measuring.specs.Changes.{BoundedWorst}
use Rattle.sweep.specs.declared.State.{State}
use Rattle.sweep.specs.State.{side_state, IsAfter}
use Rattle.sweep.proofs.StepLaws.{after-bounded}
use Rattle.comparing.specs.declared.reporting.Listed.{Listed}
use Rattle.comparing.specs.ReportOf.{listed_of, Reportable, report_of}

-- as many corners are held, and corner 0 stays corner 0
pub listed-held : (o : Orientation) (cs : List Corner) → 0 < length cs → listed_of o cs ≡ listed_of o (as_held o cs)
listed-held o cs some = λ i. record {
  orientation = o;
  count = sym (held-length o cs) i;
  first = (ap (corner cs) (sym (given-first o (length cs) some)) ∙ sym (held-corner-given o cs 0 some)) i;
}

-- within, the gap is 0/1
pub or_within-bounded : (s : Side) (first : Corner) (x : Option CornerGap) → BoundedWorst x → Bounded (or_within s first x).gap
or_within-bounded s first None bounded = record { lower_positive = omega arith; lower_fits = lit< tt }
or_within-bounded s first (Some w) bounded = bounded

-- the worse of two is one of them
pub worse-positive : (w z : CornerGap) → Bounded w.gap → Bounded z.gap → 0 < (worse w z).gap.lower
worse-positive w z of-w of-z = go (is_less w.gap z.gap)
  where
    go : (t : Bool) → 0 < (cond t z w).gap.lower
    go true = of-z.lower_positive
    go false = of-w.lower_positive

abbrev pub steps_made : ℕ → ℕ → ℕ
steps_made total allowance = cond (ltb allowance total) allowance total

pub min-steps : (total allowance : ℕ) → min allowance total ≡ steps_made total allowance
min-steps total allowance = grind arith

module _ (pair : Pair) (os : Orientations) where
  -- what a report needs of a side's list
  abbrev listed_as : Side → Listed
  listed_as s = listed_of (os s) (pair s)

  -- naming does not change which gap is greater
  given-worse : (w z : CornerGap) → worse (given_gap pair os w) (given_gap pair os z) ≡ given_gap pair os (worse w z)
  given-worse w z = go (is_less w.gap z.gap)
    where
      go : (t : Bool) → cond t (given_gap pair os z) (given_gap pair os w) ≡ given_gap pair os (cond t z w)
      go true = refl
      go false = refl

  given-overall : (x y : Option CornerGap)
      → overall (given_worst pair os x) (given_worst pair os y) ≡ given_worst pair os (overall x y)
  given-overall None y = refl
  given-overall (Some w) None = refl
  given-overall (Some w) (Some z) = ap Some (given-worse w z)

  module _ (polygons : Polygons pair) where
    -- corner 0 stays corner 0
    given-or_within : (s : Side) (x : Option CornerGap)
        → or_within s (corner (pair s) 0) (given_worst pair os x) ≡ given_gap pair os (or_within s (corner (pair s) 0) x)
    given-or_within s None =
        ap (λ (i : ℕ). with_corner s i (within_values (corner (pair s) 0)))
        (sym (given-first (os s) (length (pair s)) (omega (arith, (polygons s).at_least))))
    given-or_within s (Some w) = refl

  -- a support corner is one of its outline
  support-below : Polygons pair → {k : ℕ} {state : State} → IsAfter pair os k state → (s : Side)
      → (side_state state s).support < length (pair s)
  support-below polygons {k} is_after s = rw (is_after.support s) (support-known pair polygons k s)

  pub after-reportable : AcceptedPair pair → (k : ℕ) {state : State} → IsAfter pair os k state
      → Reportable state (listed_as A) (listed_as B)
  after-reportable accepted k is_after =
      let polygons : Polygons pair = λ s. accepted-polygon (accepted s) in record {
        bounded = after-bounded pair os accepted k is_after;
        support_a = support-below polygons is_after A;
        support_b = support-below polygons is_after B;
      }

  -- spent if the allowance is below N, otherwise done
  pub report_of-after : Polygons pair → (allowance : ℕ) (state : State)
      → IsAfter pair os (steps_made (step_count pair) allowance) state
      → report_of state (steps_made (step_count pair) allowance) (ltb allowance (step_count pair)) (listed_as A) (listed_as B)
      ≡ given_report pair os (report pair os allowance)
  unfolding report
  report_of-after polygons allowance state = go (ltb allowance (step_count pair))
    where
      go : (t : Bool) → IsAfter pair os (cond t allowance (step_count pair)) state
          → report_of state (cond t allowance (step_count pair)) t (listed_as A) (listed_as B)
          ≡ given_report pair os (cond t (Report.Spent (spent pair os allowance)) (Report.Done (done pair os)))
      go true is = rw (is.support A, is.support B, is.worst A, is.worst B, given-overall)
      go false is = rw (is.worst A, is.worst B, given-or_within polygons A, given-or_within polygons B, given-worse)

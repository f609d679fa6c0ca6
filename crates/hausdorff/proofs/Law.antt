-- Rule 6.4, the law, for every accepted pair and every allowance.
--     spent-same, done-same   reports with the same parts are the same
--     law                     what comparing returns obeys it
--     law-spent, law-done     what it says of a spent report, and of a done one
--     law-unique              it leaves one report
--     zero-side-shown         of a side whose gaps are all zero a done report has its corner 0, within
use Prim.Native.Nat.{ℕ, ◌<◌, ◌≤◌}
use mathlib.Core.Path.{◌≡◌, refl, sym, ap, subst, ◌∙◌}
use mathlib.Core.Logic.{◌⊎◌, inl, inr, ⊎_elim}
use mathlib.Core.Bool.{Bool, true, false}
use native.Mathlib.Omega.{arith}
use borrow.Author.Tests.{lt-ltb, le-ltb, ltb-true, ltb-false}
use lib.Dec.{ltb}
use Rattle.std.specs.Prelude.{Option, Some}
use Rattle.integers.proofs.RootLaws.{ceiling-root, ceiling-unique}
use Rattle.outline.specs.Corners.{corner}
use Rattle.outline.proofs.EdgeLaws.{accepted-polygon}
use Rattle.outline.specs.declared.Side.{Side}
use Rattle.outline.specs.declared.Side.TheVariants.{A, B}
use Rattle.nearest.specs.Feature.{within_values}
use Rattle.hausdorff.specs.declared.Spent.{Spent}
use Rattle.hausdorff.specs.declared.Done.{Done}
use Rattle.hausdorff.specs.declared.CornerGap.{CornerGap}
use Rattle.hausdorff.specs.declared.Report.{Report}
use Rattle.hausdorff.specs.Pair.{Pair, Orientations, step_count}
use Rattle.hausdorff.specs.CornerGap.{with_corner}
use Rattle.hausdorff.specs.Answer.{IsGap, Leads, IsAnswer, TrueFigure}
use Rattle.hausdorff.specs.Counted.{LeadsOrNone}
use Rattle.hausdorff.specs.Exhaustive.{exhaustive_of, exhaustive}
use Rattle.hausdorff.specs.Law.{IsClearance, OfSpentSide, OfSpent, OfDoneSide, OfDone, Law}
use Rattle.hausdorff.specs.code.Pair.{AcceptedPair, Polygons}
use Rattle.hausdorff.specs.code.Sweep.{worst_after, worst_so_far}
use Rattle.hausdorff.specs.code.Report.{side_answer, answer, spent, done, report}
use Rattle.hausdorff.proofs.Leads.{leads-unique}
use Rattle.hausdorff.proofs.OverallWorst.{side-worst-is, worst-is, leads-or-none-unique}
use Rattle.hausdorff.proofs.AnswerLaws.{side-answers, sweep-answers, answer-from-steps}
use Rattle.hausdorff.proofs.AnswerLaws.{zero-side-answer, side-search-answers, search-answers}
use Rattle.hausdorff.proofs.HausdorffLaws.{answer-directed, answer-hausdorff}

-- two spent reports are one where their parts are
pub spent-same : {p q : Spent} → p.steps ≡ q.steps → p.support.a ≡ q.support.a → p.support.b ≡ q.support.b
    → p.worst ≡ q.worst → p.sides.a ≡ q.sides.a → p.sides.b ≡ q.sides.b → p ≡ q
spent-same steps support_a support_b worst side_a side_b = λ i. record {
  steps = steps i;
  support = record { a = support_a i; b = support_b i };
  worst = worst i;
  sides = record { a = side_a i; b = side_b i };
}

-- and so are two done ones
pub done-same : {d e : Done} → d.steps ≡ e.steps → d.answer ≡ e.answer → d.clearance ≡ e.clearance
    → d.sides.a ≡ e.sides.a → d.sides.b ≡ e.sides.b → d ≡ e
done-same steps answer clearance side_a side_b = λ i. record {
  steps = steps i;
  answer = answer i;
  clearance = clearance i;
  sides = record { a = side_a i; b = side_b i };
}

module _ (pair : Pair) (os : Orientations) (accepted : AcceptedPair pair) where
  polygons : Polygons pair
  polygons s = accepted-polygon (accepted s)

  -- the worst so far after all steps is the answer, and the exhaustive search finds it too
  found : IsAnswer pair os (answer pair os)
  found = sweep-answers pair os polygons

  found-searched : answer pair os ≡ exhaustive pair os
  found-searched =
      leads-unique pair os polygons (answer pair os) (exhaustive pair os) found (search-answers pair os polygons)

  -- its gap is the greatest
  figure-of : (w : CornerGap) → IsAnswer pair os w → TrueFigure pair w.gap
  figure-of w is = record { reached = (w, is.is_gap, refl); greatest = λ z gap. is.greatest z gap tt }

  -- each side's worst so far after all steps, or its corner 0, is its answer
  of-done-side : (s : Side) → OfDoneSide pair os s (side_answer pair os s)
  of-done-side s = let is = side-answers pair os polygons s in record {
    from_steps = (worst_after pair os (step_count pair) s, side-worst-is pair os polygons (step_count pair) s, refl);
    as_defined = is;
    as_searched = leads-unique pair os polygons _ (exhaustive_of pair os s) is (side-search-answers pair os polygons s);
    distance = answer-directed pair polygons s _ is;
  }

  of-done : OfDone pair os (done pair os)
  of-done = let distance = answer-hausdorff pair polygons (answer pair os) found in record {
    steps = refl;
    from_steps = (
      worst_so_far pair os (step_count pair),
      worst-is pair os polygons (step_count pair),
      answer-from-steps pair os polygons,
    );
    as_defined = found;
    as_searched = found-searched;
    figure = figure-of (answer pair os) found;
    distance = distance;
    clearance = ceiling-root (answer pair os).gap distance.lower_positive;
    side_a = of-done-side A;
    side_b = of-done-side B;
    worse_of_both = refl;
  }

  -- a worst so far that is there leads among its gaps
  worst-leads : {T : CornerGap → Type 0} {x : Option CornerGap} {w : CornerGap} → x ≡ Some w
      → LeadsOrNone pair os T x → Leads pair os T w
  worst-leads {T} is leads = subst (LeadsOrNone pair os T) is leads

  of-spent-side : (allowance : ℕ) (s : Side) → OfSpentSide pair os allowance s (worst_after pair os allowance s)
  of-spent-side allowance s = let worst = side-worst-is pair os polygons allowance s in record {
    worst = worst;
    figure = side-search-answers pair os polygons s;
    worst_not_above = λ w z equal answer.
        let leads = worst-leads equal worst in answer.greatest w leads.is_gap leads.among.0;
  }

  of-spent : (allowance : ℕ) → OfSpent pair os allowance (spent pair os allowance)
  of-spent allowance = let worst = worst-is pair os polygons allowance in record {
    steps = refl;
    support_a = refl;
    support_b = refl;
    worst = worst;
    figure = figure-of (exhaustive pair os) (search-answers pair os polygons);
    worst_not_above = λ w g equal figure. figure.greatest w (worst-leads equal worst).is_gap;
    side_a = of-spent-side allowance A;
    side_b = of-spent-side allowance B;
    worse_of_both = refl;
  }

  pub law : (allowance : ℕ) → Law pair os allowance (report pair os allowance)
  unfolding report
  law allowance = record {
    spent_below = λ less. (spent pair os allowance, rw (lt-ltb allowance (step_count pair) less), of-spent allowance);
    else_done = λ enough. (done pair os, rw (le-ltb allowance (step_count pair) enough), of-done);
  }

done-unique : {pair : Pair} {os : Orientations} {d e : Done} → OfDone pair os d → OfDone pair os e → d ≡ e
done-unique {d = d} {e} one other =
    let answers : d.answer ≡ e.answer = one.as_searched ∙ sym other.as_searched in
    let gaps = ap (λ (w : CornerGap). w.gap) answers in
    done-same (one.steps ∙ sym other.steps) answers
    (ceiling-unique one.clearance (subst (λ x. IsClearance x e.clearance) (sym gaps) other.clearance))
    (one.side_a.as_searched ∙ sym other.side_a.as_searched)
    (one.side_b.as_searched ∙ sym other.side_b.as_searched)

spent≢done : (p : Spent) (d : Done) → ¬ (Report.Spent p ≡ Report.Done d)
spent≢done p d is = let z : ◌≡◌ {A = ℕ} 0 1 = cc in omega arith

-- spent or done, by the allowance
abbrev SpentOrDone : Pair → Orientations → ℕ → Report → Type 0
SpentOrDone pair os allowance r =
    ((allowance < step_count pair) × ((p : Spent) × (r ≡ Report.Spent p) × OfSpent pair os allowance p))
    ⊎ ((step_count pair ≤ allowance) × ((d : Done) × (r ≡ Report.Done d) × OfDone pair os d))

module _ {pair : Pair} {os : Orientations} {allowance : ℕ} where
  law-cases : {r : Report} → Law pair os allowance r → SpentOrDone pair os allowance r
  law-cases {r} lawful = go (ltb allowance (step_count pair)) refl
    where
      go : (t : Bool) → ltb allowance (step_count pair) ≡ t → SpentOrDone pair os allowance r
      go true holds = let below = ltb-true _ _ holds in inl (below, lawful.spent_below below)
      go false fails = let enough = ltb-false _ _ fails in inr (enough, lawful.else_done enough)

  pub law-spent : {p : Spent} → Law pair os allowance (Report.Spent p)
      → (allowance < step_count pair) × OfSpent pair os allowance p
  law-spent {p} lawful = ⊎_elim
      (λ (below, (q, is, of)). (let same : p ≡ q = cc in (below, rw same of)))
      (λ (enough, (d, is, of)). absurd (spent≢done p d is)) (law-cases lawful)

  pub law-done : {d : Done} → Law pair os allowance (Report.Done d) → (step_count pair ≤ allowance) × OfDone pair os d
  law-done {d} lawful = ⊎_elim
      (λ (below, (p, is, of)). absurd (spent≢done p d (sym is)))
      (λ (enough, (e, is, of)). (let same : d ≡ e = cc in (enough, rw same of))) (law-cases lawful)

  module _ (polygons : Polygons pair) where
    spent-unique : {p q : Spent} → OfSpent pair os allowance p → OfSpent pair os allowance q → p ≡ q
    spent-unique {p} {q} one other =
        spent-same (one.steps ∙ sym other.steps) (one.support_a ∙ sym other.support_a)
        (one.support_b ∙ sym other.support_b)
        (leads-or-none-unique pair os polygons _ p.worst q.worst one.worst other.worst)
        (leads-or-none-unique pair os polygons _ p.sides.a q.sides.a one.side_a.worst other.side_a.worst)
        (leads-or-none-unique pair os polygons _ p.sides.b q.sides.b one.side_b.worst other.side_b.worst)

    -- what holds of it leaves one
    pub law-unique : {r q : Report} → Law pair os allowance r → Law pair os allowance q → r ≡ q
    law-unique one other = ⊎_elim
        (λ (below, (p, is, of)). (let (p', is', of') = other.spent_below below in
        is ∙ ap Report.Spent (spent-unique of of') ∙ sym is'))
        (λ (enough, (d, is, of)). (let (d', is', of') = other.else_done enough in
        is ∙ ap Report.Done (done-unique of of') ∙ sym is'))
        (law-cases one)

-- rule 4.8, of a report: the side's answer is the only one
pub zero-side-shown : (pair : Pair) (os : Orientations) → Polygons pair → (s : Side) {w : CornerGap}
    → OfDoneSide pair os s w → ((z : CornerGap) → IsGap pair z → z.side ≡ s → z.gap.upper ≡ 0)
    → w ≡ with_corner s 0 (within_values (corner (pair s) 0))
zero-side-shown pair os polygons s {w} of none =
    leads-unique pair os polygons w _ of.as_defined (zero-side-answer pair os polygons s none)

-- The call that compares, as its callers see it.
--     verdict-refused, comparison_for-refused    the verdict on a pair, by what the first check that refuses gives, and what
--                                 the call gives, by the verdict
--     pair-refused, pair-taken    the checks refuse with the refusal of the first condition that applies, and take two
--                                 lists with the orientations with which they are accepted
--     pair-fault                  the first condition that applies is A's, or A is accepted and it is B's
--     compare-refuses             the call refuses exactly with the refusal of the first condition that applies
--     is-comparison               what the call gives is as rule 7.4 lays down: the refusal of the first condition that
--                                 applies, or else a report that obeys the law
--     both-accepted               the pair of two accepted outlines
--     held-pair, held-polygons    and of two that are accepted with orientations, as held, which are polygons
--     Reports, reported-means     where it is a report both lists are accepted, and it is one that obeys the law, with its
--                                 corners and edges named by the lists as given
--     comparison-unique           so the call gives the only one that is as rule 7.4 lays down
--     spent-report-below          where it is a spent one the allowance is below the number of corners of both
--     DoneReports, done-means     where it is a done one, what the law says of that
--     clearance-same              done reports with the same gap, as a value, have the same clearance
--     comparison-swap             a done report of B with A has the same gap, as a value
--     clearance-swap, sides-swap    so the same clearance; and the gap of A's side is that of B's
-- For the code:
--     check_pair-refused-a, check_pair-refused-b, check_pair-taken    what the checks of both lists find, by what those of each give
--     call-refused, call-reported    what the call gives where they refuse, and of the steps' report where they take
--     call-promises               what it gives has both parts of its contract
use Prim.Native.Nat.{ℕ, ◌+◌, ◌<◌}
use mathlib.Core.Path.{◌≡◌, refl, sym, ap, ◌∙◌}
use mathlib.Core.Logic.Iff
use mathlib.Core.Logic.{◌↔◌, ◌⊎◌, ⊎_map}
use mathlib.Core.List.{List}
use native.Mathlib.Omega.{arith}
use lib.IntN.{ℤ}
use lib.ListN.{length}
use Rattle.std.specs.Prelude.{Some, Result, Ok, Err}
use Rattle.integers.specs.Fraction.{SameValue}
use Rattle.integers.proofs.RootLaws.{ceiling-same}
use Rattle.plane.specs.declared.Corner.{Corner}
use Rattle.outline.specs.declared.Orientation.{Orientation}
use Rattle.outline.specs.declared.Refusal.{Refusal}
use Rattle.outline.specs.declared.Side.TheVariants.{A, B}
use Rattle.outline.specs.Conditions.{either_conditions}
use Rattle.outline.specs.Convex.{Accepted}
use Rattle.outline.specs.Corners.{corners}
use Rattle.outline.specs.Orientation.{AcceptedAs}
use Rattle.outline.specs.code.Either.{orientation_of, held_corners, either_checks, check_either}
use Rattle.outline.specs.code.Checks.{Verdict, first}
use Rattle.outline.specs.Refusal.{FirstFault}
use Rattle.outline.proofs.EdgeLaws.{accepted-polygon}
use Rattle.outline.proofs.EitherLaws.{accepted-held, accepted-orientation, either-decide, none-either}
use Rattle.outline.proofs.OrientationLaws.{held-length}
use Rattle.outline.proofs.ChecksLaws.{append-stops, append-goes-on}
use Rattle.outline.proofs.ConditionLaws.{AllDecide, NoneApplies, first-refused, first_taken}
use Rattle.outline.proofs.ConditionLaws.{decide-append, none-append, fault-append}
use Rattle.hausdorff.specs.declared.Done.{Done}
use Rattle.hausdorff.specs.declared.Spent.{Spent}
use Rattle.hausdorff.specs.declared.Report.{Report}
use Rattle.hausdorff.specs.Pair.{both, both_orientations}
use Rattle.hausdorff.specs.Given.{given_done, given_report}
use Rattle.hausdorff.specs.code.Pair.{AcceptedPair, Polygons}
use Rattle.hausdorff.specs.code.Report.{report}
use Rattle.hausdorff.specs.Law.{OfDone, Law}
use Rattle.hausdorff.specs.Call.{pair_conditions, held_pair, IsComparison}
use Rattle.hausdorff.specs.code.Call.{pair_checks, pair_verdict_for, check_pair, orientations, pair_of, report_for}
use Rattle.hausdorff.specs.code.Call.{comparison_for, comparison}
use Rattle.hausdorff.specs.Call.{refused, reported}
use Rattle.hausdorff.proofs.HausdorffLaws.{directed-unique, hausdorff-unique, hausdorff-swap}
use Rattle.hausdorff.proofs.Law.{law, law-spent, law-done, law-unique}

pub both-accepted : (ps qs : List Corner) → Accepted ps → Accepted qs → AcceptedPair (both ps qs)
both-accepted ps qs ok-a ok-b A = ok-a
both-accepted ps qs ok-a ok-b B = ok-b

module _ (s t : List ℤ) where
  -- the verdict on a pair, by what the first check that refuses gives
  pub verdict-refused : (v : Verdict) (r : Refusal) → (pair_verdict_for s t v ≡ Err r) ↔ (v ≡ Err r)
  verdict-refused (Ok _) r = (λ e. cc, λ e. cc)
  verdict-refused (Err q) r = (λ e. cc, λ e. cc)

  verdict-taken : (v : Verdict) (o q : Orientation) → (pair_verdict_for s t v ≡ Ok (o, q))
      ↔ ((v ≡ Ok tt) × (orientation_of (corners s) ≡ o) × (orientation_of (corners t) ≡ q))
  verdict-taken (Ok _) o q = (
    λ e. (let both : (orientation_of (corners s), orientation_of (corners t)) ≡ (o, q) = cc in (
      refl,
      ap (λ (p : Orientation × Orientation). p.0) both,
      ap (λ (p : Orientation × Orientation). p.1) both,
    )),
    λ (_, of_a, of_b). λ i. Ok (of_a i, of_b i),
  )
  verdict-taken (Err r) o q = (λ e. (cc, cc, cc), λ h. cc)

  -- and what the call gives, by the verdict
  pub comparison_for-refused : (allowance : ℕ) (v : Result (Orientation × Orientation) Refusal) (r : Refusal)
      → (comparison_for s t allowance v ≡ Err r) ↔ (v ≡ Err r)
  comparison_for-refused allowance (Ok (o, q)) r = (λ e. cc, λ e. cc)
  comparison_for-refused allowance (Err q) r = (λ e. cc, λ e. cc)

  decide : AllDecide (pair_checks s t) (pair_conditions s t)
  decide =
      decide-append (either_checks (Some A) s) (either_checks (Some B) t) (either_conditions (Some A) s) (either_conditions (Some B) t)
      (either-decide (Some A) s) (either-decide (Some B) t)

  pub pair-refused : (r : Refusal) → (check_pair s t ≡ Err r) ↔ FirstFault (pair_conditions s t) r
  unfolding check_pair
  pair-refused r =
      Iff.trans (verdict-refused (first (pair_checks s t)) r)
      (first-refused (pair_checks s t) (pair_conditions s t) decide r)

  none-of-both : NoneApplies (pair_conditions s t)
      ↔ (AcceptedAs (orientation_of (corners s)) s × AcceptedAs (orientation_of (corners t)) t)
  none-of-both = Iff.trans (none-append (either_conditions (Some A) s) (either_conditions (Some B) t)) (
    λ (none-a, none-b). ((none-either (Some A) s).0 none-a, (none-either (Some B) t).0 none-b),
    λ (ok-a, ok-b). ((none-either (Some A) s).1 ok-a, (none-either (Some B) t).1 ok-b),
  )

  -- the first three corners of an accepted list tell its orientation
  pub pair-taken : (o q : Orientation) → (check_pair s t ≡ Ok (o, q)) ↔ (AcceptedAs o s × AcceptedAs q t)
  unfolding check_pair
  pair-taken o q = Iff.trans (verdict-taken (first (pair_checks s t)) o q) (
    λ (takes, of_a, of_b). rw (of_a, of_b) at (none-of-both.0 (taken.0 takes)),
    λ (ok-a, ok-b).
        let of_a = accepted-orientation o s ok-a in let of_b = accepted-orientation q t ok-b in
        (taken.1 (none-of-both.1 (rw of_a ok-a, rw of_b ok-b)), of_a, of_b),
  )
    where
      taken : (first (pair_checks s t) ≡ Ok tt) ↔ NoneApplies (pair_conditions s t)
      taken = first_taken (pair_checks s t) (pair_conditions s t) decide

  -- that is: a refusal of A's list, or A's list is accepted and it is one of B's
  pub pair-fault : (r : Refusal) → FirstFault (pair_conditions s t) r
      ↔ (FirstFault (either_conditions (Some A) s) r
      ⊎ (AcceptedAs (orientation_of (corners s)) s × FirstFault (either_conditions (Some B) t) r))
  pair-fault r = Iff.trans (fault-append (either_conditions (Some A) s) (either_conditions (Some B) t) r) (
    ⊎_map (λ fault. fault) (λ (none, fault). ((none-either (Some A) s).0 none, fault)),
    ⊎_map (λ fault. fault) (λ (ok, fault). ((none-either (Some A) s).1 ok, fault)),
  )

  -- for the code, by what the checks of A's list give, and those of B's
  module _ {v : Verdict} (is-a : v ≡ check_either (Some A) s) where
    pub check_pair-refused-a : {r : Refusal} → v ≡ Err r → Err r ≡ check_pair s t
    unfolding check_pair check_either
    check_pair-refused-a not_taken =
        sym (ap (pair_verdict_for s t)
        (append-stops (either_checks (Some A) s) (either_checks (Some B) t) (sym is-a ∙ not_taken)))

    module _ (taken-a : v ≡ Ok tt) {w : Verdict} (is_b : w ≡ check_either (Some B) t) where
      by-b : {u : Verdict} → w ≡ u → pair_verdict_for s t u ≡ check_pair s t
      unfolding check_pair check_either
      by-b is =
          sym (ap (pair_verdict_for s t)
          (append-goes-on (either_checks (Some A) s) (either_checks (Some B) t) (sym is-a ∙ taken-a) ∙ sym is_b ∙ is))

      pub check_pair-refused-b : {r : Refusal} → w ≡ Err r → Err r ≡ check_pair s t
      check_pair-refused-b not_taken = by-b not_taken

      pub check_pair-taken : {o q : Orientation} → w ≡ Ok tt → o ≡ orientation_of (corners s)
          → q ≡ orientation_of (corners t) → Ok (o, q) ≡ check_pair s t
      check_pair-taken taken-b of_a of_b = (λ i. Ok (of_a i, of_b i)) ∙ by-b taken-b

module _ (s t : List ℤ) (o q : Orientation) (ok-a : AcceptedAs o s) (ok-b : AcceptedAs q t) where
  -- lists that are accepted with orientations are accepted as held
  pub held-pair : AcceptedPair (held_pair o q s t)
  held-pair = both-accepted _ _ (accepted-held ok-a) (accepted-held ok-b)

  pub held-polygons : Polygons (held_pair o q s t)
  held-polygons r = accepted-polygon (held-pair r)

-- what a report tells: both lists are accepted, the law holds of a report of the outlines as held, and this is that
-- report by the lists as given
pub record Reports (s t : List ℤ) (allowance : ℕ) (q : Report) : Type 0 where
  pub accepted_a : AcceptedAs (orientation_of (corners s)) s
  pub accepted_b : AcceptedAs (orientation_of (corners t)) t
  pub answer_as_held : Report
  pub lawful : Law (pair_of s t) (orientations s t) allowance answer_as_held
  pub named : q ≡ given_report (pair_of s t) (orientations s t) answer_as_held

module _ (s t : List ℤ) (allowance : ℕ) where
  obeys : (o q : Orientation) → AcceptedAs o s → AcceptedAs q t
      → Law (held_pair o q s t) (both_orientations o q) allowance (report (held_pair o q s t) (both_orientations o q) allowance)
  obeys o q ok-a ok-b = law _ _ (held-pair s t o q ok-a ok-b) allowance

  -- it is refused exactly with the refusal of the first condition that applies
  pub compare-refuses : (r : Refusal) → (comparison s t allowance ≡ Err r) ↔ FirstFault (pair_conditions s t) r
  compare-refuses r = Iff.trans (comparison_for-refused s t allowance (check_pair s t) r) (pair-refused s t r)

  -- some condition applies, or both lists are accepted
  pub is-comparison : IsComparison s t allowance (comparison s t allowance)
  is-comparison = go (check_pair s t) refl
    where
      go : (v : Result (Orientation × Orientation) Refusal) → check_pair s t ≡ v → IsComparison s t allowance (comparison_for s t allowance v)
      go (Err r) refuses = refused r ((pair-refused s t r).0 refuses) refl
      go (Ok (o, q)) takes =
          let (ok-a, ok-b) = (pair-taken s t o q).0 takes in
          reported o q _ ok-a ok-b (obeys o q ok-a ok-b) refl

  pub reported-means : (q : Report) → IsComparison s t allowance (Ok q) → Reports s t allowance q
  reported-means q (refused r first is) = absurd (let z : ◌≡◌ {A = ℕ} 0 1 = cc in omega arith)
  reported-means q (reported o p r ok-a ok-b lawful is) = record {
    accepted_a = rw of_a ok-a;
    accepted_b = rw of_b ok-b;
    answer_as_held = r;
    lawful = rw (of_a, of_b) lawful;
    named = rw (of_a, of_b) (same-report is);
  }
    where
      of_a : orientation_of (corners s) ≡ o
      of_a = accepted-orientation o s ok-a

      of_b : orientation_of (corners t) ≡ p
      of_b = accepted-orientation p t ok-b

      same-report : {x : Report} → ◌≡◌ {A = Result Report Refusal} (Ok q) (Ok x) → q ≡ x
      same-report e = cc

  -- only one report is such
  reports-unique : (q : Report) → Reports s t allowance q → Ok q ≡ comparison s t allowance
  reports-unique q tells =
      let ok-a = tells.accepted_a in let ok-b = tells.accepted_b in
      rw ((pair-taken s t _ _).1 (ok-a, ok-b), tells.named)
      (ap (λ (x : Report). Ok (given_report (pair_of s t) (orientations s t) x))
      (law-unique (held-polygons s t _ _ ok-a ok-b) tells.lawful (obeys _ _ ok-a ok-b)))

  -- so each case leaves one result
  pub comparison-unique : {result : Result Report Refusal} → IsComparison s t allowance result → result ≡ comparison s t allowance
  comparison-unique (refused r first is) = rw (is, (pair-refused s t r).1 first)
  comparison-unique (reported o p r ok-a ok-b lawful is) =
      is ∙ reports-unique _ (reported-means _ (reported o p r ok-a ok-b lawful refl))

  pub call-promises : {result : Result Report Refusal} → result ≡ comparison s t allowance
      → (result ≡ comparison s t allowance) × IsComparison s t allowance result
  call-promises is = (is, rw is is-comparison)

  module _ {v : Result (Orientation × Orientation) Refusal} (found : v ≡ check_pair s t) where
    pub call-refused : {r : Refusal} → v ≡ Err r → Err r ≡ comparison s t allowance
    call-refused is = ap (comparison_for s t allowance) (sym is ∙ found)

    pub call-reported : {o q : Orientation} {r : Report} → v ≡ Ok (o, q) → r ≡ report_for o q s t allowance
        → Ok r ≡ comparison s t allowance
    call-reported is made = ap Ok made ∙ ap (comparison_for s t allowance) (sym is ∙ found)

-- a spent report tells that the allowance is below the number of corners of both
pub spent-report-below : (s t : List ℤ) (k : ℕ) (p : Spent) → IsComparison s t k (Ok (Report.Spent p))
    → k < length (corners s) + length (corners t)
spent-report-below s t k p is =
    let tells = reported-means s t k (Report.Spent p) is in go tells.answer_as_held tells.lawful tells.named
  where
    go : (r : Report) → Law (pair_of s t) (orientations s t) k r
        → Report.Spent p ≡ given_report (pair_of s t) (orientations s t) r → k < length (corners s) + length (corners t)
    go (Report.Spent q) lawful named = omega (
      arith,
      (law-spent lawful).0,
      held-length (orientation_of (corners s)) (corners s),
      held-length (orientation_of (corners t)) (corners t),
    )
    go (Report.Done d) lawful named = absurd (let z : ◌≡◌ {A = ℕ} 0 1 = cc in omega arith)

-- what a done report tells: the law holds of a done report of the outlines as held, and this is that report by the lists
-- as given
pub record DoneReports (s t : List ℤ) (d : Done) : Type 0 where
  pub answer_as_held : Done
  pub of : OfDone (pair_of s t) (orientations s t) answer_as_held
  pub named : d ≡ given_done (pair_of s t) (orientations s t) answer_as_held

pub done-means : (s t : List ℤ) (k : ℕ) (d : Done) → IsComparison s t k (Ok (Report.Done d)) → DoneReports s t d
done-means s t k d is =
    let tells = reported-means s t k (Report.Done d) is in go tells.answer_as_held tells.lawful tells.named
  where
    go : (r : Report) → Law (pair_of s t) (orientations s t) k r
        → Report.Done d ≡ given_report (pair_of s t) (orientations s t) r → DoneReports s t d
    go (Report.Spent p) lawful named = absurd (let z : ◌≡◌ {A = ℕ} 0 1 = cc in omega arith)
    go (Report.Done e) lawful named = record { answer_as_held = e; of = (law-done lawful).1; named = cc }

-- the clearance of a done report is that of its gap, and a clearance goes by the value alone
pub clearance-same : {s t s' t' : List ℤ} {k j : ℕ} {d e : Done} → IsComparison s t k (Ok (Report.Done d))
    → IsComparison s' t' j (Ok (Report.Done e)) → SameValue d.answer.gap e.answer.gap
    → d.clearance ≡ e.clearance
clearance-same one other same =
    let here = done-means _ _ _ _ one in let there = done-means _ _ _ _ other in
    rw (here.named, there.named) (ceiling-same here.of.distance.lower_positive
    there.of.distance.lower_positive (rw (here.named, there.named) at same) here.of.clearance
    there.of.clearance)

module _ (s t : List ℤ) (k j : ℕ) (d e : Done) where
  -- the gap of a done report is the Hausdorff distance
  pub comparison-swap : IsComparison s t k (Ok (Report.Done d)) → IsComparison t s j (Ok (Report.Done e))
      → SameValue d.answer.gap e.answer.gap
  comparison-swap one other =
      let here = done-means s t k d one in let there = done-means t s j e other in
      rw (here.named, there.named) (hausdorff-unique here.of.distance
      (hausdorff-swap (held_corners t) (held_corners s) there.of.distance))

  -- so the clearance is the same
  pub clearance-swap : IsComparison s t k (Ok (Report.Done d)) → IsComparison t s j (Ok (Report.Done e))
      → d.clearance ≡ e.clearance
  clearance-swap one other = clearance-same one other (comparison-swap one other)

  -- and the gaps of its sides are the directed ones
  pub sides-swap : IsComparison s t k (Ok (Report.Done d)) → IsComparison t s j (Ok (Report.Done e))
      → SameValue d.sides.a.gap e.sides.b.gap × SameValue d.sides.b.gap e.sides.a.gap
  sides-swap one other =
      let here = done-means s t k d one in let there = done-means t s j e other in
      rw (here.named, there.named) (
        directed-unique here.of.side_a.distance there.of.side_b.distance,
        directed-unique here.of.side_b.distance there.of.side_a.distance,
      )

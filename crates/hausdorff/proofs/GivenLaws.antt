-- Rule 6.5: a report with its corners and edges named by the lists as given.
--     both-counterclockwise     where both lists are counterclockwise, each side is
--     given-number-held         counterclockwise a corner has the number that it is held with
--     given-report-held         so a report is given as it is held
--     strict-comparison         of lists that the strict reading takes the call gives, for every allowance, the report of
--                               their corners as given, with nothing named anew
--     strict-reported           which is exactly the one that obeys the law of these
--     given-report-twice        named twice a report is what it was, so nothing is lost
--     given-report-injective    and reports that are given alike are one
use Prim.Native.Nat.{ℕ}
use mathlib.Core.Path.{◌≡◌, refl, sym, ap, ◌∙◌}
use mathlib.Core.Logic.{◌↔◌}
use mathlib.Core.List.{List}
use lib.IntN.{ℤ}
use lib.ListN.{length}
use Rattle.std.specs.Prelude.{Result, Ok, Option, None, Some}
use Rattle.outline.specs.declared.Refusal.{Refusal}
use Rattle.outline.specs.declared.Orientation.TheVariants.{Counterclockwise}
use Rattle.outline.specs.declared.Side.{Side}
use Rattle.outline.specs.declared.Side.TheVariants.{A, B}
use Rattle.outline.specs.Conditions.{AcceptedList}
use Rattle.outline.specs.Corners.{corners}
use Rattle.outline.specs.Orientation.{given_corner, AcceptedAs}
use Rattle.outline.proofs.EitherLaws.{strict-either}
use Rattle.outline.proofs.OrientationLaws.{given-twice}
use Rattle.nearest.specs.Given.{given_nearest}
use Rattle.nearest.proofs.GivenLaws.{given-nearest-held, given-nearest-twice, answers-below}
use Rattle.hausdorff.specs.declared.CornerGap.{CornerGap}
use Rattle.hausdorff.specs.declared.Report.{Report}
use Rattle.hausdorff.specs.Pair.{Pair, both, Orientations, both_orientations, given, other}
use Rattle.hausdorff.specs.CornerGap.{with_corner, nearest_of}
use Rattle.hausdorff.specs.Answer.{IsGap}
use Rattle.hausdorff.specs.Counted.{LeadsOrNone}
use Rattle.hausdorff.specs.Law.{Law}
use Rattle.hausdorff.specs.Support.{support_after}
use Rattle.hausdorff.specs.Given.{given_gap, given_worst, given_report}
use Rattle.hausdorff.specs.Call.{IsComparison, reported}
use Rattle.hausdorff.specs.code.Call.{comparison}
use Rattle.hausdorff.specs.code.Pair.{Polygons}
use Rattle.hausdorff.specs.code.Report.{report}
use Rattle.hausdorff.proofs.CallLaws.{held-pair, comparison-unique}
use Rattle.hausdorff.proofs.Law.{spent-same, done-same, law, law-spent, law-done}
use Rattle.hausdorff.proofs.WorstLaws.{support-known}

-- ---- counterclockwise
-- where both lists are, each side is
pub both-counterclockwise : (s : Side) → both_orientations Counterclockwise Counterclockwise s ≡ Counterclockwise
both-counterclockwise A = refl
both-counterclockwise B = refl

module _ (pair : Pair) (os : Orientations) (held : (s : Side) → os s ≡ Counterclockwise) where
  -- a corner has the number that it is held with
  pub given-number-held : (s : Side) (i : ℕ) → given pair os s i ≡ i
  unfolding given_corner
  given-number-held s i = rw (held s)

  -- and its nearest point the feature
  given-gap-held : (w : CornerGap) → given_gap pair os w ≡ w
  given-gap-held w =
      let s = w.side in let t = other s in let n = length (pair t) in
      let nearest : given_nearest (os t) n (nearest_of w) ≡ nearest_of w =
      rw (held t) (given-nearest-held n (nearest_of w)) in
      λ i. with_corner s (given-number-held s w.corner i) (nearest i)

  -- none stays none
  given-worst-held : (x : Option CornerGap) → given_worst pair os x ≡ x
  given-worst-held None = refl
  given-worst-held (Some w) = ap Some (given-gap-held w)

  -- so a report is given as it is held
  pub given-report-held : (r : Report) → given_report pair os r ≡ r
  given-report-held (Report.Spent p) = ap Report.Spent (spent-same refl
      (given-number-held A p.support.a) (given-number-held B p.support.b)
      (given-worst-held p.worst) (given-worst-held p.sides.a) (given-worst-held p.sides.b))
  given-report-held (Report.Done d) = ap Report.Done (done-same refl (given-gap-held d.answer) refl
      (given-gap-held d.sides.a) (given-gap-held d.sides.b))

-- lists that the strict reading takes
module _ (s t : List ℤ) (allowance : ℕ) (strict-a : AcceptedList s) (strict-b : AcceptedList t) where
  abbrev listed : Pair
  listed = both (corners s) (corners t)

  abbrev strictly : Orientations
  strictly = both_orientations Counterclockwise Counterclockwise

  -- such lists are accepted counterclockwise
  ok-a : AcceptedAs Counterclockwise s
  ok-a = (strict-either s).1 strict-a

  ok-b : AcceptedAs Counterclockwise t
  ok-b = (strict-either t).1 strict-b

  -- and held as they are, and so a report of them is given as it is
  law-reported : (r : Report) → Law listed strictly allowance r → IsComparison s t allowance (Ok r)
  law-reported r lawful = reported Counterclockwise Counterclockwise r ok-a ok-b lawful
      (ap Ok (sym (given-report-held listed strictly both-counterclockwise r)))

  -- and there is one, for every allowance
  obeys : Law listed strictly allowance (report listed strictly allowance)
  obeys = law listed strictly (held-pair s t Counterclockwise Counterclockwise ok-a ok-b) allowance

  -- so the call gives the report of the corners as given
  pub strict-comparison : comparison s t allowance
      ≡ Ok (report (both (corners s) (corners t)) (both_orientations Counterclockwise Counterclockwise) allowance)
  strict-comparison = sym (comparison-unique s t allowance (law-reported _ obeys))

  -- which is the one that obeys their law
  pub strict-reported : (r : Report) → IsComparison s t allowance (Ok r)
      ↔ Law (both (corners s) (corners t)) (both_orientations Counterclockwise Counterclockwise) allowance r
  strict-reported r = (λ is. by-report (comparison-unique s t allowance is ∙ strict-comparison), law-reported r)
    where
      by-report : ◌≡◌ {A = Result Report Refusal} (Ok r) (Ok (report listed strictly allowance))
          → Law listed strictly allowance r
      by-report is = let same : r ≡ report listed strictly allowance = cc in rw same obeys

-- ---- named twice
module _ (pair : Pair) (os : Orientations) where
  -- a corner has its number again, and its nearest point the feature
  given-gap-twice : (w : CornerGap) → IsGap pair w → given_gap pair os (given_gap pair os w) ≡ w
  given-gap-twice w is =
      let s = w.side in let t = other s in
      let number = given-twice (os s) (length (pair s)) w.corner is.known in
      let nearest = given-nearest-twice (os t) (length (pair t)) (nearest_of w) (answers-below is.answers) in
      λ i. with_corner s (number i) (nearest i)

  -- none stays none
  given-worst-twice : (T : CornerGap → Type 0) (x : Option CornerGap) → LeadsOrNone pair os T x
      → given_worst pair os (given_worst pair os x) ≡ x
  given-worst-twice T None is = refl
  given-worst-twice T (Some w) leads = ap Some (given-gap-twice w leads.is_gap)

  module _ (polygons : Polygons pair) where
    -- a support corner is a corner of its outline
    given-support-twice : (k : ℕ) (s : Side) {i : ℕ} → i ≡ support_after pair k s
        → given pair os s (given pair os s i) ≡ i
    given-support-twice k s is = rw is (given-twice (os s) (length (pair s)) _ (support-known pair polygons k s))

    -- so a report is what it was
    pub given-report-twice : {allowance : ℕ} (r : Report) → Law pair os allowance r
        → given_report pair os (given_report pair os r) ≡ r
    given-report-twice {allowance} (Report.Spent p) lawful = let of = (law-spent lawful).1 in ap Report.Spent (spent-same refl
        (given-support-twice allowance A of.support_a) (given-support-twice allowance B of.support_b)
        (given-worst-twice _ p.worst of.worst) (given-worst-twice _ p.sides.a of.side_a.worst)
        (given-worst-twice _ p.sides.b of.side_b.worst))
    given-report-twice (Report.Done d) lawful = let of = (law-done lawful).1 in ap Report.Done (done-same refl
        (given-gap-twice d.answer of.as_defined.is_gap) refl
        (given-gap-twice d.sides.a of.side_a.as_defined.is_gap)
        (given-gap-twice d.sides.b of.side_b.as_defined.is_gap))

    -- and two that are given alike are one
    pub given-report-injective : {n m : ℕ} (r q : Report) → Law pair os n r → Law pair os m q
        → given_report pair os r ≡ given_report pair os q → r ≡ q
    given-report-injective r q one another same =
        sym (given-report-twice r one) ∙ ap (given_report pair os) same ∙ given-report-twice q another

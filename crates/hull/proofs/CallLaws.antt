-- The call for the convex hull, as its callers see it.
--     hull-refused        it is refused exactly where a condition applies, with the refusal of the first that does
--     points-taken        the checks 1, 3, 4 and 9 take exactly where the lists are permitted (`PermittedPoints`)
--     hull-taken          it is taken exactly where they are and the points do not lie in one line
--     permitted-hull      the corners are then the hull of the points
--     hull-accepted       and give an accepted outline
--     is-hull-answer      what the call gives is as rule 7.10 lays down
--     hull_answer-unique   and nothing else is
--     hull-refuses        it answers with a refusal exactly where a condition applies
--     hull-promises       so it has all parts of the call's contract
--     refused-promises, made-promises    and so have a refused call, and one that is taken
--     count-at-most       a count is at most 256
-- Of what the call gives for other points:
--     among-line          points in one line stay so in any order
--     order-hull          points in any order, and however often each comes, have the same hull
--     order-answer        so whatever has the call's promises gives the same count and, for as many points, the same list
--     again-hull, again-answer, again-marks    the hull of a hull's corners: the same list, and the marks 0, 1, ..
-- For the code, by what the checks give:
--     points-refused, points-short, points-made    refused; too few corners; the answer and both lists
--     points-permit       what holds after the checks 1, 3, 4 and 9
use Prim.Native.Nat.{ℕ, ◌*◌, ◌%◌, ◌≤◌, ◌<◌}
use native.Mathlib.Omega.{arith}
use borrow.Author.Tests.{lt-ltb, le-ltb}
use mathlib.Core.Path.{◌≡◌, refl, sym, ap, ◌∙◌}
use mathlib.Core.Logic.Iff
use mathlib.Core.Logic.{◌↔◌, inl, inr, ⊎_elim}
use mathlib.Core.List.{List, [], ◌∷◌}
use lib.Dec.{eqb}
use lib.IntN.{ℤ, pos}
use lib.ListN.{length, get_or}
use lib.Signed.{<ℤ_irrefl}
use Rattle.std.specs.Prelude.{None, Result, Ok, Err}
use Rattle.integers.proofs.Reflect.{test-not, test-or, test-eqb, test-ltb, test-stable}
use Rattle.plane.specs.declared.Corner.{Corner}
use Rattle.plane.specs.Vector.{coordinates}
use Rattle.outline.specs.code.Checks.{Verdict}
use Rattle.outline.specs.declared.Place.TheVariants.{Nowhere}
use Rattle.outline.specs.declared.Refusal.{Refusal}
use Rattle.outline.specs.code.Polygon.{Polygon}
use Rattle.outline.specs.Conditions.{AcceptedList}
use Rattle.outline.specs.Corners.{corners, fewest, most}
use Rattle.outline.specs.Refusal.{Applies, refusal, FirstFault}
use Rattle.outline.proofs.Acceptance.{range-decides, range-taken, coordinates-accepted}
use Rattle.outline.proofs.ChecksLaws.{append-stops, append-goes-on, first-last}
use Rattle.outline.proofs.ConditionLaws.{◌and◌, Decides, AllDecide, NoneApplies, decides-taken, first-refused, first_taken}
use Rattle.outline.proofs.ConditionLaws.{decide-append, none-append, test-decides, nowhere-plain}
use Rattle.outline.proofs.CornersLaws.{corners-coordinates, length-coordinates}
use Rattle.outline.proofs.EdgeLaws.{accepted-polygon, corner-number}
use Rattle.outline.proofs.LeftTurns.{convex-turns}
use Rattle.hull.specs.Call.{wrong_lengths, InLine, no_outline, point_conditions, hull_conditions, PermittedPoints, filled_up}
use Rattle.hull.specs.Call.{IsHullAnswer, refused, made}
use Rattle.hull.specs.Hull.{IsHull}
use Rattle.hull.specs.Marks.{numbered}
use Rattle.hull.specs.code.Call.{check_lengths, check_outline, point_checks, check_points, hull_checks, check_hull, answer_for}
use Rattle.hull.specs.code.Call.{hull_answer, hull_list, hull_marks}
use Rattle.hull.specs.code.Marks.{marks}
use Rattle.hull.specs.code.Wrapping.{convex_hull}
use Rattle.hull.proofs.Filled.{filled-whole}
use Rattle.hull.proofs.HullLaws.{hull-short-iff, hull-is}
use Rattle.hull.proofs.MarksLaws.{mark-unique, marks-are, marks-unique}
use Rattle.hull.proofs.Unique.{Among, hull-unique, hull-points, hull-of-outline}

-- ---- the checks
module _ (s : List ℤ) (room mark-room : ℕ) where
  abbrev ps : List Corner
  ps = corners s

  lengths-decides : Decides (check_lengths s room mark-room) (wrong_lengths s room mark-room)
  lengths-decides =
      test-decides _ None _ (test-or _ _ (test-not (eqb room (length s)) (test-eqb room (length s)))
      (test-not (eqb mark-room (length ps)) (test-eqb mark-room (length ps))))

  outline-decides : Decides (check_outline s) (no_outline ps)
  outline-decides =
      test-decides _ None _ (Iff.trans (test-ltb (length (convex_hull ps)) fewest) (Iff.trans (hull-short-iff ps)
      (inr, ⊎_elim (λ none i j k below. absurd (omega arith)) (λ line. line))))

  points-decide : AllDecide (point_checks s room mark-room) (point_conditions s room mark-room)
  points-decide =
      test-decides _ None _ (test-eqb (length s % 2) 1)
      and test-decides _ None _ (test-ltb most (length ps))
      and range-decides ps None
      and lengths-decides
      and tt

  points_none : NoneApplies (point_conditions s room mark-room) ↔ PermittedPoints s room mark-room
  points_none = (there, back)
    where
      there : NoneApplies (point_conditions s room mark-room) → PermittedPoints s room mark-room
      there (not-odd, (not-many, (none_out, (not-other, _)))) =
          let odd : ¬ (length s % 2 ≡ 1) = λ is. not-odd (Nowhere, (refl, is)) in
          let many : ¬ (most < length ps) = λ is. not-many (Nowhere, (refl, is)) in
          record {
            even = omega arith;
            at_most = omega arith;
            all_in_range = (range-taken ps None).0 ((decides-taken (range-decides ps None)).1 none_out);
            long = test-stable (eqb room (length s)) (test-eqb room (length s)) (λ not. not-other (Nowhere, (refl, inl not)));
            marks_long = test-stable (eqb mark-room (length ps)) (test-eqb mark-room (length ps))
                (λ not. not-other (Nowhere, (refl, inr not)));
          }

      back : PermittedPoints s room mark-room → NoneApplies (point_conditions s room mark-room)
      back may =
          nowhere-plain (λ odd. omega (arith, may.even))
          and nowhere-plain (λ many. omega (arith, may.at_most))
          and (decides-taken (range-decides ps None)).0 ((range-taken ps None).1 may.all_in_range)
          and nowhere-plain (⊎_elim (λ other. other may.long) (λ other. other may.marks_long))
          and tt

  pub points-taken : (check_points s room mark-room ≡ Ok tt) ↔ PermittedPoints s room mark-room
  unfolding check_points
  points-taken = Iff.trans (first_taken (point_checks s room mark-room) (point_conditions s room mark-room) points-decide) points_none

  decide : AllDecide (hull_checks s room mark-room) (hull_conditions s room mark-room)
  decide =
      decide-append (point_checks s room mark-room) (check_outline s ∷ []) (point_conditions s room mark-room) (no_outline ps ∷ [])
      points-decide (outline-decides and tt)

  pub hull-refused : (r : Refusal) → (check_hull s room mark-room ≡ Err r) ↔ FirstFault (hull_conditions s room mark-room) r
  unfolding check_hull
  hull-refused = first-refused (hull_checks s room mark-room) (hull_conditions s room mark-room) decide

  -- no points are in one line too
  outline-none : (¬ Applies (no_outline ps)) ↔ (¬ InLine ps)
  outline-none = (
    λ none line. none (Nowhere, (refl, inr line)),
    λ apart. nowhere-plain (⊎_elim (λ none. apart (λ i j k below. absurd (omega arith))) apart),
  )

  pub hull-taken : (check_hull s room mark-room ≡ Ok tt) ↔ (PermittedPoints s room mark-room × (¬ InLine ps))
  unfolding check_hull
  hull-taken =
      Iff.trans (first_taken (hull_checks s room mark-room) (hull_conditions s room mark-room) decide)
      (Iff.trans (none-append (point_conditions s room mark-room) (no_outline ps ∷ [])) (
        λ (none, (not-Line, _)). (points_none.0 none, outline-none.0 not-Line),
        λ (may, apart). (points_none.1 may, outline-none.1 apart and tt),
      ))

  -- the corners that are computed are the hull of the points
  pub permitted-hull : PermittedPoints s room mark-room → ¬ InLine ps → IsHull ps (convex_hull ps)
  permitted-hull may apart = hull-is ps apart may.at_most may.all_in_range

  pub hull-accepted : check_hull s room mark-room ≡ Ok tt → AcceptedList (coordinates (convex_hull ps))
  hull-accepted takes =
      let (may, apart) = hull-taken.0 takes in (coordinates-accepted (convex_hull ps)).1 (permitted-hull may apart).accepted

-- ---- the call
module _ (s out ms : List ℤ) where
  abbrev points : List Corner
  points = corners s

  abbrev verdict : Verdict
  verdict = check_hull s (length out) (length ms)

  pub is-hull-answer : IsHullAnswer s out ms (hull_answer s out ms) (hull_list s out ms) (hull_marks s out ms)
  is-hull-answer = go verdict refl
    where
      go : (v : Verdict) → verdict ≡ v → IsHullAnswer s out ms (hull_answer s out ms) (hull_list s out ms) (hull_marks s out ms)
      go (Err r) is =
          refused r ((hull-refused s (length out) (length ms) r).0 is) (ap (answer_for s) is) (rw is) (rw is)
      go (Ok _) is =
          let (may, apart) = (hull-taken s (length out) (length ms)).0 is in
          made may apart (convex_hull points) (permitted-hull s (length out) (length ms) may apart) (ap (answer_for s) is) (rw is)
          (rw is (marks-are points (convex_hull points)))

  pub hull_answer-unique : {answer : Result ℕ Refusal} {out-after marks-after : List ℤ}
      → IsHullAnswer s out ms answer out-after marks-after
      → (answer ≡ hull_answer s out ms) × ((out-after ≡ hull_list s out ms) × (marks-after ≡ hull_marks s out ms))
  hull_answer-unique (refused r fault is kept marks-kept) =
      let refuses = (hull-refused s (length out) (length ms) r).1 fault in
      (is ∙ sym (ap (answer_for s) refuses), (kept ∙ rw refuses, marks-kept ∙ rw refuses))
  hull_answer-unique (made may apart hs hull is written are) =
      let takes = (hull-taken s (length out) (length ms)).1 (may, apart) in
      let same : hs ≡ convex_hull points = hull-unique hull (permitted-hull s (length out) (length ms) may apart) in
      let ms-are = marks-unique points hs (accepted-polygon hull.accepted) are in (
        is ∙ ap (λ (gs : List Corner). Ok (length gs)) same ∙ sym (ap (answer_for s) takes),
        (
          written ∙ ap (λ (gs : List Corner). filled_up (length s) (coordinates gs)) same ∙ rw takes,
          ms-are ∙ ap (λ (gs : List Corner). marks points gs) same ∙ rw takes,
        ),
      )

  pub hull-refuses : (r : Refusal) → (hull_answer s out ms ≡ Err r) ↔ FirstFault (hull_conditions s (length out) (length ms)) r
  hull-refuses r = Iff.trans (by-verdict verdict) (hull-refused s (length out) (length ms) r)
    where
      by-verdict : (v : Verdict) → (answer_for s v ≡ Err r) ↔ (v ≡ Err r)
      by-verdict (Ok _) = (λ e. cc, λ e. cc)
      by-verdict (Err q) = (λ e. cc, λ e. cc)

  pub hull-promises : {answer : Result ℕ Refusal} {out-after marks-after : List ℤ} → answer ≡ hull_answer s out ms
      → out-after ≡ hull_list s out ms → marks-after ≡ hull_marks s out ms
      → (answer ≡ hull_answer s out ms) × ((out-after ≡ hull_list s out ms) × ((marks-after ≡ hull_marks s out ms)
      × IsHullAnswer s out ms answer out-after marks-after))
  hull-promises is written marked = (is, (written, (marked, rw (is, written, marked) is-hull-answer)))

  -- what a refused call and one that is taken promise
  pub refused-promises : {r : Refusal} → verdict ≡ Err r
      → (Err r ≡ hull_answer s out ms) × ((out ≡ hull_list s out ms) × ((ms ≡ hull_marks s out ms)
      × IsHullAnswer s out ms (Err r) out ms))
  refused-promises is = hull-promises (sym (ap (answer_for s) is)) (rw is) (rw is)

  pub made-promises : {n : ℕ} {out-after marks-after : List ℤ} → verdict ≡ Ok tt → n ≡ length (convex_hull points)
      → out-after ≡ filled_up (length s) (coordinates (convex_hull points)) → marks-after ≡ marks points (convex_hull points)
      → (Ok n ≡ hull_answer s out ms) × ((out-after ≡ hull_list s out ms) × ((marks-after ≡ hull_marks s out ms)
      × IsHullAnswer s out ms (Ok n) out-after marks-after))
  made-promises is counts written marked =
      hull-promises (ap Ok counts ∙ sym (ap (answer_for s) is)) (written ∙ rw is) (marked ∙ rw is)

-- ---- by what the checks 1, 3, 4 and 9 give
module _ (s : List ℤ) (room mark-room : ℕ) {v : Verdict} (found : v ≡ check_points s room mark-room) where
  pub points-refused : {r : Refusal} → v ≡ Err r → check_hull s room mark-room ≡ Err r
  unfolding check_hull check_points
  points-refused is = append-stops (point_checks s room mark-room) (check_outline s ∷ []) (sym found ∙ is)

  module _ (takes : v ≡ Ok tt) where
    by_count : check_hull s room mark-room ≡ check_outline s
    unfolding check_hull check_points
    by_count =
        append-goes-on (point_checks s room mark-room) (check_outline s ∷ []) (sym found ∙ takes)
        ∙ sym (first-last (check_outline s) refl)

    pub points-short : {n : ℕ} → n ≡ length (convex_hull (corners s)) → n < fewest
        → check_hull s room mark-room ≡ Err (refusal (no_outline (corners s)) Nowhere)
    points-short {n} is few = by_count ∙ rw (← is, lt-ltb n fewest few)

    pub points-made : {n : ℕ} → n ≡ length (convex_hull (corners s)) → fewest ≤ n → check_hull s room mark-room ≡ Ok tt
    points-made {n} is enough = by_count ∙ rw (← is, le-ltb n fewest enough)

    pub points-permit : PermittedPoints s room mark-room
    points-permit = (points-taken s room mark-room).0 (sym found ∙ takes)

-- ---- points in another order
-- any three of points in one line are in one line
pub among-line : (ps qs : List Corner) → Among qs ps → InLine ps → InLine qs
among-line ps qs among line i j k i-below j-below k-below =
    let (a, a-below, a-is) = among i i-below in let (b, b-below, b-is) = among j j-below in
    let (c, c-below, c-is) = among k k-below in
    rw (a-is, b-is, c-is) at (line a b c a-below b-below c-below)

module _ {s t : List ℤ} {room mark-room room' mark-room' : ℕ} where
  -- the hull goes by the points alone
  pub order-hull : PermittedPoints s room mark-room → ¬ InLine (corners s) → PermittedPoints t room' mark-room'
      → Among (corners s) (corners t) → Among (corners t) (corners s) → convex_hull (corners s) ≡ convex_hull (corners t)
  order-hull may apart may' there back =
      let apart' : ¬ InLine (corners t) = λ line. apart (among-line (corners t) (corners s) there line) in
      hull-unique (hull-points (corners t) there back (permitted-hull s room mark-room may apart))
      (permitted-hull t room' mark-room' may' apart')

-- of whatever has the call's promises
pub order-answer : {s out ms t out' ms' : List ℤ} {n k : ℕ} {o m o' m' : List ℤ}
    → IsHullAnswer s out ms (Ok n) o m → IsHullAnswer t out' ms' (Ok k) o' m'
    → Among (corners s) (corners t) → Among (corners t) (corners s) → (n ≡ k) × (length s ≡ length t → o ≡ o')
order-answer (refused _ _ is _ _) two there back = absurd (let z : ◌≡◌ {A = ℕ} 0 1 = cc in omega arith)
order-answer (made _ _ _ _ _ _ _) (refused _ _ is _ _) there back = absurd (let z : ◌≡◌ {A = ℕ} 0 1 = cc in omega arith)
order-answer {t} {n} {k} (made may apart hs hull is written _) (made may' apart' gs hull' is' written' _) there back =
    let same : hs ≡ gs = hull-unique (hull-points (corners t) there back hull) hull' in
    let count : n ≡ length hs = cc in let count' : k ≡ length gs = cc in
    (count ∙ ap length same ∙ sym count', λ long. written ∙ (rw (long, same)) ∙ sym written')

-- a count is at most 256
pub count-at-most : {s out ms : List ℤ} {n : ℕ} {o m : List ℤ} → IsHullAnswer s out ms (Ok n) o m → n ≤ most
count-at-most (refused _ _ is _ _) = absurd (let z : ◌≡◌ {A = ℕ} 0 1 = cc in omega arith)
count-at-most {n} (made _ _ hs hull is _ _) = let count : n ≡ length hs = cc in omega (arith, hull.accepted.at_most)

-- ---- the hull of a hull's corners
-- three corners of a polygon do not lie in one line
polygon-apart : {hs : List Corner} → Polygon hs → ¬ InLine hs
polygon-apart {hs} polygon line =
    let three = polygon.at_least in
    <ℤ_irrefl (rw (line 0 1 2 (omega arith) (omega arith) (omega arith)) at
    (convex-turns hs polygon.convex 0 1 2 (omega arith) (omega arith) (omega arith)))

module _ {ps hs : List Corner} (hull : IsHull ps hs) where
  polygon : Polygon hs
  polygon = accepted-polygon hull.accepted

  pub again-hull : convex_hull hs ≡ hs
  again-hull =
      hull-unique (hull-is hs (polygon-apart polygon) hull.accepted.at_most hull.accepted.all_in_range)
      (hull-of-outline hull.accepted hull.starts)

  -- each corner is there once, and has its own number
  pub again-marks : (i : ℕ) → i < length hs → get_or (marks hs hs) i (pos 0) ≡ pos i
  again-marks i below =
      mark-unique polygon ((marks-are hs hs).each i below)
      (numbered (λ (j, earlier, is). omega (arith, corner-number polygon j i (omega arith) below is)) i below refl refl)

  module _ (out ms : List ℤ) (long : length out ≡ 2 * length hs) (marks_long : length ms ≡ length hs) where
    abbrev list : List ℤ
    list = coordinates hs

    again-taken : check_hull list (length out) (length ms) ≡ Ok tt
    again-taken =
        (hull-taken list (length out) (length ms)).1 (
          record {
            even = omega (arith, length-coordinates hs);
            at_most = rw (corners-coordinates hs) hull.accepted.at_most;
            all_in_range = rw (corners-coordinates hs) hull.accepted.all_in_range;
            long = long ∙ sym (length-coordinates hs);
            marks_long = rw (corners-coordinates hs) marks_long;
          },
          rw (corners-coordinates hs) (polygon-apart polygon),
        )

    pub again-answer : (hull_answer list out ms ≡ Ok (length hs)) × ((hull_list list out ms ≡ list) × (hull_marks list out ms ≡ marks hs hs))
    again-answer =
        rw (again-taken, corners-coordinates hs, again-hull)
        (refl, (filled-whole (length list) list refl, refl))

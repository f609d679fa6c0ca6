-- The call for the nearest point, as its callers see it.
--     point-refused, point-taken    the checks refuse with the refusal of the first condition that applies; they take
--                                   an accepted outline and a point in range
--     answer-refused, answer-found  the call refuses as they do, and answers where they take
--     Answered                  what an answer tells: the list is accepted with an orientation, the point is in range,
--                               and it is the answer for the list as held, named by the list as given
--     nearest-answers, nearest-refuses    so it answers exactly what is laid down, and refuses exactly as that says
--     is-nearest-answer         what the call gives is as rule 7.3 lays down
--     nearest_answer-unique      and nothing else is
--     strict-nearest            a list that the strict reading takes gets the nearest point of its corners
-- For the code, by what the checks of the list give and whether the point is in range:
--     call-refused, call-out-of-range   a list that is refused; a point out of range
--     call_asks, call_below             what the search asks, and what naming its answer by the list as given asks
--     call-found                        the answer
--     call-promises                     what the call gives has both parts of its contract
use Prim.Native.Nat.{ℕ}
use mathlib.Core.Path.{◌≡◌, refl, sym, ap, ◌∙◌}
use mathlib.Core.Logic.Iff
use mathlib.Core.Logic.{◌↔◌}
use mathlib.Core.Bool.{true, false, not}
use mathlib.Core.List.{List, [], ◌∷◌}
use lib.IntN.{ℤ}
use lib.ListN.{length}
use Rattle.std.specs.Prelude.{None, Result, Ok, Err}
use Rattle.integers.proofs.Reflect.{test-false, test-not, test-stable}
use Rattle.plane.specs.declared.Corner.{Corner}
use Rattle.plane.specs.Range.{InRange}
use Rattle.plane.specs.code.Range.{in_range}
use Rattle.plane.proofs.Tests.{in_range-true}
use Rattle.outline.specs.declared.Place.TheVariants.{Nowhere}
use Rattle.outline.specs.declared.Orientation.{Orientation}
use Rattle.outline.specs.declared.Orientation.TheVariants.{Counterclockwise}
use Rattle.outline.specs.declared.Refusal.{Refusal}
use Rattle.outline.specs.code.Checks.{Verdict, first}
use Rattle.outline.specs.code.Reading.{check_point}
use Rattle.outline.specs.Conditions.{either_conditions, point_out_of_range, AcceptedList}
use Rattle.outline.specs.Corners.{corners}
use Rattle.outline.specs.Orientation.{as_held, AcceptedAs}
use Rattle.outline.specs.code.Either.{orientation_of, held_corners, either_checks, check_either}
use Rattle.outline.specs.code.Polygon.{Polygon}
use Rattle.outline.specs.Refusal.{refusal, FirstFault}
use Rattle.outline.proofs.Acceptance.{point-decides, point-in-range}
use Rattle.outline.proofs.EdgeLaws.{accepted-polygon}
use Rattle.outline.proofs.ChecksLaws.{append-stops, append-goes-on}
use Rattle.outline.proofs.ConditionLaws.{AllDecide, first-refused, first_taken, decide-append, none-append}
use Rattle.outline.proofs.ConditionLaws.{NoneApplies, nowhere-plain}
use Rattle.outline.proofs.EitherLaws.{accepted-held, strict-either, accepted-orientation, either-decide, none-either}
use Rattle.outline.proofs.EitherLaws.{checked-accepted}
use Rattle.outline.proofs.OrientationLaws.{held-length}
use Rattle.nearest.specs.declared.NearestPoint.{NearestPoint}
use Rattle.nearest.specs.Nearest.{Answers}
use Rattle.nearest.proofs.AnswerLaws.{answers-iff}
use Rattle.nearest.proofs.GivenLaws.{given-nearest-held, answers-below}
use Rattle.nearest.specs.Call.{nearest_conditions, IsNearestAnswer, refused, found}
use Rattle.nearest.specs.code.Call.{nearest_checks}
use Rattle.nearest.specs.code.Call.{nearest_given, check_nearest, answer_for, nearest_answer}
use Rattle.nearest.specs.Given.{given_nearest}
use Rattle.nearest.specs.code.Given.{FeatureBelow}
use Rattle.nearest.specs.code.Local.{nearest}

module _ (v : Corner) where
  not-in_range : (not (in_range v) ≡ true) ↔ (¬ InRange v)
  not-in_range = test-not (in_range v) (in_range-true v)

  module _ (s : List ℤ) where
    decide : AllDecide (nearest_checks v s) (nearest_conditions v s)
    decide =
        decide-append (either_checks None s) (check_point v ∷ []) (either_conditions None s) (point_out_of_range v ∷ [])
        (either-decide None s) (point-decides v, tt)

    pub point-refused : (r : Refusal) → (check_nearest v s ≡ Err r) ↔ FirstFault (nearest_conditions v s) r
    unfolding check_nearest
    point-refused = first-refused (nearest_checks v s) (nearest_conditions v s) decide

    pub point-taken : (check_nearest v s ≡ Ok tt) ↔ (AcceptedAs (orientation_of (corners s)) s × InRange v)
    unfolding check_nearest
    point-taken =
        Iff.trans (first_taken (nearest_checks v s) (nearest_conditions v s) decide)
        (Iff.trans (none-append (either_conditions None s) (point_out_of_range v ∷ [])) (there, back))
      where
        there : NoneApplies (either_conditions None s) × NoneApplies (point_out_of_range v ∷ [])
            → AcceptedAs (orientation_of (corners s)) s × InRange v
        there (none, (not-out, _)) = (
          (none-either None s).0 none,
          point-in-range v not-out,
        )

        back : AcceptedAs (orientation_of (corners s)) s × InRange v
            → NoneApplies (either_conditions None s) × NoneApplies (point_out_of_range v ∷ [])
        back (ok, all_in_range) = ((none-either None s).1 ok, (nowhere-plain (λ out. out all_in_range), tt))

    by-refusal : (w : Verdict) (r : Refusal) → (answer_for v s w ≡ Err r) ↔ (w ≡ Err r)
    by-refusal (Ok _) r = (λ e. cc, λ e. cc)
    by-refusal (Err q) r = (λ e. cc, λ e. ap (answer_for v s) e)

    by_answer : (w : Verdict) (a : NearestPoint)
        → (answer_for v s w ≡ Ok a) ↔ ((w ≡ Ok tt) × (a ≡ nearest_given v s))
    by_answer (Ok _) a = (λ e. (refl, cc), λ h. cc)
    by_answer (Err q) a = (λ e. (cc, cc), λ h. cc)

    pub answer-refused : (r : Refusal) → (nearest_answer v s ≡ Err r) ↔ (check_nearest v s ≡ Err r)
    answer-refused = by-refusal (check_nearest v s)

    pub answer-found : (a : NearestPoint)
        → (nearest_answer v s ≡ Ok a) ↔ ((check_nearest v s ≡ Ok tt) × (a ≡ nearest_given v s))
    answer-found = by_answer (check_nearest v s)

    -- a list that is accepted with an orientation, a point in range, and the answer that is laid down
    pub record Answered (a : NearestPoint) : Type 0 where
      pub orientation : Orientation
      pub answer_as_held : NearestPoint
      pub accepted : AcceptedAs orientation s
      pub all_in_range : InRange v
      pub answers : Answers (as_held orientation (corners s)) v answer_as_held
      pub named : a ≡ given_nearest orientation (length (corners s)) answer_as_held

    -- an outline that is accepted is a polygon as held
    polygon : (o : Orientation) → AcceptedAs o s → Polygon (as_held o (corners s))
    polygon o ok = accepted-polygon (accepted-held ok)

    pub nearest-answers : (a : NearestPoint) → (nearest_answer v s ≡ Ok a) ↔ Answered a
    nearest-answers a = Iff.trans (answer-found a) (there, back)
      where
        there : (check_nearest v s ≡ Ok tt) × (a ≡ nearest_given v s) → Answered a
        there (takes, is) = let (ok, all_in_range) = point-taken.0 takes in record {
          orientation = orientation_of (corners s);
          answer_as_held = nearest (held_corners s) v;
          accepted = ok;
          all_in_range = all_in_range;
          answers = (answers-iff (polygon (orientation_of (corners s)) ok) v (nearest (held_corners s) v)).1 refl;
          named = is;
        }

        back : Answered a → (check_nearest v s ≡ Ok tt) × (a ≡ nearest_given v s)
        back of =
            let o = of.orientation in
            let is = accepted-orientation o s of.accepted in (
              point-taken.1 (rw is of.accepted, of.all_in_range),
              rw is (of.named ∙ ap (given_nearest o (length (corners s)))
                  ((answers-iff (polygon o of.accepted) v of.answer_as_held).0 of.answers)),
            )

    -- or the refusal of the first that applies, 1 to 6 for the outline and then 7
    pub nearest-refuses : (r : Refusal) → (nearest_answer v s ≡ Err r) ↔ FirstFault (nearest_conditions v s) r
    nearest-refuses r = Iff.trans (answer-refused r) (point-refused r)

    pub is-nearest-answer : IsNearestAnswer v s (nearest_answer v s)
    is-nearest-answer = go (nearest_answer v s) refl
      where
        go : (result : Result NearestPoint Refusal) → nearest_answer v s ≡ result → IsNearestAnswer v s (nearest_answer v s)
        go (Err r) is = refused r ((nearest-refuses r).0 is) is
        go (Ok a) is = let of = (nearest-answers a).0 is in
            found of.orientation of.answer_as_held of.accepted of.all_in_range of.answers (is ∙ ap Ok of.named)

    pub nearest_answer-unique : {result : Result NearestPoint Refusal} → IsNearestAnswer v s result → result ≡ nearest_answer v s
    nearest_answer-unique (refused r fault is) = is ∙ sym ((nearest-refuses r).1 fault)
    nearest_answer-unique (found o a ok all_in_range answers is) = is ∙ sym ((nearest-answers _).1 (record {
      orientation = o;
      answer_as_held = a;
      accepted = ok;
      all_in_range = all_in_range;
      answers = answers;
      named = refl;
    }))

    -- such a list is counterclockwise, and held as it is given
    pub strict-nearest : AcceptedList s → InRange v → nearest_answer v s ≡ Ok (nearest (corners s) v)
    strict-nearest strict all_in_range =
        let ok = (strict-either s).1 strict in
        let a = nearest (corners s) v in
        (nearest-answers a).1 (record {
          orientation = Counterclockwise;
          answer_as_held = a;
          accepted = ok;
          all_in_range = all_in_range;
          answers = (answers-iff (polygon Counterclockwise ok) v a).1 refl;
          named = sym (given-nearest-held (length (corners s)) a);
        })

    pub call-promises : {result : Result NearestPoint Refusal} → result ≡ nearest_answer v s
        → (result ≡ nearest_answer v s) × IsNearestAnswer v s result
    call-promises is = (is, rw is is-nearest-answer)

    module _ {u : Verdict} (is-checked : u ≡ check_either None s) where
      pub call-refused : {r : Refusal} → u ≡ Err r → Err r ≡ nearest_answer v s
      unfolding check_nearest check_either
      call-refused {r} not_taken =
          sym ((answer-refused r).1 (append-stops (either_checks None s) (check_point v ∷ []) (sym is-checked ∙ not_taken)))

      module _ (taken : u ≡ Ok tt) where
        accepted : AcceptedAs (orientation_of (corners s)) s
        accepted = checked-accepted None s is-checked taken refl

        by-point : check_nearest v s ≡ first (check_point v ∷ [])
        unfolding check_nearest check_either
        by-point = append-goes-on (either_checks None s) (check_point v ∷ []) (sym is-checked ∙ taken)

        pub call-out-of-range : not (in_range v) ≡ true
            → Err (refusal (point_out_of_range v) Nowhere) ≡ nearest_answer v s
        call-out-of-range out = sym ((answer-refused _).1 (by-point ∙ rw out))

        module _ {o : Orientation} (found-is : o ≡ orientation_of (corners s)) where
          -- the search is in the outline as held
          held-nearest : {a : NearestPoint} → a ≡ nearest (as_held o (corners s)) v → a ≡ nearest (held_corners s) v
          held-nearest is = rw found-is at is

          pub call_asks : not (in_range v) ≡ false → AcceptedAs o s × InRange v
          call_asks all_in_range = (
            rw found-is accepted,
            test-stable (in_range v) (in_range-true v) ((test-false (not (in_range v)) not-in_range).0 all_in_range),
          )

          -- the feature is one of the list's
          pub call_below : {a : NearestPoint} {n : ℕ} → a ≡ nearest (as_held o (corners s)) v → n ≡ length (corners s)
              → FeatureBelow n a.feature
          call_below {a} is counted =
              rw (counted, ← held-length (orientation_of (corners s)) (corners s))
              (answers-below ((answers-iff (polygon (orientation_of (corners s)) accepted) v a).1 (held-nearest is)))

          pub call-found : not (in_range v) ≡ false → {a b : NearestPoint} {n : ℕ} → a ≡ nearest (as_held o (corners s)) v
              → n ≡ length (corners s) → b ≡ given_nearest o n a → Ok b ≡ nearest_answer v s
          call-found all_in_range is counted named = sym ((answer-found _).1 (
            by-point ∙ rw all_in_range,
            named ∙ (λ i. given_nearest (found-is i) (counted i) (held-nearest is i)),
          ))

-- The default reading, as callers see it.
--     held-accepted, accepted-held    a list is accepted with an orientation exactly where its length is even and the
--                              corners as held are accepted
--     strict-either            a list that the strict reading takes is accepted counterclockwise, and the other way round
--     accepted-orientation     the first three corners of an accepted list tell its orientation
--     held-itself, held-reversed    of an accepted list: corners that are strictly convex are held as they are, and any
--                              others as corner 0 and then the rest in the opposite order
--     accepted-either-iff      so a list is accepted exactly where its length is even and these are accepted
--     either-decide            each check decides its condition
--     either-refused           a list is refused exactly where a condition applies, with the refusal of the first that does
--     none-either, either-taken    it is taken exactly where it is accepted with an orientation, the one that its first
--                              three corners tell
--     checked-accepted         for the code: a list that is checked and taken is accepted with the orientation found
--     accepted-taken           so a list that is accepted with any orientation is taken
--     convex-either            where the length is right and the corners are in range and strictly convex as held, all
--                              checks take
--     is-either, either-unique     what the reading gives is as rule 7.2 lays down, and nothing else is
--     either-promises          so it has both parts of the call's contract
-- Of a list that is taken:
--     either-outline, either-corners_of    the value that is read holds an accepted outline, with the corners as held
--     either-count, either-orientation    as many as the list gives; and its orientation
use Prim.Native.Nat.{ℕ, ◌<◌, ◌≤◌, ◌%◌}
use mathlib.Core.Path.{◌≡◌, refl, sym, ap, ◌∙◌}
use mathlib.Core.Logic.Iff
use mathlib.Core.Logic.{◌↔◌, ◌⊎◌, inl, inr, ⊎_elim}
use mathlib.Core.Bool.{Bool, true, false, cond}
use mathlib.Core.List.{List, [], ◌∷◌}
use native.Mathlib.Decide.{dec_lt}
use native.Mathlib.Nat.{eq-or-lt_of_le}
use native.Mathlib.Omega.{arith}
use lib.IntN.{ℤ}
use lib.ListN.{length}
use Rattle.std.specs.Prelude.{Option, Result, Ok, Err}
use Rattle.outline.specs.declared.Side.{Side}
use Rattle.integers.proofs.Reflect.{test-false}
use Rattle.plane.specs.declared.Corner.{Corner}
use Rattle.outline.specs.declared.EitherReading.{EitherReading}
use Rattle.outline.specs.declared.Orientation.{Orientation}
use Rattle.outline.specs.declared.Orientation.TheVariants.{Counterclockwise, Clockwise}
use Rattle.outline.specs.declared.Refusal.{Refusal}
use Rattle.outline.specs.Conditions.{fits_neither, common_conditions, either_conditions, AcceptedList}
use Rattle.outline.specs.Convex.{AllInRange, StrictlyConvex, Accepted}
use Rattle.outline.specs.Corners.{corners, held, fewest}
use Rattle.outline.specs.EitherReading.{IsEitherReading, refused, taken}
use Rattle.outline.specs.Orientation.{StrictlyClockwise, HasOrientation, reversed, as_held, AcceptedAs}
use Rattle.outline.specs.Refusal.{Applies, FirstFault}
use Rattle.outline.specs.code.Checks.{Verdict, first}
use Rattle.outline.specs.code.Either.{orientation_of, held_corners, check_either_convex, either_checks, check_either}
use Rattle.outline.specs.code.Either.{either_reading}
use Rattle.outline.specs.code.Held.{IsOutline, corners_of}
use Rattle.outline.specs.code.Reading.{length_checks, check_convex}
use Rattle.outline.specs.code.Turns.{is_convex}
use Rattle.outline.proofs.Acceptance.{convex-decides, convex-taken, Sized, common-decide, common-none}
use Rattle.outline.proofs.Acceptance.{not-left-none, common-sized, lengths-sized}
use Rattle.outline.proofs.ChecksLaws.{taken≢refused, answer-ok}
use Rattle.outline.proofs.CornersLaws.{next-suc, next_last}
use Rattle.outline.proofs.ConditionLaws.{◌and◌, Decides, AllDecide, decides-taken, first-refused, first_taken}
use Rattle.outline.proofs.ConditionLaws.{NoneApplies, none-append}
use Rattle.outline.proofs.EdgeLaws.{accepted-polygon}
use Rattle.outline.proofs.HeldLaws.{corners_of-held, held-outline}
use Rattle.outline.proofs.OrientationLaws.{held-length, held-range, held-convex, held-distinct}
use Rattle.outline.proofs.OrientationLaws.{one-orientation, orientation-found}
use Rattle.outline.proofs.TurnsLaws.{is_convex-true}

module _ (o : Orientation) (s : List ℤ) where
  -- as many corners, the same coordinates, and convex as held
  pub held-accepted : AcceptedAs o s ↔ ((length s % 2 ≡ 0) × Accepted (as_held o (corners s)))
  held-accepted = (
    λ ok. (
      ok.even,
      record {
        at_least = rw (held-length o (corners s)) ok.at_least;
        at_most = rw (held-length o (corners s)) ok.at_most;
        all_in_range = (held-range o (corners s)).0 ok.all_in_range;
        convex = (held-convex o (corners s)).0 ok.fits;
      },
    ),
    λ (even, ok). record {
      even = even;
      at_least = rw (held-length o (corners s)) at ok.at_least;
      at_most = rw (held-length o (corners s)) at ok.at_most;
      all_in_range = (held-range o (corners s)).1 ok.all_in_range;
      fits = (held-convex o (corners s)).1 ok.convex;
    },
  )

  pub accepted-orientation : AcceptedAs o s → orientation_of (corners s) ≡ o
  accepted-orientation ok = orientation-found (corners s) ok.at_least o ok.fits

-- as held
pub accepted-held : {o : Orientation} {s : List ℤ} → AcceptedAs o s → Accepted (as_held o (corners s))
accepted-held {o} {s} ok = ((held-accepted o s).0 ok).1

pub strict-either : (s : List ℤ) → AcceptedAs Counterclockwise s ↔ AcceptedList s
strict-either s = held-accepted Counterclockwise s

-- ---- as held, without the name of an orientation
-- strictly convex corners are not clockwise
clockwise-other : (s : List ℤ) → AcceptedAs Clockwise s → ¬ StrictlyConvex (corners s)
clockwise-other s ok convex =
    let same = one-orientation (corners s) ok.at_least Counterclockwise Clockwise convex ok.fits in
    let z : ◌≡◌ {A = ℕ} 0 1 = cc in omega arith

-- so an accepted list of such corners is held as it is
pub held-itself : (o : Orientation) (s : List ℤ) → AcceptedAs o s → StrictlyConvex (corners s)
    → as_held o (corners s) ≡ corners s
held-itself Counterclockwise s ok convex = refl
held-itself Clockwise s ok convex = absurd (clockwise-other s ok convex)

-- and any other as corner 0 and then the rest in the opposite order
pub held-reversed : (o : Orientation) (s : List ℤ) → AcceptedAs o s → ¬ StrictlyConvex (corners s)
    → as_held o (corners s) ≡ reversed (corners s)
held-reversed Counterclockwise s ok other = absurd (other ok.fits)
held-reversed Clockwise s ok other = refl

-- a list is accepted exactly where its length is even and what is so held is accepted
pub accepted-either-iff : (s : List ℤ) → ((o : Orientation) × AcceptedAs o s)
    ↔ ((length s % 2 ≡ 0) × (Accepted (corners s) ⊎ ((¬ StrictlyConvex (corners s)) × Accepted (reversed (corners s)))))
accepted-either-iff s = (
  there,
  λ (even, ok). ⊎_elim
      (λ itself. (Counterclockwise, (held-accepted Counterclockwise s).1 (even, itself)))
      (λ (_, back). (Clockwise, (held-accepted Clockwise s).1 (even, back))) ok,
)
  where
    there : (o : Orientation) × AcceptedAs o s
        → (length s % 2 ≡ 0) × (Accepted (corners s) ⊎ ((¬ StrictlyConvex (corners s)) × Accepted (reversed (corners s))))
    there (Counterclockwise, ok) = (ok.even, inl (accepted-held ok))
    there (Clockwise, ok) = (ok.even, inr (clockwise-other s ok, accepted-held ok))

-- ---- 6
-- fewer than three corners are strictly convex, since there is no third
few-convex : (cs : List Corner) → length cs < 3 → StrictlyConvex cs
few-convex cs few e c e-below c-below not_start not_end = absurd (⊎_elim
    (λ last. omega (arith, next_last (length cs) e (omega arith)))
    (λ more. omega (arith, next-suc (length cs) e more))
    (eq-or-lt_of_le e-below))

module _ (whose : Option Side) (cs : List Corner) where
  -- clockwise corners are strictly convex as held
  clockwise-held : StrictlyClockwise cs → StrictlyConvex (as_held (orientation_of cs) cs)
  clockwise-held right = elim (dec_lt (length cs) 3) [
    | yes few ↦ few-convex (as_held (orientation_of cs) cs) (rw (held-length (orientation_of cs) cs) few)
    | no three ↦ rw (orientation-found cs (omega arith) Clockwise right) ((held-convex Clockwise cs).0 right)
  ]

  -- where the corners fit an orientation it does not apply
  fits_one : (o : Orientation) → HasOrientation o cs → ¬ Applies (fits_neither whose cs)
  fits_one Counterclockwise convex (p, (not_right, applies)) =
      (not-left-none cs whose).1 convex (p, applies)
  fits_one Clockwise right (p, (not_right, applies)) = not_right right

  either-convex-decides : Decides (check_either_convex whose cs) (fits_neither whose cs)
  unfolding check_either_convex
  either-convex-decides = go (is_convex (as_held (orientation_of cs) cs)) refl
    where
      go : (t : Bool) → is_convex (as_held (orientation_of cs) cs) ≡ t
          → Decides (cond t (Ok tt) (check_convex whose cs)) (fits_neither whose cs)
      go true holds r = (
        λ e. absurd (taken≢refused refl e),
        λ (p, applies, is). absurd (fits_one (orientation_of cs)
            ((held-convex (orientation_of cs) cs).1 ((is_convex-true (as_held (orientation_of cs) cs)).0 holds)) (p, applies)),
      )
      go false fails r =
          let decides = convex-decides cs whose r in
          let not-convex = (test-false _ (is_convex-true (as_held (orientation_of cs) cs))).0 fails in
          let not_right : ¬ StrictlyClockwise cs = λ right. not-convex (clockwise-held right) in (
            λ e. (let (p, applies, is) = decides.0 e in (p, (not_right, applies), is)),
            λ (p, (_, applies), is). decides.1 (p, applies, is),
          )

-- ---- all checks
module _ (whose : Option Side) (s : List ℤ) where
  pub either-decide : AllDecide (either_checks whose s) (either_conditions whose s)
  either-decide = common-decide whose s _ _ (either-convex-decides whose (corners s))

  pub either-refused : (r : Refusal) → (check_either whose s ≡ Err r) ↔ FirstFault (either_conditions whose s) r
  unfolding check_either
  either-refused = first-refused (either_checks whose s) (either_conditions whose s) either-decide

  abbrev cs : List Corner
  cs = corners s

  -- a list that fits the orientation of its first three corners
  sized-accepted : Sized s → HasOrientation (orientation_of cs) cs → AcceptedAs (orientation_of cs) s
  sized-accepted ok fits = record {
    even = ok.even;
    at_least = ok.at_least;
    at_most = ok.at_most;
    all_in_range = ok.all_in_range;
    fits = fits;
  }

  -- where 6 does not apply the corners fit that orientation
  fits-first : fewest ≤ length cs → ¬ Applies (fits_neither whose cs) → HasOrientation (orientation_of cs) cs
  unfolding check_either_convex
  fits-first enough none =
      go (is_convex (as_held (orientation_of cs) cs)) refl ((decides-taken (either-convex-decides whose cs)).1 none)
    where
      go : (t : Bool) → is_convex (as_held (orientation_of cs) cs) ≡ t → cond t (Ok tt) (check_convex whose cs) ≡ Ok tt
          → HasOrientation (orientation_of cs) cs
      go true holds _ = (held-convex (orientation_of cs) cs).1 ((is_convex-true (as_held (orientation_of cs) cs)).0 holds)
      go false fails takes =
          let convex = (convex-taken cs whose).0 takes in
          rw (orientation-found cs enough Counterclockwise convex) convex

  pub none-either : NoneApplies (either_conditions whose s) ↔ AcceptedAs (orientation_of cs) s
  none-either = Iff.trans (none-append (common_conditions whose s) (fits_neither whose cs ∷ [])) (there, back)
    where
      there : NoneApplies (common_conditions whose s) × NoneApplies (fits_neither whose cs ∷ [])
          → AcceptedAs (orientation_of cs) s
      there (none, (fits-some, _)) =
          let ok = common-sized whose s none in sized-accepted ok (fits-first ok.at_least fits-some)

      back : AcceptedAs (orientation_of cs) s
          → NoneApplies (common_conditions whose s) × NoneApplies (fits_neither whose cs ∷ [])
      back ok = (
        common-none whose s
            (record { even = ok.even; at_least = ok.at_least; at_most = ok.at_most; all_in_range = ok.all_in_range })
            (held-distinct (orientation_of cs) cs (accepted-polygon (accepted-held ok))),
        fits_one whose cs (orientation_of cs) ok.fits and tt,
      )

  pub either-taken : (check_either whose s ≡ Ok tt) ↔ AcceptedAs (orientation_of cs) s
  unfolding check_either
  either-taken = Iff.trans (first_taken (either_checks whose s) (either_conditions whose s) either-decide) none-either

  -- a list that the code has checked, with the orientation that it then finds
  pub checked-accepted : {u : Verdict} {o : Orientation} → u ≡ check_either whose s → u ≡ Ok tt → o ≡ orientation_of cs
      → AcceptedAs o s
  checked-accepted is takes found = rw found (either-taken.0 (sym is ∙ takes))

  -- whatever its orientation is
  pub accepted-taken : (o : Orientation) → AcceptedAs o s → check_either whose s ≡ Ok tt
  accepted-taken o ok = either-taken.1 (rw (accepted-orientation o s ok) ok)

  -- three or more strictly convex corners have no equal neighbours, so 5 takes too
  pub convex-either : first (length_checks whose s) ≡ Ok tt → AllInRange cs
      → is_convex (as_held (orientation_of cs) cs) ≡ true → check_either whose s ≡ Ok tt
  convex-either lengths all convex =
      either-taken.1 (sized-accepted (lengths-sized whose s lengths all)
      ((held-convex (orientation_of cs) cs).1 ((is_convex-true (as_held (orientation_of cs) cs)).0 convex)))

  -- what is read of a list that is taken
  abbrev either_read : EitherReading
  either_read = record { outline = held (held_corners s); orientation = orientation_of cs }

  pub is-either : IsEitherReading whose s (either_reading whose s)
  is-either = go (check_either whose s) refl
    where
      go : (v : Verdict) → check_either whose s ≡ v → IsEitherReading whose s (either_reading whose s)
      go (Err r) is = refused r ((either-refused r).0 is) (rw is)
      go (Ok _) is = taken (orientation_of cs) (either-taken.0 is) (rw is)

  pub either-promises : {result : Result EitherReading Refusal} → result ≡ either_reading whose s
      → (result ≡ either_reading whose s) × IsEitherReading whose s result
  either-promises is = (is, rw is is-either)

  pub either-unique : {result : Result EitherReading Refusal} → IsEitherReading whose s result
      → result ≡ either_reading whose s
  either-unique (refused r fault is) = rw (is, (either-refused r).1 fault)
  either-unique (taken o ok is) = rw (is, accepted-taken o ok, accepted-orientation o s ok)

  module _ {read : EitherReading} (is-read : either_reading whose s ≡ Ok read) where
    either-holds : (read ≡ either_read) × AcceptedAs (orientation_of cs) s
    either-holds = let (is, takes) = answer-ok (check_either whose s) is-read in (is, either-taken.0 takes)

    pub either-outline : IsOutline read.outline
    either-outline = rw either-holds.0 (held-outline (held_corners s) (accepted-held either-holds.1))

    pub either-orientation : read.orientation ≡ orientation_of cs
    either-orientation = ap (λ (r : EitherReading). r.orientation) either-holds.0

    -- as many as the list gives
    pub either-count : read.outline.count ≡ length cs
    unfolding held
    either-count = ap (λ (r : EitherReading). r.outline.count) either-holds.0 ∙ held-length (orientation_of cs) cs

    pub either-corners_of : corners_of read.outline ≡ held_corners s
    either-corners_of =
        ap (λ (r : EitherReading). corners_of r.outline) either-holds.0 ∙ corners_of-held (held_corners s)

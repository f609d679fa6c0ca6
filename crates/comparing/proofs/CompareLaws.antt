-- Comparing makes the steps of the sweep and reports what they find.
--     places               the bounds of a window's corners
--     window-seen          corners read from a value, around one of them, are what a step sees there
--     window-read          the same of the value of a list
--     window-held          it is what a step sees of the list that the value holds
--     held-count           a list gives as many corners as are held
-- Of two lists that are accepted, each with its orientation:
--     begins               the lowest corners, all edges to come and no worst are the sweep after no steps
--     known-held           the support corners after some steps are corners of the outlines
--     can-step             a step can be made while there is one to make
--     counts-total         the counts together are N
--     listed-reportable    the state after some steps has what reporting asks
--     compare-reports      the report of the state after the steps that are made is `report`, by the lists as given
use Prim.Native.Nat.{ℕ, ◌+◌, ◌<◌, ◌≤◌}
use mathlib.Core.List.{List}
use mathlib.Core.Path.{◌≡◌, refl, sym, ◌∙◌}
use native.Mathlib.Omega.{arith}
use lib.Dec.{ltb}
use lib.IntN.{ℤ}
use lib.ListN.{length}
use lib.Seq.{get_or-take, length-take-le}
use Rattle.std.specs.Prelude.{None}
use Rattle.plane.specs.declared.Corner.{Corner}
use Rattle.outline.specs.declared.Orientation.{Orientation}
use Rattle.outline.specs.declared.Outline.{Outline}
use Rattle.outline.specs.Corners.{corners, corner, next, previous, held, most, origin}
use Rattle.outline.specs.code.Held.{corners_of}
use Rattle.outline.specs.Orientation.{as_held, AcceptedAs}
use Rattle.outline.proofs.EdgeLaws.{accepted-polygon}
use Rattle.outline.proofs.HeldLaws.{corners_of-held, held-corner}
use Rattle.outline.proofs.CornersLaws.{before-below, after-below}
use Rattle.outline.proofs.OrientationLaws.{held-length}
use Rattle.outline.specs.declared.Side.{Side}
use Rattle.outline.specs.declared.Side.TheVariants.{A, B}
use Rattle.hausdorff.specs.declared.Report.{Report}
use Rattle.hausdorff.specs.Pair.{Pair, Orientations, both_orientations, step_count}
use Rattle.hausdorff.specs.Call.{held_pair}
use Rattle.hausdorff.specs.code.Call.{report_for}
use Rattle.hausdorff.specs.code.Pair.{AcceptedPair}
use Rattle.hausdorff.specs.code.Lowest.{LowestLeftmost}
use Rattle.hausdorff.proofs.CallLaws.{held-pair}
use Rattle.hausdorff.proofs.WorstLaws.{support-known}
use Rattle.sweep.specs.declared.State.{State}
use Rattle.measuring.specs.declared.Window.{Window}
use Rattle.measuring.specs.Window.{window_at}
use Rattle.sweep.specs.State.{side_state, IsAfter, CanStep, beginning}
use Rattle.comparing.specs.declared.reporting.Listed.{Listed}
use Rattle.comparing.specs.ReportOf.{listed_of, Reportable, report_of}
use Rattle.comparing.proofs.ReportLaws.{listed-held, after-reportable, steps_made, report_of-after}
use Rattle.sweep.proofs.BeginLaws.{begins-after}

-- the bounds of a window's corners
pub ruleset places = (after-below)

-- the corners are in the places of their numbers
pub window-seen : (o : Outline) {i earlier before after later : ℕ} → o.count ≤ length o.corners → i < o.count
    → before ≡ previous o.count i → earlier ≡ previous o.count before → after ≡ next o.count i
    → later ≡ next o.count after
    → ◌≡◌ {A = Window} (record {
      count = o.count;
      number = i;
      earlier = corner o.corners earlier;
      before = corner o.corners before;
      corner = corner o.corners i;
      after = corner o.corners after;
      later = corner o.corners later;
    }) (window_at (corners_of o) i)
window-seen o {i} {earlier} {before} {after} {later} fits known before_is earlier-is after_is later-is =
    let read : (j : ℕ) → j < o.count → corner (corners_of o) j ≡ corner o.corners j =
    λ j below. get_or-take o.count o.corners j origin below in
    let known_before = before-below before_is known in
    let known_after = after-below after_is known in
    cc (
      length-take-le o.count o.corners fits,
      before_is,
      earlier-is,
      after_is,
      later-is,
      read i known,
      read before known_before,
      read after known_after,
      read earlier (before-below earlier-is known_before),
      read later (after-below later-is known_after),
    )

-- so they are in the value of a list
pub window-read : (cs : List Corner) {o : Outline} {n i earlier before after later : ℕ} → o ≡ held cs → n ≡ length cs
    → i < n → before ≡ previous n i → earlier ≡ previous n before → after ≡ next n i → later ≡ next n after
    → ◌≡◌ {A = Window} (record {
      count = n;
      number = i;
      earlier = corner o.corners earlier;
      before = corner o.corners before;
      corner = corner o.corners i;
      after = corner o.corners after;
      later = corner o.corners later;
    }) (window_at cs i)
window-read cs {o} {n} {i} {earlier} {before} {after} {later} holds counted known before_is earlier-is after_is
    later-is =
    let read : (j : ℕ) → j < n → corner o.corners j ≡ corner cs j =
    λ j below. rw holds (held-corner cs j (omega (arith, counted))) in
    cc (
      counted,
      read i known,
      read before (before-below before_is known),
      read after (after-below after_is known),
      read earlier (before-below earlier-is (before-below before_is known)),
      read later (after-below later-is (after-below after_is known)),
    )

-- what is seen of a held list is seen of the list
pub window-held : (cs : List Corner) {i : ℕ} → window_at (corners_of (held cs)) i ≡ window_at cs i
window-held cs = rw (corners_of-held cs)

-- a list gives as many corners as are held
pub held-count : (o : Orientation) (cs : List Corner) {n : ℕ} → n ≡ length cs → n ≡ length (as_held o cs)
held-count o cs counted = counted ∙ sym (held-length o cs)

module _ {o q : Orientation} {s t : List ℤ} (ok-a : AcceptedAs o s) (ok-b : AcceptedAs q t) where
  abbrev pair : Pair
  pair = held_pair o q s t

  abbrev os : Orientations
  os = both_orientations o q

  accepted : AcceptedPair pair
  accepted = held-pair s t o q ok-a ok-b

  -- each side begins where the sweep does
  pub begins : {i j : ℕ} → LowestLeftmost (pair A) i → LowestLeftmost (pair B) j
      → IsAfter pair os 0 (record { a = beginning i (held (pair A)).count; b = beginning j (held (pair B)).count })
  unfolding held
  begins {i} {j} lowest-a lowest-b = begins-after pair os (λ r. accepted-polygon (accepted r)) start lowest all none
    where
      start : State
      start = record { a = beginning i (length (pair A)); b = beginning j (length (pair B)) }

      lowest : (r : Side) → LowestLeftmost (pair r) (side_state start r).support
      lowest A = lowest-a
      lowest B = lowest-b

      all : (r : Side) → (side_state start r).remaining ≡ length (pair r)
      all A = refl
      all B = refl

      none : (r : Side) → (side_state start r).worst ≡ None
      none A = refl
      none B = refl

  module _ {k : ℕ} {state : State} (is_after : IsAfter pair os k state) where
    -- the support corners after k steps are corners of the outlines
    pub known-held : (r : Side) → ((held (pair r)).count ≤ most) × ((side_state state r).support < (held (pair r)).count)
    unfolding held
    known-held r = (
      (accepted r).at_most,
      rw (is_after.support r) (support-known pair (λ u. accepted-polygon (accepted u)) k r),
    )

    -- unfoldable, since what a step ensures is said of the pair and the steps of this record
    unfoldable pub can-step : {a b : Window} → k < step_count pair → a ≡ window_at (pair A) state.a.support
        → b ≡ window_at (pair B) state.b.support → CanStep state a b o q
    can-step more sees_a sees_b = record {
      pair = pair;
      steps = k;
      accepted = held-pair s t o q ok-a ok-b;
      more = more;
      is_after = is_after;
      sees_a = sees_a;
      sees_b = sees_b;
    }

  -- what a report needs of the lists is what it needs of the outlines as held
  listed-as : {a b : Listed} → a ≡ listed_of o (corners s) → b ≡ listed_of q (corners t)
      → (a ≡ listed_of o (pair A)) × (b ≡ listed_of q (pair B))
  listed-as is-a is_b = (
    is-a ∙ listed-held o (corners s) (omega (arith, ok-a.at_least)),
    is_b ∙ listed-held q (corners t) (omega (arith, ok-b.at_least)),
  )

  -- the state after some steps has what reporting asks
  pub listed-reportable : {steps : ℕ} {state : State} {a b : Listed} → IsAfter pair os steps state
      → a ≡ listed_of o (corners s) → b ≡ listed_of q (corners t) → Reportable state a b
  listed-reportable {steps} is_after is-a is_b =
      rw ((listed-as is-a is_b).0, (listed-as is-a is_b).1)
      (after-reportable pair os (held-pair s t o q ok-a ok-b) steps is_after)

  module _ {n m : ℕ} (counted_a : n ≡ length (corners s)) (counted_b : m ≡ length (corners t)) where
    -- the counts together are N
    pub counts-total : n + m ≡ step_count pair
    counts-total = omega (arith, held-count o (corners s) counted_a, held-count q (corners t) counted_b)

    pub compare-reports : (allowance : ℕ) {steps : ℕ} {state : State} {a b : Listed} {r : Report}
        → steps ≡ steps_made (n + m) allowance → IsAfter pair os steps state
        → a ≡ listed_of o (corners s) → b ≡ listed_of q (corners t)
        → r ≡ report_of state steps (ltb allowance (n + m)) a b → r ≡ report_for o q s t allowance
    compare-reports allowance {state} chosen is_after is-a is_b is =
        is ∙ rw (chosen, counts-total, (listed-as is-a is_b).0, (listed-as is-a is_b).1)
        (report_of-after pair os (λ r. accepted-polygon (held-pair s t o q ok-a ok-b r)) allowance state
        (rw (chosen, counts-total) at is_after))

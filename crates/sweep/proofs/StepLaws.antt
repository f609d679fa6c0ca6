-- The parts of a step, put together, are a step of rule 5.5.
--     IsLocalFeature       what `measuring::local_feature` answers for a corner
--     after-bounded        the state after k steps is bounded
--     step-measurable, step-bounded, step-passable    what the parts ask holds where a step can be made
--     measured-passable    and also once it has measured
--     step_after           the state that has measured and then passed the next edge is the sweep after one step more
--     unchanged-after      so is the state that has only passed it, where measuring changes nothing
use Prim.Native.Nat.{ℕ, suc, ◌+◌, ◌-◌, ◌<◌}
use mathlib.Core.Path.{◌≡◌, refl, subst, ap, ◌∙◌}
use mathlib.Core.Bool.{Bool, true, false, cond, not, ◌&&◌, ◌||◌}
use mathlib.Core.List.{List}
use mathlib.Mathlib.Data.Bool.Basic.{or-eq-false-eq-eq-false-and-eq-false}
use native.Mathlib.Omega.{arith}
use lib.Dec.{ltb}
use lib.ListN.{length}
use Rattle.std.specs.Prelude.{Option, None, Some}
use Rattle.integers.specs.Fraction.{is_less}
use Rattle.plane.specs.declared.Corner.{Corner}
use Rattle.outline.specs.code.Polygon.{Polygon}
use Rattle.outline.specs.Corners.{corner}
use Rattle.outline.proofs.EdgeLaws.{accepted-polygon}
use Rattle.outline.proofs.CornersLaws.{next-previous}
use Rattle.nearest.specs.declared.Feature.{Feature}
use Rattle.nearest.specs.Feature.{values}
use Rattle.nearest.specs.code.Local.{feature, nearest}
use Rattle.outline.specs.declared.Orientation.{Orientation}
use Rattle.outline.specs.declared.Side.{Side}
use Rattle.outline.specs.declared.Side.TheVariants.{A, B}
use Rattle.hausdorff.specs.declared.CornerGap.{CornerGap}
use Rattle.hausdorff.specs.Pair.{Pair, Orientations, both_orientations, given, other, same_side, step_count}
use Rattle.hausdorff.specs.code.Pair.{AcceptedPair, Polygons}
use Rattle.hausdorff.specs.AngularOrder.{PairEdge}
use Rattle.hausdorff.specs.code.Counting.{is_counted}
use Rattle.hausdorff.specs.CornerGap.{with_corner}
use Rattle.hausdorff.specs.Given.{given_gap, given_worst}
use Rattle.hausdorff.specs.code.CornerGap.{corner_gap}
use Rattle.hausdorff.specs.code.Worst.{takes_place, keep}
use Rattle.hausdorff.specs.code.Sweep.{measured, worst_after}
use Rattle.hausdorff.specs.Support.{pass, support_after}
use Rattle.hausdorff.specs.Counted.{IsSideWorst}
use Rattle.hausdorff.proofs.Extreme.{AtSupport}
use Rattle.hausdorff.proofs.CountingLaws.{counted-iff}
use Rattle.hausdorff.proofs.OverallWorst.{side-worst-is}
use Rattle.hausdorff.proofs.SweepLaws.{support-step}
use Rattle.hausdorff.proofs.WorstLaws.{support-known}
use Rattle.sweep.specs.declared.SideState.{SideState}
use Rattle.sweep.specs.declared.State.{State}
use Rattle.measuring.specs.declared.Window.{Window}
use Rattle.measuring.specs.declared.LocalFeature.{LocalFeature}
use Rattle.measuring.specs.Window.{window_at, given_number, IsWindow}
use Rattle.measuring.specs.Changes.{BoundedWorst}
use Rattle.measuring.specs.LocalFeature.{feature_of, counted_feature, local_worst, local_given}
use Rattle.sweep.specs.State.{side_state, to_come, IsAfter, CanStep, Measurable, BoundedState, Passable}
use Rattle.sweep.specs.State.{advanced, passed, changes_worst, with_worst}
use Rattle.measuring.proofs.GapSizes.{worst-bounded}
use Rattle.measuring.proofs.ChangesLaws.{keeps-old}
use Rattle.sweep.proofs.NextEdge.{is_next_b, next_side, next_edge, next-to-come, step-to-come}

-- v's nearest feature, if it counts in the outline that w is a window of
abbrev pub IsLocalFeature : Window → Window → Option LocalFeature → Type 0
IsLocalFeature v w f = (seen : IsWindow w) → feature_of w f ≡ counted_feature seen.outline w.number v.corner

-- Its numbers do not matter to the size of a gap.
given-bounded : (pair : Pair) (os : Orientations) (x : Option CornerGap) → BoundedWorst x → BoundedWorst (given_worst pair os x)
given-bounded pair os None bounded = tt
given-bounded pair os (Some w) bounded = bounded

-- What the sweep keeps is bounded.
pub after-bounded : (pair : Pair) (os : Orientations) → AcceptedPair pair → (k : ℕ) {state : State}
    → IsAfter pair os k state → BoundedState state
after-bounded pair os accepted k is_after = let bounded = worst-bounded pair os accepted k in record {
  bounded_a = rw (is_after.worst A) (given-bounded pair os (worst_after pair os k A) (bounded A));
  bounded_b = rw (is_after.worst B) (given-bounded pair os (worst_after pair os k B) (bounded B));
}

-- what measuring finds of corner i, at v: none where the feature is Within
abbrev worst_at : Side → ℕ → List Corner → Corner → Feature → Option CornerGap
worst_at s i cs v Feature.Within = None
worst_at s i cs v (Feature.Corner j) = Some (with_corner s i (values cs v (Feature.Corner j)))
worst_at s i cs v (Feature.Edge j) = Some (with_corner s i (values cs v (Feature.Edge j)))

module _ (s : Side) (i : ℕ) {cs : List Corner} (polygon : Polygon cs) (b : ℕ) (below : b < length cs) (v : Corner) where
  -- The window's corners are those of the feature; the edge before ends at the support corner.
  local_worst-worst_at : (f : Option LocalFeature)
      → local_worst s i v (window_at cs b) f ≡ worst_at s i cs v (feature_of (window_at cs b) f)
  local_worst-worst_at None = refl
  local_worst-worst_at (Some LocalFeature.Corner) = refl
  local_worst-worst_at (Some LocalFeature.EdgeAfter) = refl
  local_worst-worst_at (Some LocalFeature.EdgeBefore) = rw (next-previous (length cs) b below)
  local_worst-worst_at (Some LocalFeature.CornerAfter) = refl
  local_worst-worst_at (Some LocalFeature.CornerBefore) = refl

  -- A feature at the support corner is not Within.
  support-worst : (g : Feature) → AtSupport (length cs) b g
      → worst_at s i cs v g ≡ Some (with_corner s i (values cs v g))
  support-worst Feature.Within none = absurd none
  support-worst (Feature.Corner j) near = refl
  support-worst (Feature.Edge j) near = refl

  -- So what is found is v's gap if v counts, and else none.
  counted-worst : (f : Option LocalFeature) → feature_of (window_at cs b) f ≡ counted_feature cs b v
      → local_worst s i v (window_at cs b) f ≡ cond (is_counted cs b v) (Some (with_corner s i (nearest cs v))) None
  counted-worst f finds = local_worst-worst_at f ∙ ap (worst_at s i cs v) finds ∙ go (is_counted cs b v) refl
    where
      go : (t : Bool) → is_counted cs b v ≡ t
          → worst_at s i cs v (cond t (feature cs v) Feature.Within)
          ≡ cond t (Some (with_corner s i (nearest cs v))) None
      go true counts = support-worst (feature cs v) ((counted-iff polygon b below v).0 counts)
      go false not-counted = refl

-- a state that has passed B's edge, or A's
abbrev passed_state : Pair → State → Bool → State
passed_state pair m t =
    cond t
    (record { a = m.a; b = advanced (length (pair B)) m.b })
    (record { a = advanced (length (pair A)) m.a; b = m.b })

-- side s of it, where the edge that was passed is the one at the support corner of side r
abbrev passed_side : Pair → (Side → SideState) → Side → Side → SideState
passed_side pair sides r s = record {
  support = pass pair (record { side = r; number = (sides r).support }) (λ q. (sides q).support) s;
  remaining = cond (same_side s r) ((sides s).remaining - 1) (sides s).remaining;
  worst = (sides s).worst;
}

-- It is so whichever edge was passed.
passed-either : (pair : Pair) (m : State) (sides : Side → SideState) → ((s : Side) → side_state m s ≡ sides s) → (t : Bool) (s : Side)
    → side_state (passed_state pair m t) s ≡ passed_side pair sides (cond t B A) s
passed-either pair m sides equal true A = equal A
passed-either pair m sides equal true B = ap (advanced (length (pair B))) (equal B)
passed-either pair m sides equal false A = ap (advanced (length (pair A))) (equal A)
passed-either pair m sides equal false B = equal B

-- side s of the sweep that has made k steps and measured
abbrev measured_side : Pair → Orientations → ℕ → Side → SideState
measured_side pair os k s = record {
  support = support_after pair k s;
  remaining = to_come pair k s;
  worst = given_worst pair os (keep (given pair os s) (worst_after pair os k s) (measured pair (support_after pair k) s));
}

-- The sweep then passes the next edge of the order, which is at a support corner.
step-side : (pair : Pair) (os : Orientations) → Polygons pair → (k : ℕ) → k < step_count pair → (s : Side)
    → passed_side pair (measured_side pair os k) (next_side pair k) s
    ≡ record {
      support = support_after pair (suc k) s;
      remaining = to_come pair (suc k) s;
      worst = given_worst pair os (worst_after pair os (suc k) s);
    }
unfolding worst_after
step-side pair os polygons k more s =
    let none : PairEdge = record { side = A; number = 0 } in
    rw (support-step pair k none more, next_edge pair polygons k more none, step-to-come pair polygons k more s)

-- what a step sees of a side
abbrev window_of : Window → Window → Side → Window
window_of a b A = a
window_of a b B = b

-- The code goes by the edges at the support corners, and so passes the same edge.
module _ (pair : Pair) (os : Orientations) (k : ℕ) {a b : Window}
    (sees : (s : Side) → window_of a b s ≡ window_at (pair s) (support_after pair k s)) where
  passed-state : (m : State) → ((s : Side) → (side_state m s).remaining ≡ to_come pair k s)
      → passed a b m ≡ passed_state pair m (is_next_b pair k)
  passed-state m remaining = rw (sees A, sees B, remaining A, remaining B)

  passed-next : (m : State) → ((s : Side) → side_state m s ≡ measured_side pair os k s) → (s : Side)
      → side_state (passed a b m) s ≡ passed_side pair (measured_side pair os k) (next_side pair k) s
  passed-next m equal s =
      rw (passed-state m (λ r. ap (λ (w : SideState). w.remaining) (equal r)))
      (passed-either pair m (measured_side pair os k) equal (is_next_b pair k) s)

-- Neither side changes, so both keep their old worst.
stays : (state : State) (o q : Orientation) (a b : Window) (local-a local-b : Option LocalFeature)
    → changes_worst o q a b local-a local-b state ≡ false → with_worst o q a b local-a local-b state ≡ state
stays state o q a b local-a local-b same =
    let (same-a, same-b) = (or-eq-false-eq-eq-false-and-eq-false _ _).0 same in
    rw (
      keeps-old A (given_number o a) a.corner q b local-a state.a.worst same-a,
      keeps-old B (given_number q b) b.corner o a local-b state.b.worst same-b,
    )

-- the worst so far, if there is one, is of a corner of side s
abbrev OfSide : Side → Option CornerGap → Type 0
OfSide s None = Unit {0}
OfSide s (Some w) = w.side ≡ s

worst-of-side : (pair : Pair) (os : Orientations) (k : ℕ) (s : Side) (x : Option CornerGap) → IsSideWorst pair os k s x
    → OfSide s x
worst-of-side pair os k s None none = tt
worst-of-side pair os k s (Some w) leads = leads.among.0

measured-of-side : (pair : Pair) (support : Side → ℕ) (s : Side) → OfSide s (measured pair support s)
unfolding measured
measured-of-side pair support s = go (is_counted (pair (other s)) (support (other s)) (corner (pair s) (support s)))
  where
    go : (t : Bool) → OfSide s (cond t (Some (corner_gap pair s (support s))) None)
    go true = refl
    go false = tt

module _ (pair : Pair) (os : Orientations) (s : Side) where
  -- What is kept by numbers as given is what is kept, by the lists as given.
  given-keep : (old new : Option CornerGap) → OfSide s old → OfSide s new
      → keep (λ i. i) (given_worst pair os old) (given_worst pair os new)
      ≡ given_worst pair os (keep (given pair os s) old new)
  given-keep None new of-old of-new = refl
  given-keep (Some old) None of-old of-new = refl
  given-keep (Some old) (Some new) of-old of-new =
      ap (λ (t : Bool). Some (cond t (given_gap pair os new) (given_gap pair os old))) same
      ∙ go (takes_place (given pair os s) new old)
    where
      same : takes_place (λ i. i) (given_gap pair os new) (given_gap pair os old) ≡ takes_place (given pair os s) new old
      same = λ i. is_less old.gap new.gap
          || (not (is_less new.gap old.gap)
          && ltb (given pair os (of-new i) new.corner) (given pair os (of-old i) old.corner))

      go : (t : Bool)
          → Some (cond t (given_gap pair os new) (given_gap pair os old)) ≡ given_worst pair os (Some (cond t new old))
      go true = refl
      go false = refl

  -- What is found of corner i near a support corner, by the lists as given.
  given-local : (i : ℕ) (v : Corner) (b : ℕ) (f : Option LocalFeature)
      → local_given s (given pair os s i) v (os (other s)) (window_at (pair (other s)) b) f
      ≡ given_worst pair os (local_worst s i v (window_at (pair (other s)) b) f)
  given-local i v b None = refl
  given-local i v b (Some f) = refl

module _ {state : State} {a b : Window} {o q : Orientation} (can : CanStep state a b o q) where
  abbrev os : Orientations
  os = both_orientations o q

  abbrev support : Side → ℕ
  support = support_after can.pair can.steps

  polygons : Polygons can.pair
  polygons s = accepted-polygon (can.accepted s)

  known : (s : Side) → support s < length (can.pair s)
  known = support-known can.pair polygons can.steps

  -- The windows are those at the sweep's support corners.
  sees : (s : Side) → window_of a b s ≡ window_at (can.pair s) (support s)
  sees A = can.sees_a ∙ ap (window_at (can.pair A)) (can.is_after.support A)
  sees B = can.sees_b ∙ ap (window_at (can.pair B)) (can.is_after.support B)

  seen : (s : Side) → IsWindow (window_of a b s)
  seen s = record { outline = can.pair s; accepted = can.accepted s; known = rw (sees s) (known s); equal = rw (sees s) }

  pub step-measurable : Measurable a b
  step-measurable = record { seen_a = seen A; seen_b = seen B }

  pub step-bounded : BoundedState state
  step-bounded = after-bounded can.pair os can.accepted can.steps can.is_after

  -- The side whose edge is next has one to come.
  pub step-passable : Passable state a b
  step-passable = record {
    measurable = step-measurable;
    known_a = below A;
    known_b = below B;
    more = rw (can.is_after.remaining A, can.is_after.remaining B)
        (some (to_come can.pair can.steps) (is_next_b can.pair can.steps)
        (next-to-come can.pair polygons can.steps can.more));
  }
    where
      below : (s : Side) → (side_state state s).support < (window_of a b s).count
      below s = rw (can.is_after.support s, sees s) (known s)

      some : (remaining : Side → ℕ) (t : Bool) → 0 < remaining (cond t B A) → 0 < remaining A + remaining B
      some remaining true above = omega arith
      some remaining false above = omega arith

  -- What is found near the support corners is what the sweep measures.
  measured-part : (s : Side) (f : Option LocalFeature) → IsLocalFeature (window_of a b s) (window_of a b (other s)) f → record {
    support = (side_state state s).support;
    remaining = (side_state state s).remaining;
    worst = keep (λ i. i) (side_state state s).worst
        (local_given s (given_number (os s) (window_of a b s)) (window_of a b s).corner
        (os (other s)) (window_of a b (other s)) f);
  } ≡ measured_side can.pair os can.steps s
  unfolding seen measured
  measured-part s f finds =
      let t = other s in let v = corner (can.pair s) (support s) in
      let old = worst_after can.pair os can.steps s in
      let found = counted-worst s (support s) (polygons t) (support t) (known t) v f
      (rw (sees s, sees t) at (finds (seen t))) in
      rw (
        can.is_after.support s,
        can.is_after.remaining s,
        can.is_after.worst s,
        sees s,
        sees t,
        given-local can.pair os s (support s) v (support t) f,
        found,
      )
      (λ i. record {
        support = support s;
        remaining = to_come can.pair can.steps s;
        worst = given-keep can.pair os s old (measured can.pair support s)
            (worst-of-side can.pair os can.steps s old (side-worst-is can.pair os polygons can.steps s))
            (measured-of-side can.pair support s) i;
      })

  module _ (local-a local-b : Option LocalFeature) where
    pub measured-passable : Passable (with_worst o q a b local-a local-b state) a b
    measured-passable = record {
      measurable = step-passable.measurable;
      known_a = step-passable.known_a;
      known_b = step-passable.known_b;
      more = step-passable.more;
    }

    -- So both sides are measured.
    measured-side : IsLocalFeature a b local-a → IsLocalFeature b a local-b → (s : Side)
        → side_state (with_worst o q a b local-a local-b state) s ≡ measured_side can.pair os can.steps s
    measured-side finds-a finds-b A = measured-part A local-a finds-a
    measured-side finds-a finds-b B = measured-part B local-b finds-b

    -- It is the sweep that has measured, and both pass the same edge.
    pub step_after : IsLocalFeature a b local-a → IsLocalFeature b a local-b
        → IsAfter can.pair os (suc can.steps) (passed a b (with_worst o q a b local-a local-b state))
    step_after finds-a finds-b = record {
      support = λ s. ap (λ (w : SideState). w.support) (side s);
      remaining = λ s. ap (λ (w : SideState). w.remaining) (side s);
      worst = λ s. ap (λ (w : SideState). w.worst) (side s);
    }
      where
        side : (s : Side) → side_state (passed a b (with_worst o q a b local-a local-b state)) s ≡ record {
          support = support_after can.pair (suc can.steps) s;
          remaining = to_come can.pair (suc can.steps) s;
          worst = given_worst can.pair os (worst_after can.pair os (suc can.steps) s);
        }
        side s =
            passed-next can.pair os can.steps sees (with_worst o q a b local-a local-b state)
            (measured-side finds-a finds-b) s
            ∙ step-side can.pair os polygons can.steps can.more s

    -- There the measured state is the state.
    pub unchanged-after : IsLocalFeature a b local-a → IsLocalFeature b a local-b
        → changes_worst o q a b local-a local-b state ≡ false
        → IsAfter can.pair os (suc can.steps) (passed a b state)
    unchanged-after finds-a finds-b same =
        subst (λ (m : State). IsAfter can.pair os (suc can.steps) (passed a b m))
        (stays state o q a b local-a local-b same) (step_after finds-a finds-b)

-- The tests of the two edges at a support corner find the nearest feature of a point, if the point counts.
--     right_after, right_before    v is strictly right of the edge after the support corner, and of the edge before it
--     part_after, part_before      the part of these edges that v is nearest to
--     by_parts-counted            what they tell together is v's nearest feature, if v counts, and else none
--     by_parts-window             the same of any window of an accepted outline
-- The part of an edge says which of its local tests hold (`part-means`); that v is not a corner itself is told by
-- the sides of the two edges there (`corner-by-right`). A point counts exactly where its nearest feature is at the
-- support corner, and only one feature has a local test that holds; so a part that is found is that feature, and if
-- none is, the point does not count.
use Prim.Native.Nat.{ℕ, ◌<◌}
use mathlib.Core.Path.{◌≡◌, refl, sym, ap, subst, ◌∙◌}
use mathlib.Core.Logic.Iff
use mathlib.Core.Logic.{◌↔◌, inl, inr}
use mathlib.Core.Bool.{Bool, true, false, cond, not, ◌&&◌, ◌||◌, true≢false, false≢true, and-true, and-false}
use mathlib.Core.Bool.{and_comm, or_comm}
use mathlib.Core.List.{List, [], ◌∷◌}
use native.Mathlib.Omega.{arith}
use lib.IntN.{ℤ, pos, ◌-ℤ◌}
use lib.ListN.{length}
use lib.Signed.{le_z, lt_z, ◌<ℤ◌}
use Rattle.std.specs.Prelude.{Option, Some, None}
use Rattle.integers.proofs.Order.{le_z-not, lt_z-true, lt_z-false, <ℤ-lt_z, ≤ℤ-<ℤ-trans, <ℤ-sub, sub-<ℤ}
use Rattle.integers.proofs.Polynomial.{◌⊖◌, solve}
use Rattle.integers.proofs.Reflect.{test-same, test-false, test-or}
use Rattle.plane.specs.declared.Corner.{Corner}
use Rattle.plane.specs.Vector.{◌⇀◌, cross, dot, side, coordinates}
use Rattle.plane.specs.code.Tests.{is_left, is_right, same}
use Rattle.plane.proofs.Algebra.{O, vec, dot_e, side_e, ◌⇀E◌, side-start, side-stop}
use Rattle.plane.proofs.Tests.{same_true}
use Rattle.outline.specs.code.Polygon.{Polygon}
use Rattle.outline.specs.Corners.{corner, next, previous}
use Rattle.outline.proofs.EdgeLaws.{accepted-polygon, length-above-0}
use Rattle.outline.proofs.CornersLaws.{next-below, previous-below, next-previous, previous-next}
use Rattle.nearest.specs.declared.Feature.{Feature}
use Rattle.projection.specs.declared.local.Part.{Part}
use Rattle.projection.specs.declared.local.Part.TheVariants.{Start, Between, End}
use Rattle.nearest.specs.code.Local.{along, squared_length, foot_is_between, edge_is_nearest, is_corner, is_edge, Tested}
use Rattle.nearest.specs.code.Local.{feature}
use Rattle.nearest.proofs.AnswerLaws.{feature-tested, feature-iff}
use Rattle.nearest.proofs.LocalLaws.{corner-visible}
use Rattle.hausdorff.proofs.CountingLaws.{counted-iff}
use Rattle.hausdorff.proofs.Extreme.{AtSupport}
use Rattle.measuring.specs.declared.Window.{Window}
use Rattle.measuring.specs.declared.LocalFeature.TheVariants as LocalFeature
use Rattle.measuring.specs.Window.{window_at, IsWindow}
use Rattle.measuring.specs.LocalFeature.{counted_feature, feature_of}
use Rattle.measuring.specs.EdgePart.{end_is_nearest, edge_part, corner_if, by_parts}

abbrev pub right_after : Corner → Window → Bool
right_after v w = is_right w.corner (w.corner ⇀ w.after) v

-- it runs from the corner before, so its right is the left of the line to that corner
abbrev pub right_before : Corner → Window → Bool
right_before v w = is_left w.corner (w.corner ⇀ w.before) v

abbrev pub part_after : Corner → Window → Option Part
part_after v w = edge_part v (w.corner ⇀ v) (w.corner ⇀ w.after) (right_after v w) true w.after w.later

abbrev pub part_before : Corner → Window → Option Part
part_before v w = edge_part v (w.corner ⇀ v) (w.corner ⇀ w.before) (right_before v w) false w.before w.earlier

-- ---- an edge, seen from its other end

-- an order is the sign of the difference, so tests of numbers that differ by the same are equal
test-difference : (a b : ℤ) → (lt_z a b ≡ true) ↔ (pos 0 <ℤ (b -ℤ a))
test-difference a b = (λ t. <ℤ-sub (lt_z-true {a = a} {b = b} t), λ p. <ℤ-lt_z {a = a} {b = b} (sub-<ℤ p))

same-difference : (a b c d : ℤ) → b -ℤ a ≡ d -ℤ c → lt_z a b ≡ lt_z c d
same-difference a b c d e = test-same _ _ (test-difference a b) (rw e (test-difference c d))

-- the edge seen from q has the same length, the other side, and feet measured from q
length_back : (p q : Corner) → squared_length p q ≡ squared_length q p
unfolding dot ◌⇀◌
length_back p q =
    let e = vec 0 ⇀E vec 2 in let f = vec 2 ⇀E vec 0 in
    solve (coordinates (p ∷ q ∷ [])) (dot_e e e) (dot_e f f) tt

module _ (v p q : Corner) where
  side-back : is_right p (p ⇀ q) v ≡ is_left q (q ⇀ p) v
  unfolding cross ◌⇀◌
  side-back = same-difference (side p q v) (pos 0) (pos 0) (side q p v)
      (solve (coordinates (v ∷ p ∷ q ∷ [])) (O ⊖ side_e (vec 2) (vec 4) (vec 0)) (side_e (vec 4) (vec 2) (vec 0) ⊖ O) tt)

  foot-back : lt_z (pos 0) (along p q v) ≡ lt_z (along q p v) (squared_length q p)
  unfolding dot ◌⇀◌
  foot-back =
      let v' = vec 0 in let p' = vec 2 in let q' = vec 4 in let back = q' ⇀E p' in
      same-difference (pos 0) (along p q v) (along q p v) (squared_length q p)
      (solve (coordinates (v ∷ p ∷ q ∷ [])) (dot_e (p' ⇀E v') (p' ⇀E q') ⊖ O) (dot_e back back ⊖ dot_e (q' ⇀E v') back) tt)

edge-back : (v p q : Corner) → edge_is_nearest v p q ≡ (is_left q (q ⇀ p) v && foot_is_between v q p)
edge-back v p q = rw (side-back v p q, foot-back v p q, ← foot-back v q p, and_comm (lt_z (along q p v) (squared_length q p)))

-- ---- the part of an edge

-- the tests of an edge at the support corner: v is nearest to the edge, v is nearest to its other end, v's foot is
-- not past the support corner
record Tests : Type 0 where
  pub edge : Bool
  pub end : Bool
  pub start : Bool

-- v is nearest to neither; `is` says whether its foot is not past the support corner
record Neither (tests : Tests) (is : Bool) : Type 0 where
  pub not_edge : tests.edge ≡ false
  pub not_end : tests.end ≡ false
  pub start_is : tests.start ≡ is

-- what a part says of the tests
abbrev Means : Tests → Option Part → Type 0
Means tests None = Neither tests false
Means tests (Some Start) = Neither tests true
Means tests (Some Between) = tests.edge ≡ true
Means tests (Some End) = tests.end ≡ true

-- the tests that the code makes: the foot is past the support corner, it is before the other end, v is strictly
-- right of the edge, and `end_is_nearest`
by_tests : (past before right end : Bool) → (past ≡ false → before ≡ true)
    → Means (record { edge = right && (past && before); end = end && not before; start = not past })
    (cond (not past) (Some Start) (cond before (cond right (Some Between) None) (cond end (Some End) None)))
by_tests false true right end short = record { not_edge = and-false right; not_end = and-false end; start_is = refl }
by_tests false false right end short = absurd (false≢true (short refl))
by_tests true true true end short = refl
by_tests true true false end short = record { not_edge = refl; not_end = and-false end; start_is = refl }
by_tests true false right true short = refl
by_tests true false right false short = record { not_edge = and-false right; not_end = refl; start_is = refl }

-- an edge has a length, so a foot that is not past the support corner is before the other end
part-means : (v c end beyond : Corner) (right is_after : Bool) → pos 0 <ℤ squared_length c end
    → Means (record {
      edge = right && foot_is_between v c end;
      end = end_is_nearest v right is_after end beyond && le_z (along end c v) (pos 0);
      start = le_z (along c end v) (pos 0);
    }) (edge_part v (c ⇀ v) (c ⇀ end) right is_after end beyond)
part-means v c end beyond right is_after long =
    let t = along c end v in let l = squared_length c end in
    rw (le_z-not t (pos 0), le_z-not (along end c v) (pos 0), foot-back v end c)
    (by_tests (lt_z (pos 0) t) (lt_z t l) right (end_is_nearest v right is_after end beyond)
    (λ e. <ℤ-lt_z {a = t} {b = l} (≤ℤ-<ℤ-trans (lt_z-false e) long)))

-- ---- the test of a corner

-- a point that is strictly right of an edge at c, from p or to q, is not c
not-corner : (p c q v : Corner) → (is_right c (c ⇀ q) v || is_right p (p ⇀ c) v) ≡ true → same c v ≡ false
not-corner p c q v right = (test-false _ (same_true c v)).1 (λ e. false≢true (rw (← e, side-stop p c, side-start c q) at right))

-- so a test that holds where the others do, and not of the corner itself, stands in for not being the corner
stands-in : (is s t right : Bool) → (not is && s && t ≡ true → right ≡ true) → (right ≡ true → is ≡ false)
    → (not is && s && t) ≡ (s && right && t)
stands-in true s t true held other = absurd (true≢false (other refl))
stands-in true s t false held other = rw (and-false s)
stands-in false s t true held other = rw (and-true s)
stands-in false false t false held other = refl
stands-in false true true false held other = absurd (false≢true (held refl))
stands-in false true false false held other = refl

-- Of the points whose foot is past a corner on neither of its edges, the corner alone is strictly right of neither
-- (`corner-visible`).
corner-by-right : {cs : List Corner} → Polygon cs → (v : Corner) (i : ℕ) → i < length cs → (let n = length cs in
    let p = corner cs (previous n i) in let c = corner cs i in let q = corner cs (next n i) in
    is_corner cs v i
    ≡ (le_z (along c p v) (pos 0) && (is_right c (c ⇀ q) v || is_right p (p ⇀ c) v) && le_z (along c q v) (pos 0)))
corner-by-right {cs} polygon v i below =
    let n = length cs in let p = corner cs (previous n i) in let c = corner cs i in let q = corner cs (next n i) in
    let out = is_right c (c ⇀ q) v in let into = is_right p (p ⇀ c) v in
    stands-in (same c v) (le_z (along c p v) (pos 0)) (le_z (along c q v) (pos 0)) (out || into)
    (λ holds. (test-or out into Iff.rfl Iff.rfl).1 (corner-visible polygon v i below holds)) (not-corner p c q v)

-- ---- both edges

-- the tests of a corner's two edges, exchanged
exchange : (a b s t : Bool) → (s && (a || b) && t) ≡ (t && (b || a) && s)
exchange a b true true = ap (λ x. x && true) (or_comm a b)
exchange a b true false = and-false (a || b)
exchange a b false true = sym (and-false (b || a))
exchange a b false false = refl

-- a test does not both hold and fail
clash : (test : ℕ → Bool) {i j : ℕ} → i ≡ j → test i ≡ true → test j ≡ false → ⊥
clash test e holds fails = true≢false (sym holds ∙ ap test e ∙ fails)

module _ {cs : List Corner} (polygon : Polygon cs) (b : ℕ) (below : b < length cs) (v : Corner) where
  abbrev n : ℕ
  n = length cs

  abbrev w : Window
  w = window_at cs b

  abbrev c : Corner
  c = w.corner

  -- the tests of the edge after the support corner and of the edge before it
  abbrev tests_after : Tests
  tests_after = record { edge = is_edge cs v b; end = is_corner cs v (next n b); start = le_z (along c w.after v) (pos 0) }

  abbrev tests_before : Tests
  tests_before = record {
    edge = is_edge cs v (previous n b);
    end = is_corner cs v (previous n b);
    start = le_z (along c w.before v) (pos 0);
  }

  after-means : Means tests_after (part_after v w)
  after-means =
      let q = w.after in let far = w.later in
      rw (
        corner-by-right polygon v (next n b) (next-below n b (omega arith)),
        previous-next n b below,
        exchange (is_right q (q ⇀ far) v) (is_right c (c ⇀ q) v)
            (le_z (along q c v) (pos 0)) (le_z (along q far v) (pos 0)),
      )
      (part-means v c q far (is_right c (c ⇀ q) v) true (length-above-0 polygon b below))

  before-means : Means tests_before (part_before v w)
  before-means =
      let p = w.before in let far = w.earlier in let below-too = previous-below n b below in
      let long = rw (next-previous n b below, length_back p c) at (length-above-0 polygon (previous n b) below-too) in
      rw (corner-by-right polygon v (previous n b) below-too, next-previous n b below, edge-back v p c, side-back v far p, side-back v p c)
      (part-means v c p far (right_before v w) false long)

  -- a feature whose test holds is v's nearest, and if it is at the support corner, v counts
  counted : (f : Feature) → Tested cs v f → AtSupport n b f → f ≡ counted_feature cs b v
  counted f holds at-support =
      let is = (feature-iff polygon v f).1 holds in
      let counts = (counted-iff polygon b below v).1 (rw is at-support) in
      rw (counts, is)

  -- the edge before and its start are at the support corner
  edge-before : is_edge cs v (previous n b) ≡ true → Feature.Edge (previous n b) ≡ counted_feature cs b v
  edge-before holds =
      counted (Feature.Edge (previous n b)) (previous-below n b below, holds) (inr (next-previous n b below))

  corner-before : is_corner cs v (previous n b) ≡ true → Feature.Corner (previous n b) ≡ counted_feature cs b v
  corner-before holds =
      counted (Feature.Corner (previous n b)) (previous-below n b below, holds) (inr (inr (next-previous n b below)))

  -- where v is nearest to neither edge and to neither of their other ends, the support corner is left
  module _ {s t : Bool} (x : Neither tests_after s) (y : Neither tests_before t) where
    corner-is : is_corner cs v b ≡ (t && (right_after v w || right_before v w) && s)
    corner-is = corner-by-right polygon v b below ∙ (rw (side-back v w.before c, y.start_is, x.start_is))

    -- if its test fails too, no feature at the support corner has a test that holds
    none-tested : is_corner cs v b ≡ false → (f : Feature) → Tested cs v f → ¬ AtSupport n b f
    none-tested not-here Feature.Within holds at-support = at-support
    none-tested not-here (Feature.Corner i) (known, holds) (inl e) = clash (is_corner cs v) e holds not-here
    none-tested not-here (Feature.Corner i) (known, holds) (inr (inl e)) = clash (is_corner cs v) e holds x.not_end
    none-tested not-here (Feature.Corner i) (known, holds) (inr (inr e)) =
        clash (is_corner cs v) (sym (previous-next n i known) ∙ ap (previous n) e) holds y.not_end
    none-tested not-here (Feature.Edge i) (known, holds) (inl e) = clash (is_edge cs v) e holds x.not_edge
    none-tested not-here (Feature.Edge i) (known, holds) (inr e) =
        clash (is_edge cs v) (sym (previous-next n i known) ∙ ap (previous n) e) holds y.not_edge

    uncounted : is_corner cs v b ≡ false → Feature.Within ≡ counted_feature cs b v
    uncounted not-here =
        rw ((test-false _ (counted-iff polygon b below v)).1 (none-tested not-here (feature cs v) (feature-tested cs v)))

  -- the support corner's test holds where v's foot is past it on neither edge, and v is strictly right of one
  at-corner : Neither tests_after true → Neither tests_before true → (right : Bool) → (right_after v w || right_before v w) ≡ right
      → feature_of w (cond right (Some LocalFeature.Corner) None) ≡ counted_feature cs b v
  at-corner x y true is = counted (Feature.Corner b) (below, corner-is x y ∙ (rw is)) (inl refl)
  at-corner x y false is = uncounted x y (corner-is x y ∙ (rw is))

  -- the edge after is asked first; where it has the nearest feature, the edge before says nothing else, since there
  -- is only one
  by_parts-means : (f g : Option Part) → Means tests_after f → Means tests_before g
      → feature_of w (by_parts f g (corner_if (right_after v w) (right_before v w))) ≡ counted_feature cs b v
  by_parts-means (Some Between) g x y = counted (Feature.Edge b) (below, x) (inl refl)
  by_parts-means (Some End) g x y = counted (Feature.Corner (next n b)) (next-below n b (omega arith), x) (inr (inl refl))
  by_parts-means (Some Start) (Some Start) x y = at-corner x y (right_after v w || right_before v w) refl
  by_parts-means (Some Start) (Some Between) x y = edge-before y
  by_parts-means (Some Start) (Some End) x y = corner-before y
  by_parts-means (Some Start) None x y = uncounted x y (corner-is x y)
  by_parts-means None (Some Start) x y = uncounted x y (corner-is x y ∙ and-false (right_after v w || right_before v w))
  by_parts-means None (Some Between) x y = edge-before y
  by_parts-means None (Some End) x y = corner-before y
  by_parts-means None None x y = uncounted x y (corner-is x y)

  pub by_parts-counted : (let w = window_at cs b in
      feature_of w (by_parts (part_after v w) (part_before v w) (corner_if (right_after v w) (right_before v w))) ≡ counted_feature cs b v)
  by_parts-counted = by_parts-means (part_after v w) (part_before v w) after-means before-means

-- a window of an accepted outline is one of a polygon
pub by_parts-window : {w : Window} (v : Corner) {f g : Option Part} {a b : Bool} → f ≡ part_after v w → g ≡ part_before v w
    → a ≡ right_after v w → b ≡ right_before v w → (window : IsWindow w)
    → feature_of w (by_parts f g (corner_if a b)) ≡ counted_feature window.outline w.number v
by_parts-window {w} v f-is g-is a-is b-is window = rw (f-is, g-is, a-is, b-is) (subst
    (λ (u : Window). feature_of u (by_parts (part_after v u) (part_before v u) (corner_if (right_after v u) (right_before v u)))
    ≡ counted_feature window.outline w.number v)
    (sym window.equal) (by_parts-counted (accepted-polygon window.accepted) w.number window.known v))

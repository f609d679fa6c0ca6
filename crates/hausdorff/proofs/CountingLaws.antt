-- When a corner counts.
--     counted-iff    the test holds exactly where v's nearest feature is corner b, a neighbour of it, or an edge at it
--     counts-iff     and so exactly where v counts, whichever nearest point that is told from
-- The first follows since a point that lies on an edge is one of its ends or strictly between them, and a point is
-- one feature only.
use Prim.Native.Nat.{ℕ, ◌<◌}
use mathlib.Core.Path.{◌≡◌, refl, sym, subst, ◌∙◌}
use mathlib.Core.Logic.Iff
use mathlib.Core.Logic.{◌↔◌, inl, inr}
use mathlib.Core.Bool.{true}
use mathlib.Core.List.{List, [], ◌∷◌, ◌++◌}
use native.Mathlib.Omega.{arith}
use lib.IntN.{pos, negsuc}
use lib.ListN.{length}
use lib.Signed.{◌≤ℤ◌, ≤ℤ_refl}
use Rattle.integers.proofs.Polynomial.{lit}
use Rattle.integers.proofs.Certificate.{◌≺◌, ◌≼◌, ◌≗◌, hyp, eqn, ◌⊞◌, ◌⊠◌, prove}
use Rattle.integers.proofs.Order.{≤ℤ-or-<ℤ, <ℤ-≤ℤ}
use Rattle.integers.proofs.Reflect.{test-and, test-or, test-eq_z, test-le_z}
use Rattle.plane.specs.declared.Corner.{Corner}
use Rattle.plane.specs.declared.Point.{Point}
use Rattle.plane.specs.declared.Vector.{Vector}
use Rattle.plane.specs.Point.{whole, ◌⇢◌, Same}
use Rattle.plane.specs.Vector.{◌⇀◌, cross, dot, coordinates}
use Rattle.plane.proofs.Algebra.{O, vec, cross_e, dot_e, ◌⇀E◌, components, side-start, side-stop, dot-self, dot-swap}
use Rattle.plane.proofs.Halves.{NonZero}
use Rattle.plane.proofs.Points.{pt, whole_e, ◌⇢E◌, numbers, whole-⇢, dot-self-0, same-sym, not-apart, whole-proper}
use Rattle.outline.specs.code.Polygon.{Polygon}
use Rattle.outline.specs.Corners.{corner, next, previous, edge}
use Rattle.outline.proofs.CornersLaws.{next-below, previous-below, next-previous, previous-next}
use Rattle.nearest.specs.declared.Feature.{Feature}
use Rattle.nearest.specs.Feature.{values}
use Rattle.nearest.specs.Piece.{Outside}
use Rattle.nearest.specs.code.Local.{Tested, feature, nearest}
use Rattle.nearest.specs.Nearest.{Nearest, Fits, Between}
use Rattle.nearest.proofs.AnswerLaws.{feature-tested, values-feature, tested-answers, nearest-is}
use Rattle.nearest.proofs.NearestLaws.{nearest-unique}
use Rattle.nearest.proofs.FitsLaws.{fits-unique}
use Rattle.outline.proofs.EdgeLaws.{length-above-0}
use Rattle.nearest.proofs.PieceLaws.{outside-test}
use Rattle.hausdorff.specs.Counted.{LiesOn, LiesAt, Counts}
use Rattle.hausdorff.specs.code.Counting.{is_same, lies_on, lies_at, is_counted}
use Rattle.hausdorff.proofs.Extreme.{AtSupport}

-- ---- what the tests say

same_test : (y z : Point) → (is_same y z ≡ true) ↔ Same y z
same_test y z = Iff.trans (test-and _ _ (test-eq_z _ _) (test-eq_z _ _)) (
  λ (x, y). record { same_x = x; same_y = y },
  λ same. (same.same_x, same.same_y),
)

lies-on-test : (cs : List Corner) (i : ℕ) (y : Point) → (lies_on cs i y ≡ true) ↔ LiesOn cs i y
lies-on-test cs i y = Iff.trans (test-and _ _ (test-and _ _ (test-eq_z _ _) (test-le_z _ _)) (test-le_z _ _)) (
  λ ((line, start), end). record { on_line = line; from_start = start; to_end = end },
  λ lies. ((lies.on_line, lies.from_start), lies.to_end),
)

lies-at-test : (cs : List Corner) (b : ℕ) (y : Point) → (lies_at cs b y ≡ true) ↔ LiesAt cs b y
unfolding lies_at
lies-at-test cs b y = test-or _ _ (test-or _ _ (same_test y (whole (corner cs b))) (lies-on-test cs _ y)) (lies-on-test cs b y)

counted-test : (cs : List Corner) (b : ℕ) (v : Corner)
    → (is_counted cs b v ≡ true) ↔ (Outside cs (whole v) × LiesAt cs b (nearest cs v).point)
unfolding is_counted
counted-test cs b v = test-and _ _ (outside-test cs v) (lies-at-test cs b (nearest cs v).point)

-- ---- the ends of an edge

-- points whose difference d is both parallel and square to e are the same, since |e|² |d|² = cross² + dot²
no_part : (e : Vector) (y z : Point) → NonZero e → cross e (y ⇢ z) ≡ pos 0
    → pos 0 ≤ℤ dot e (y ⇢ z) → dot e (y ⇢ z) ≤ℤ pos 0 → Same y z
unfolding cross dot
no_part e y z long line up down =
    let e' = vec 0 in let d' = vec 2 in
    not-apart y z (prove (components (e ∷ (y ⇢ z) ∷ []))
    (O ≺ dot_e e' e' ∷ cross_e e' d' ≗ O ∷ O ≼ dot_e e' d' ∷ dot_e e' d' ≼ O ∷ []) (dot_e d' d' ≼ O)
    (hyp 0 ⊠ hyp 1 ⊞ eqn 2 (cross_e e' d') ⊞ hyp 3 ⊠ hyp 4) tt long line up down)

-- seen from a point on an edge's line, the edge's end is on that line too
line-back : (p q : Corner) (y : Point) → cross (p ⇀ q) (whole p ⇢ y) ≡ pos 0 → cross (p ⇀ q) (y ⇢ whole q) ≡ pos 0
unfolding cross ◌⇀◌ ◌⇢◌
line-back p q y =
    let p' = vec 0 in let q' = vec 2 in let y' = pt 4 in let e' = p' ⇀E q' in
    prove (coordinates (p ∷ q ∷ []) ++ numbers (y ∷ [])) (cross_e e' (whole_e p' ⇢E y') ≗ O ∷ []) (cross_e e' (y' ⇢E whole_e q') ≗ O)
    (hyp 0 ⊞ eqn 1 (lit (negsuc 0))) tt

-- both ends of an edge lie on it
module _ (cs : List Corner) (i : ℕ) where
  abbrev p : Corner
  p = corner cs i

  abbrev q : Corner
  q = corner cs (next (length cs) i)

  at-0 : (z : Point) → pos 0 ≤ℤ dot (edge cs i) (z ⇢ z)
  at-0 z = rw (dot-swap (edge cs i) (z ⇢ z), dot-self-0 z (edge cs i)) (≤ℤ_refl (pos 0))

  ahead : pos 0 ≤ℤ dot (edge cs i) (whole p ⇢ whole q)
  ahead = rw (whole-⇢ p q) (dot-self (edge cs i))

  start-lies : LiesOn cs i (whole p)
  start-lies = record { on_line = rw (whole-⇢ p p) (side-start p q); from_start = at-0 (whole p); to_end = ahead }

  end-lies : LiesOn cs i (whole q)
  end-lies = record { on_line = rw (whole-⇢ p q) (side-stop p q); from_start = ahead; to_end = at-0 (whole q) }

-- and so does a point strictly between them
between-lies : {cs : List Corner} {i : ℕ} {y : Point} → Between cs i y → LiesOn cs i y
between-lies is = record { on_line = is.on_line; from_start = <ℤ-≤ℤ is.after_start; to_end = <ℤ-≤ℤ is.before_end }

-- ---- the nearest feature

module _ {cs : List Corner} (polygon : Polygon cs) where
  -- what holds of a feature that the nearest point y fits holds of the nearest feature
  module _ {v : Corner} {y : Point} (near : Nearest cs (whole v) y) (outside : Outside cs (whole v))
      (P : Feature → Type 0) where
    fitting : (f : Feature) → Fits cs (whole v) y f → P f → P (feature cs v)
    fitting f fits = subst P
        (sym (fits-unique polygon (whole v) (nearest cs v).feature f (nearest-is polygon v).nearest.in_piece.proper
        near.in_piece.proper (nearest-unique polygon (whole-proper v) (nearest-is polygon v).nearest near)
        (nearest-is polygon v).fits fits)
        ∙ values-feature cs v (feature cs v))

    -- a point of edge i is its start, its end, or strictly between
    lying : (i : ℕ) → i < length cs → LiesOn cs i y
        → P (Feature.Corner i) → P (Feature.Corner (next (length cs) i)) → P (Feature.Edge i) → P (feature cs v)
    lying i below lies start end between =
        let e = edge cs i in let p = corner cs i in let j = next (length cs) i in let q = corner cs j in
        let long = length-above-0 polygon i below in let known = next-below (length cs) i (omega arith) in
        elim (≤ℤ-or-<ℤ (dot e (whole p ⇢ y)) (pos 0)) [
          | inl first ↦ fitting (Feature.Corner i)
              (outside, below, same-sym (no_part e (whole p) y long lies.on_line lies.from_start first)) start
          | inr after ↦ elim (≤ℤ-or-<ℤ (dot e (y ⇢ whole q)) (pos 0)) [
            | inl last ↦ fitting (Feature.Corner j)
                (outside, known, no_part e y (whole q) long (line-back p q y lies.on_line) lies.to_end last) end
            | inr before ↦ fitting (Feature.Edge i)
                (outside, below, record { on_line = lies.on_line; after_start = after; before_end = before }) between
          ]
        ]

  module _ (b : ℕ) (below : b < length cs) where
    abbrev n : ℕ
    n = length cs

    -- where the nearest point lies at corner b the nearest feature is at that support corner
    lies-at-support : {v : Corner} {y : Point} → Nearest cs (whole v) y → Outside cs (whole v) → LiesAt cs b y
        → AtSupport n b (feature cs v)
    lies-at-support near outside (inl (inl same)) =
        fitting near outside (AtSupport n b) (Feature.Corner b) (outside, below, same) (inl refl)
    lies-at-support near outside (inl (inr lies)) =
        let into = next-previous n b below in
        lying near outside (AtSupport n b) (previous n b) (previous-below n b below) lies
        (inr (inr into)) (inl into) (inr into)
    lies-at-support near outside (inr lies) =
        lying near outside (AtSupport n b) b below lies (inl refl) (inr (inl refl)) (inl refl)

    -- and back: a point of an edge at corner b lies at it
    edge-lies-at : (i : ℕ) {y : Point} → i < n → LiesOn cs i y → AtSupport n b (Feature.Edge i) → LiesAt cs b y
    edge-lies-at i known lies (inl e) = inr (rw (← e) lies)
    edge-lies-at i known lies (inr e) = inl (inr (rw (← e, previous-next n i known) lies))

    -- and so do the corner itself and its neighbours, which are ends of such edges
    corner-lies-at : (i : ℕ) → i < n → AtSupport n b (Feature.Corner i) → LiesAt cs b (whole (corner cs i))
    corner-lies-at i known (inl e) = edge-lies-at i known (start-lies cs i) (inl e)
    corner-lies-at i known (inr (inl e)) = inr (rw e (end-lies cs b))
    corner-lies-at i known (inr (inr e)) = edge-lies-at i known (start-lies cs i) (inr e)

    -- for a feature whose test holds
    support-lies-at : (v : Corner) (f : Feature) → Tested cs v f → AtSupport n b f
        → Outside cs (whole v) × LiesAt cs b (values cs v f).point
    support-lies-at v Feature.Within holds none = absurd none
    support-lies-at v (Feature.Corner i) holds at-support =
        let (outside, known, here) = (tested-answers polygon v (Feature.Corner i) holds).fits in
        (outside, corner-lies-at i known at-support)
    support-lies-at v (Feature.Edge i) holds at-support =
        let (outside, known, between) = (tested-answers polygon v (Feature.Edge i) holds).fits in
        (outside, edge-lies-at i known (between-lies between) at-support)

    pub counted-iff : (v : Corner) → (is_counted cs b v ≡ true) ↔ AtSupport n b (feature cs v)
    counted-iff v = Iff.trans (counted-test cs b v) (
      λ (outside, lies). lies-at-support (nearest-is polygon v).nearest outside lies,
      support-lies-at v (feature cs v) (feature-tested cs v),
    )

    pub counts-iff : (v : Corner) → (is_counted cs b v ≡ true) ↔ Counts cs b v
    counts-iff v = (
      λ holds. let (outside, lies) = (counted-test cs b v).0 holds in
          record { outside = outside; lies_at = ((nearest cs v).point, (nearest-is polygon v).nearest, lies) },
      λ counts. let (y, near, lies) = counts.lies_at in (counted-iff v).1 (lies-at-support near counts.outside lies),
    )

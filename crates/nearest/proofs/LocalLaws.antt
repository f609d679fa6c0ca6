-- The local tests tell the nearest point, and outside the piece one of them holds.
--     corner-nearest    a corner whose test holds is the nearest point, and v is outside the piece
--     edge-nearest      an edge whose test holds has the nearest point strictly between its ends, and v is outside
--                       the piece
--     none-holds        where no test holds, v is in the piece
--     corner-visible    a corner whose test holds is an end of an edge that v is strictly right of
use Prim.Native.Nat.{ℕ, ◌<◌}
use mathlib.Core.Path.{◌≡◌, refl, subst}
use mathlib.Core.Logic.{◌⊎◌, inl, inr}
use mathlib.Core.Bool.{Bool, true, false}
use mathlib.Core.List.{List}
use native.Mathlib.Omega.{arith}
use lib.IntN.{ℤ, pos, nat_abs, ◌+ℤ◌, ◌*ℤ◌}
use lib.ListN.{length}
use lib.Signed.{◌<ℤ◌, clash_ℤ}
use Rattle.integers.proofs.Order.{lt_z-false, ≮ℤ-≤ℤ, nat_abs-nonneg}
use Rattle.integers.proofs.Descent.{no_descent}
use Rattle.plane.specs.declared.Corner.{Corner}
use Rattle.plane.specs.declared.Point.{Point}
use Rattle.plane.specs.Point.{whole}
use Rattle.plane.specs.Vector.{◌⇀◌, dot, side}
use Rattle.plane.specs.code.Tests.{is_right}
use Rattle.plane.proofs.Algebra.{dot-self, dot-back, side-end, apart-0}
use Rattle.plane.proofs.Cone.{cone}
use Rattle.plane.proofs.Points.{whole-⇢}
use Rattle.outline.specs.code.Polygon.{Polygon}
use Rattle.outline.specs.Corners.{corner, next, previous}
use Rattle.outline.proofs.CornersLaws.{next-below, previous-below, next-previous, previous-next}
use Rattle.nearest.specs.declared.Feature.TheVariants as Feature
use Rattle.nearest.specs.Piece.{InPiece, Outside}
use Rattle.nearest.specs.Feature.{values}
use Rattle.nearest.specs.Nearest.{Nearest, Between}
use Rattle.nearest.specs.code.Local.{squared_length, along, is_corner, is_edge}
use Rattle.outline.proofs.EdgeLaws.{length-above-0}
use Rattle.nearest.proofs.PieceLaws.{whole-in-piece}
use Rattle.nearest.proofs.Support.{not_right, corner-in-piece, turns-left, corner-cone}
use Rattle.plane.proofs.Foot.{foot-left, foot-on-line, foot-after, foot-before, foot-bound}
use Rattle.nearest.proofs.Walk.{corner-test, edge_test, PastEnd, PastStart, visible-past, forth, back}

module _ {cs : List Corner} (polygon : Polygon cs) (v : Corner) where
  -- the cone at a corner whose test holds has the piece in it, and v not
  pub corner-nearest : (i : ℕ) → i < length cs → is_corner cs v i ≡ true
      → Nearest cs (whole v) (whole (corner cs i)) × Outside cs (whole v)
  corner-nearest i below holds =
      let c = corner cs i in
      let ((other, before), after) = (corner-test v _ c _).0 holds in
      let bound = corner-cone polygon i below (c ⇀ v) before after in (
        record {
          in_piece = corner-in-piece polygon i below;
          at_most_0 = λ j known. rw (whole-⇢ c v) (bound (whole (corner cs j)) (corner-in-piece polygon j known));
        },
        λ inside. other (apart-0 c v (rw (whole-⇢ c v) at (bound (whole v) inside))),
      )

  -- the nearest point is the foot of v on the edge: the answer's point, with n for the edge's squared length
  pub edge-nearest : (i : ℕ) → i < length cs → is_edge cs v i ≡ true
      → Nearest cs (whole v) (values cs v (Feature.Edge i)).point
      × Between cs i (values cs v (Feature.Edge i)).point
      × Outside cs (whole v)
  edge-nearest i below holds =
      let p = corner cs i in
      let q = corner cs (next (length cs) i) in
      let t = along p q v in
      let n = nat_abs (squared_length p q) in
      let (visible, (after, before)) = (edge_test v p q).0 holds in
      let long = length-above-0 polygon i below in
      let is-n : pos n ≡ squared_length p q = nat_abs-nonneg (dot-self (p ⇀ q)) in
      let long-n : pos 0 <ℤ pos n = rw is-n long in
      let before-n : t <ℤ pos n = rw is-n before in
      subst (λ (y : Point). Nearest cs (whole v) y × Between cs i y × Outside cs (whole v))
      (λ k. record { x = is-n k *ℤ p.x +ℤ t *ℤ (p ⇀ q).x; y = is-n k *ℤ p.y +ℤ t *ℤ (p ⇀ q).y; lower = n }) (
        record {
          in_piece = record {
            proper = long-n;
            right_of_none = λ j known. foot-left n t p q (corner cs j) (corner cs (next (length cs) j)) after before-n
                (not_right polygon j i known below)
                (not_right polygon j (next (length cs) i) known (next-below (length cs) i (omega arith)));
          };
          at_most_0 = λ j known. foot-bound n t p q v (corner cs j) is-n refl long-n visible (not_right polygon i j below known);
        },
        record {
          on_line = foot-on-line n t p q;
          after_start = foot-after n t p q after long;
          before_end = foot-before n t p q before-n long;
        },
        λ inside. clash_ℤ visible ((whole-in-piece cs v).0 inside i below),
      )

  -- Were an edge visible, the walk forth from its end or the walk back from its start would come nearer and nearer
  -- to v.
  pub none-holds : ((i : ℕ) → i < length cs → is_corner cs v i ≡ false) → ((i : ℕ) → i < length cs → is_edge cs v i ≡ false)
      → InPiece cs (whole v)
  none-holds corners edges = (whole-in-piece cs v).1 (λ i below. ≮ℤ-≤ℤ (not-visible i below))
    where
      n : ℕ
      n = length cs

      apart : ℕ → ℤ
      apart i = dot (corner cs i ⇀ v) (corner cs i ⇀ v)

      not-forth : (i : ℕ) → ¬ ((i < n) × PastEnd v (corner cs (previous n i)) (corner cs i))
      not-forth = no_descent _ (next n) apart (λ i. dot-self _) (λ i (below, past).
          let (on, nearer) = forth v _ _ _ (turns-left polygon i below) (corners i below) past (edges i below) in
          ((next-below n i (omega arith), rw (previous-next n i below) on), nearer))

      not_back : (i : ℕ) → ¬ ((i < n) × PastStart v (corner cs i) (corner cs (next n i)))
      not_back = no_descent _ (previous n) apart (λ i. dot-self _) (λ i (below, past).
          let known = previous-below n i below in
          let edge-fails = rw (next-previous n i below) at (edges (previous n i) known) in
          let (on, nearer) = back v _ _ _ (turns-left polygon i below) (corners i below) past edge-fails in
          ((known, rw (next-previous n i below) on), nearer))

      not-visible : (i : ℕ) → i < n → ¬ (side (corner cs i) (corner cs (next n i)) v <ℤ pos 0)
      not-visible i below visible =
          elim (visible-past v _ _ visible (edges i below)) [
            | inl start ↦ not_back i (below, record { visible = visible; behind = start })
            | inr end ↦ not-forth (next n i)
                (next-below n i (omega arith), rw (previous-next n i below) (record { visible = visible; behind = end }))
          ]

  -- Were v right of neither edge at the corner, it would be in the cone there, and the test says that only the
  -- corner is.
  pub corner-visible : (i : ℕ) → i < length cs → is_corner cs v i ≡ true → (let n = length cs in
      let before = corner cs (previous n i) in let c = corner cs i in let after = corner cs (next n i) in
      (is_right c (c ⇀ after) v ≡ true) ⊎ (is_right before (before ⇀ c) v ≡ true))
  corner-visible i below holds = by_tests (is_right c (c ⇀ after) v) (is_right before (before ⇀ c) v) refl refl
    where
      before : Corner
      before = corner cs (previous (length cs) i)

      c : Corner
      c = corner cs i

      after : Corner
      after = corner cs (next (length cs) i)

      by_tests : (a b : Bool) → is_right c (c ⇀ after) v ≡ a → is_right before (before ⇀ c) v ≡ b
          → (a ≡ true) ⊎ (b ≡ true)
      by_tests true b _ _ = inl refl
      by_tests false true _ _ = inr refl
      by_tests false false out into =
          let ((other, behind), ahead) = (corner-test v before c after).0 holds in
          let left-of-into = rw (side-end before c v) at (lt_z-false {a = side before c v} {b = pos 0} into) in
          let left-of-out = lt_z-false {a = side c after v} {b = pos 0} out in
          let in-cone = cone (before ⇀ c) (c ⇀ after) (c ⇀ v) (c ⇀ v) (turns-left polygon i below) left-of-into left-of-out
          (dot-back (c ⇀ v) c before behind) ahead in
          absurd (other (apart-0 c v in-cone))

-- What is extreme in a direction u, told from the edges alone, and what lies at a support corner.
--     ExtremeCorner    the edge into corner i does not fall in the direction u, and the edge out of it does not rise
--     ExtremeEdge      u is normal to edge i and points outward
--     ExtremeFeature   the one of the two that speaks of the feature
--     AtSupport        a feature is support corner b, one of its two neighbours, or one of the two edges that meet
--                      there
-- For a polygon these are what the words say:
--     corner-extreme-iff    no corner lies farther in the direction u than corner i
--     edge-extreme-iff      both ends of edge i are extreme in u
use Prim.Native.Nat.{ℕ, ◌<◌}
use mathlib.Core.Path.{◌≡◌}
use mathlib.Core.Logic.{◌⊎◌, ◌↔◌}
use mathlib.Core.List.{List, [], ◌∷◌}
use native.Mathlib.Omega.{arith}
use lib.IntN.{pos}
use lib.ListN.{length}
use lib.Signed.{◌≤ℤ◌, ◌<ℤ◌, ≤ℤ_refl}
use Rattle.integers.proofs.Order.{≤ℤ-antisym}
use Rattle.integers.proofs.Polynomial.{◌⊗◌, ◌⊖◌, ⊝◌}
use Rattle.integers.proofs.Certificate.{◌≺◌, ◌≼◌, ◌≗◌, hyp, sq, eqn, ◌⊞◌, ◌⊠◌, prove}
use Rattle.plane.specs.declared.Corner.{Corner}
use Rattle.plane.specs.declared.Vector.{Vector}
use Rattle.plane.specs.Point.{whole, ◌⇢◌}
use Rattle.plane.specs.Vector.{◌⇀◌, cross, dot, coordinates}
use Rattle.plane.proofs.Algebra.{O, vec, cross_e, dot_e, ◌⇀E◌, components, dot-back}
use Rattle.plane.proofs.Halves.{NonZero}
use Rattle.plane.proofs.Points.{whole-⇢}
use Rattle.outline.specs.code.Polygon.{Polygon}
use Rattle.outline.specs.Corners.{corner, next, previous, edge}
use Rattle.outline.proofs.CornersLaws.{next-below, previous-below, next-previous, previous-next}
use Rattle.nearest.specs.declared.Feature.{Feature}
use Rattle.nearest.proofs.Support.{turns-left, corner-in-piece, corner-cone, turns-on}

pub record ExtremeCorner (cs : List Corner) (u : Vector) (i : ℕ) : Type 0 where
  pub known : i < length cs
  pub not_falling : pos 0 ≤ℤ dot u (edge cs (previous (length cs) i))
  pub not_rising : dot u (edge cs i) ≤ℤ pos 0

pub record ExtremeEdge (cs : List Corner) (u : Vector) (i : ℕ) : Type 0 where
  pub known : i < length cs
  pub normal : dot u (edge cs i) ≡ pos 0
  pub outward : pos 0 <ℤ cross u (edge cs i)

abbrev pub ExtremeFeature : List Corner → Vector → Feature → Type 0
ExtremeFeature cs u Feature.Within = ⊥
ExtremeFeature cs u (Feature.Corner i) = ExtremeCorner cs u i
ExtremeFeature cs u (Feature.Edge i) = ExtremeEdge cs u i

abbrev pub AtSupport : ℕ → ℕ → Feature → Type 0
AtSupport n b Feature.Within = ⊥
AtSupport n b (Feature.Corner i) = (i ≡ b) ⊎ (i ≡ next n b) ⊎ (next n i ≡ b)
AtSupport n b (Feature.Edge i) = (i ≡ b) ⊎ (next n i ≡ b)

-- what does not fall from p to q does not rise from q to p
dot-forth : (u : Vector) (p q : Corner) → pos 0 ≤ℤ dot u (p ⇀ q) → dot u (q ⇀ p) ≤ℤ pos 0
unfolding dot ◌⇀◌
dot-forth u p q =
    let u' = vec 0 in let p' = vec 2 in let q' = vec 4 in
    prove (u.x ∷ u.y ∷ coordinates (p ∷ q ∷ [])) (O ≼ dot_e u' (p' ⇀E q') ∷ []) (dot_e u' (q' ⇀E p') ≼ O) (hyp 0 ⊞ hyp 1) tt

-- Let u be normal to an edge e, p the edge before it and f the edge after. By Lagrange's identity, cross u e times
-- cross p e is dot u p times |e|². So u points outward exactly where it does not fall along p, and then it does not
-- rise along f.
module _ (u p e : Vector) where
  normal-before : pos 0 <ℤ cross p e → dot u e ≡ pos 0 → pos 0 <ℤ cross u e → pos 0 ≤ℤ dot u p
  unfolding cross dot
  normal-before =
      let u' = vec 0 in let p' = vec 2 in let e' = vec 4 in
      prove (components (u ∷ p ∷ e ∷ [])) (O ≺ cross_e p' e' ∷ dot_e u' e' ≗ O ∷ O ≺ cross_e u' e' ∷ []) (O ≼ dot_e u' p')
      (hyp 1 ⊠ hyp 3 ⊞ hyp 0 ⊠ sq e'.x ⊞ hyp 0 ⊠ sq e'.y ⊞ eqn 2 (⊝ dot_e p' e')) tt

  normal-outward : NonZero u → pos 0 <ℤ cross p e → dot u e ≡ pos 0 → pos 0 ≤ℤ dot u p → pos 0 <ℤ cross u e
  unfolding cross dot
  normal-outward =
      let u' = vec 0 in let p' = vec 2 in let e' = vec 4 in let turn = cross_e p' e' in let back = dot_e p' e' in
      prove (components (u ∷ p ∷ e ∷ [])) (O ≺ dot_e u' u' ∷ O ≺ turn ∷ dot_e u' e' ≗ O ∷ O ≼ dot_e u' p' ∷ []) (O ≺ cross_e u' e')
      (hyp 1 ⊠ hyp 2 ⊠ hyp 2 ⊠ hyp 2 ⊞ hyp 1 ⊠ hyp 2 ⊠ sq back ⊞ hyp 0 ⊠ hyp 4 ⊠ sq turn ⊞ hyp 0 ⊠ hyp 4 ⊠ sq back
      ⊞ eqn 3 (dot_e p' p' ⊗ (turn ⊗ dot_e u' e' ⊖ cross_e u' e' ⊗ back))) tt

normal-after : (u e f : Vector) → pos 0 <ℤ cross e f → dot u e ≡ pos 0 → pos 0 <ℤ cross u e → dot u f ≤ℤ pos 0
unfolding cross dot
normal-after u e f =
    let u' = vec 0 in let e' = vec 2 in let f' = vec 4 in
    prove (components (u ∷ e ∷ f ∷ [])) (O ≺ cross_e e' f' ∷ dot_e u' e' ≗ O ∷ O ≺ cross_e u' e' ∷ []) (dot_e u' f' ≼ O)
    (hyp 1 ⊠ hyp 3 ⊞ hyp 0 ⊠ sq e'.x ⊞ hyp 0 ⊠ sq e'.y ⊞ eqn 2 (dot_e f' e')) tt

module _ {cs : List Corner} (polygon : Polygon cs) (u : Vector) (i : ℕ) (below : i < length cs) where
  abbrev n : ℕ
  n = length cs

  pub corner-extreme-iff : ExtremeCorner cs u i
      ↔ ((j : ℕ) → j < length cs → dot u (whole (corner cs i) ⇢ whole (corner cs j)) ≤ℤ pos 0)
  corner-extreme-iff = (
    λ extreme j known. corner-cone polygon i below u (dot-forth u _ _ (rw (next-previous n i below) at extreme.not_falling))
        extreme.not_rising _ (corner-in-piece polygon j known),
    λ none. record {
      known = below;
      not_falling = rw (next-previous n i below)
          (dot-back u _ _ (rw (whole-⇢ (corner cs i) _) at (none (previous n i) (previous-below n i below))));
      not_rising = rw (whole-⇢ (corner cs i) _) at (none (next n i) (next-below n i (omega arith)));
    },
  )

  -- the edge before and this one turn left
  turns-in : pos 0 <ℤ cross (edge cs (previous n i)) (edge cs i)
  turns-in = rw (next-previous n i below) (turns-left polygon i below)

  pub edge-extreme-iff : NonZero u → ExtremeEdge cs u i ↔ (ExtremeCorner cs u i × ExtremeCorner cs u (next (length cs) i))
  edge-extreme-iff some = (
    λ extreme. (
      record {
        known = below;
        not_falling = normal-before u _ _ turns-in extreme.normal extreme.outward;
        not_rising = rw extreme.normal (≤ℤ_refl (pos 0));
      },
      record {
        known = next-below n i (omega arith);
        not_falling = rw (previous-next n i below, extreme.normal) (≤ℤ_refl (pos 0));
        not_rising = normal-after u _ _ (turns-on polygon i below) extreme.normal extreme.outward;
      },
    ),
    λ (start, end).
        let normal = ≤ℤ-antisym start.not_rising (rw (previous-next n i below) at end.not_falling) in
        record { known = below; normal = normal; outward = normal-outward u _ _ some turns-in normal start.not_falling },
  )

-- A point is one feature only.
--     fits-unique         two features of one point of the piece are the same
-- A feature is told by the edges on whose lines its point lies: that of edge i lies on the line of edge i alone,
-- and that of corner i on the line of edge i, and on no line but those of the two edges that meet there.
use Prim.Native.Nat.{ℕ, ◌<◌, ◌≤◌}
use native.Mathlib.Decide.{ℕ_discrete}
use native.Mathlib.Omega.{arith}
use mathlib.Core.Path.{◌≡◌, refl, sym, ap, subst, ◌∙◌}
use mathlib.Core.Logic.{◌⊎◌, inl, inr}
use mathlib.Core.List.{List, [], ◌∷◌, ◌++◌}
use lib.IntN.{ℤ, pos, neg_ℤ}
use lib.ListN.{length}
use lib.Signed.{◌≤ℤ◌, ◌<ℤ◌, ≤ℤ_refl, <ℤ_irrefl, clash_ℤ}
use Rattle.integers.proofs.Polynomial.{var, ◌⊗◌, ⊝◌, solve}
use Rattle.integers.proofs.Certificate.{Claim, ◌≺◌, ◌≼◌, ◌≗◌, hyp, eqn, ◌⊞◌, ◌⊠◌, prove}
use Rattle.plane.specs.declared.Corner.{Corner}
use Rattle.plane.specs.declared.Point.{Point}
use Rattle.plane.specs.declared.Vector.{Vector}
use Rattle.plane.specs.Point.{Proper, whole, ◌⇢◌, Same}
use Rattle.plane.specs.Vector.{◌⇀◌, cross, dot, coordinates}
use Rattle.plane.proofs.Algebra.{O, vec, cross_e, dot_e, ◌⇀E◌, components}
use Rattle.plane.proofs.Points.{pt, whole_e, ◌⇢E◌, numbers, whole-proper, whole-⇢, same-sym}
use Rattle.outline.specs.code.Polygon.{Polygon}
use Rattle.outline.specs.Corners.{corner, next, edge}
use Rattle.outline.proofs.CornersLaws.{next-below, next-other, next-next-other}
use Rattle.nearest.specs.declared.Feature.{Feature}
use Rattle.nearest.specs.Piece.{side_of}
use Rattle.nearest.specs.Nearest.{Fits, Between}
use Rattle.nearest.proofs.Support.{corner-in-piece}

-- corner i is an end of edge k
abbrev End : ℕ → ℕ → ℕ → Type 0
End n k i = (i ≡ k) ⊎ (i ≡ next n k)

module _ (n i k : ℕ) (three : 3 ≤ n) where
  -- two corners that are ends of each other's edges are one corner
  each-other : End n i k → End n k i → i ≡ k
  each-other (inl e) f = sym e
  each-other (inr e) (inl f) = f
  each-other (inr e) (inr f) = absurd (next-next-other n i three (ap (next n) (sym e) ∙ sym f))

  -- an edge both of whose ends are ends of edge k is edge k
  both_ends : End n k i → End n k (next n i) → i ≡ k
  both_ends (inl e) f = e
  both_ends (inr e) (inl f) = absurd (next-next-other n k three (ap (next n) (sym e) ∙ f))
  both_ends (inr e) (inr f) = absurd (next-other n i (omega arith) (f ∙ sym e))

-- The same point lies on the same lines.
same_line : (e : Vector) (p : Point) {y z : Point} → Same y z → Proper y → cross e (p ⇢ y) ≡ pos 0 → cross e (p ⇢ z) ≡ pos 0
unfolding cross ◌⇢◌
same_line e p {y} {z} same =
    let e' = vec 0 in let p' = pt 2 in let y' = pt 5 in let z' = pt 8 in
    prove (components (e ∷ []) ++ numbers (p ∷ y ∷ z ∷ []))
    (y'.x ⊗ z'.lower ≗ z'.x ⊗ y'.lower ∷ y'.y ⊗ z'.lower ≗ z'.y ⊗ y'.lower ∷ O ≺ y'.lower ∷ cross_e e' (p' ⇢E y') ≗ O ∷ [])
    (cross_e e' (p' ⇢E z') ≗ O)
    (hyp 0 ⊠ hyp 3 ⊞ eqn 1 (e'.y ⊗ p'.lower) ⊞ eqn 2 (⊝ (e'.x ⊗ p'.lower)) ⊞ eqn 4 z'.lower) tt same.same_x same.same_y

-- So a corner c, by another name z, lies on every line through c.
through : (e : Vector) (c : Corner) {y z : Point} → Proper y → Same y z → Same y (whole c) → cross e (whole c ⇢ z) ≡ pos 0
unfolding cross ◌⇢◌
through e c proper same here =
    same_line e (whole c) same proper (same_line e (whole c) (same-sym here) (whole-proper c)
    (solve (components (e ∷ []) ++ coordinates (c ∷ [])) (cross_e (vec 0) (whole_e (vec 2) ⇢E whole_e (vec 2))) O tt))

-- e turned right by a right angle
abbrev turned : Vector → Vector
turned e = record { x = e.y; y = neg_ℤ e.x }

dot-turned : (e w : Vector) → dot e w ≡ cross (turned e) w
unfolding cross dot
dot-turned e w = solve (components (e ∷ w ∷ [])) (dot_e (vec 0) (vec 2)) (cross_e (record { x = var 1; y = ⊝ var 0 }) (vec 2)) tt

-- It lies on the line square to e too, and so it is not ahead of c along e.
not-ahead : (e : Vector) (c : Corner) {y z : Point} → Proper y → Same y z → Same y (whole c) → ¬ (pos 0 <ℤ dot e (whole c ⇢ z))
not-ahead e c {y} {z} proper same here ahead =
    <ℤ_irrefl (rw (dot-turned e (whole c ⇢ z), through (turned e) c proper same here) at ahead)

-- Where a line has p and q not on its right, a point y strictly between them is on the line only if both are. With
-- e = q - p, the side numbers of p and q have a sum with the weights e·(q - y) and e·(y - p), both above 0, which
-- is |e|² times that of y.
ends-on-line : (f : Vector) (a p q : Corner) (y : Point)
    → cross (p ⇀ q) (whole p ⇢ y) ≡ pos 0 → pos 0 <ℤ dot (p ⇀ q) (whole p ⇢ y) → pos 0 <ℤ dot (p ⇀ q) (y ⇢ whole q)
    → pos 0 ≤ℤ cross f (whole a ⇢ whole p) → pos 0 ≤ℤ cross f (whole a ⇢ whole q) → cross f (whole a ⇢ y) ≡ pos 0
    → (cross f (whole a ⇢ whole p) ≤ℤ pos 0) × (cross f (whole a ⇢ whole q) ≤ℤ pos 0)
unfolding cross dot ◌⇀◌ ◌⇢◌
ends-on-line f a p q y on_edge after before left-p left-q on_line =
    let f' = vec 0 in let a' = whole_e (vec 2) in let p' = vec 4 in let q' = vec 6 in let y' = pt 8 in let e' = p' ⇀E q' in
    let at_p = cross_e f' (a' ⇢E whole_e p') in let at-q = cross_e f' (a' ⇢E whole_e q') in
    let env : List ℤ = components (f ∷ []) ++ (coordinates (a ∷ p ∷ q ∷ []) ++ numbers (y ∷ [])) in
    let known : List Claim = cross_e e' (whole_e p' ⇢E y') ≗ O ∷ O ≺ dot_e e' (whole_e p' ⇢E y') ∷ O ≺ dot_e e' (y' ⇢E whole_e q')
    ∷ O ≼ at_p ∷ O ≼ at-q ∷ cross_e f' (a' ⇢E y') ≗ O ∷ [] in
    let lines = eqn 1 (⊝ dot_e f' e') ⊞ eqn 6 (dot_e e' e') in (
      prove env known (at_p ≼ O) (hyp 0 ⊠ hyp 3 ⊞ hyp 2 ⊠ hyp 5 ⊞ lines) tt on_edge after before left-p left-q on_line,
      prove env known (at-q ≼ O) (hyp 0 ⊠ hyp 2 ⊞ hyp 3 ⊠ hyp 4 ⊞ lines) tt on_edge after before left-p left-q on_line,
    )

module _ {cs : List Corner} (polygon : Polygon cs) where
  module _ (k : ℕ) (k-below : k < length cs) where
    -- a corner that is not strictly left of edge k is an end of it
    left-or-end : (i : ℕ) → i < length cs → side_of cs k (whole (corner cs i)) ≤ℤ pos 0 → End (length cs) k i
    left-or-end i below not_left =
        elim (ℕ_discrete i k) [
          | yes e ↦ inl e
          | no a ↦ elim (ℕ_discrete i (next (length cs) k)) [
            | yes e ↦ inr e
            | no b ↦ clash_ℤ (polygon.convex k i k-below below a b) (rw whole-⇢ at not_left)
          ]
        ]

    -- corner i is on the line of edge k only as an end of it
    corner-line : (i : ℕ) {y : Point} → Proper y → i < length cs → Same y (whole (corner cs i))
        → side_of cs k y ≡ pos 0 → End (length cs) k i
    corner-line i proper below here line =
        left-or-end i below (rw (same_line (edge cs k) (whole (corner cs k)) here proper line) (≤ℤ_refl (pos 0)))

    -- and a point strictly between the ends of edge i only where that is edge k
    edge-line : (i : ℕ) {y : Point} → i < length cs → Between cs i y → side_of cs k y ≡ pos 0 → i ≡ k
    edge-line i {y} below between line =
        let j = next (length cs) i in
        let j-below : j < length cs = next-below (length cs) i (omega arith) in
        let ends = ends-on-line (edge cs k) (corner cs k) (corner cs i) (corner cs j) y
        between.on_line between.after_start between.before_end
        ((corner-in-piece polygon i below).right_of_none k k-below) ((corner-in-piece polygon j j-below).right_of_none k k-below) line in
        both_ends (length cs) i k polygon.at_least (left-or-end i below ends.0) (left-or-end j j-below ends.1)

  -- a corner is not strictly between the ends of an edge
  corner-or-edge : (i j : ℕ) {y z : Point} → Proper y → Same y z → i < length cs → Same y (whole (corner cs i))
      → j < length cs → ¬ Between cs j z
  corner-or-edge i j {y} {z} proper same below here j-below between =
      let same_number : j ≡ i = edge-line i below j j-below between (through (edge cs i) (corner cs i) proper same here) in
      not-ahead (edge cs i) (corner cs i) proper same here (subst (λ (k : ℕ). Between cs k z) same_number between).after_start

  -- Two features of one point are the same.
  pub fits-unique : (v : Point) {y z : Point} (f g : Feature) → Proper y → Proper z → Same y z
      → Fits cs v y f → Fits cs v z g → f ≡ g
  fits-unique v Feature.Within Feature.Within y-proper z-proper same fits also = refl
  fits-unique v Feature.Within (Feature.Corner j) y-proper z-proper same fits also = absurd (also.0 fits.0)
  fits-unique v Feature.Within (Feature.Edge j) y-proper z-proper same fits also = absurd (also.0 fits.0)
  fits-unique v (Feature.Corner i) Feature.Within y-proper z-proper same fits also = absurd (fits.0 also.0)
  fits-unique v (Feature.Edge i) Feature.Within y-proper z-proper same fits also = absurd (fits.0 also.0)
  fits-unique v (Feature.Corner i) (Feature.Corner j) y-proper z-proper same (_, below, here) (_, j-below, there) =
      ap Feature.Corner (each-other (length cs) i j polygon.at_least
      (corner-line i below j z-proper j-below there (through (edge cs i) (corner cs i) y-proper same here))
      (corner-line j j-below i y-proper below here (through (edge cs j) (corner cs j) z-proper (same-sym same) there)))
  fits-unique v (Feature.Corner i) (Feature.Edge j) y-proper z-proper same (_, below, here) (_, j-below, between) =
      absurd (corner-or-edge i j y-proper same below here j-below between)
  fits-unique v (Feature.Edge i) (Feature.Corner j) y-proper z-proper same (_, below, between) (_, j-below, there) =
      absurd (corner-or-edge j i z-proper (same-sym same) j-below there below between)
  fits-unique v (Feature.Edge i) (Feature.Edge j) y-proper z-proper same (_, below, between) (_, j-below, also) =
      ap Feature.Edge (edge-line j j-below i below between
      (same_line (edge cs j) (whole (corner cs j)) (same-sym same) z-proper also.on_line))

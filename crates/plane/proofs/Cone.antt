-- One corner of a strictly convex outline, by signs of products alone; whole components of any size.
-- e is the edge into the corner and f the edge out of it, so cross e f is above 0; d runs from the corner.
--     cone             if dot u e is not below 0 and dot u f not above, then dot u d is not above 0 for any d right
--                      of neither edge
--     turn-next        d right of e, pointing along f and not back along e, is right of f
--     turn-previous    its mirror: d right of f, pointing back along e and not along f, is right of e
--     left-trans       of u, v and w left of e: v left of u and w left of v make w left of u
--     left-of-chord    d left of a to b and of b to c is left of a to c, if an edge into d has none of a, b, c on
--                      its right, and a on its left
use mathlib.Core.List.{[], ◌∷◌}
use lib.IntN.{pos}
use lib.Signed.{◌≤ℤ◌, ◌<ℤ◌}
use Rattle.integers.proofs.Certificate.{◌≺◌, ◌≼◌, hyp, sq, ◌⊞◌, ◌⊠◌, prove}
use Rattle.plane.specs.Vector.{◌⇀◌, cross, dot, side, coordinates}
use Rattle.plane.specs.declared.Corner.{Corner}
use Rattle.plane.specs.declared.Vector.{Vector}
use Rattle.plane.proofs.Algebra.{O, vec, cross_e, dot_e, side_e, components}

pub cone : (e f d u : Vector) → pos 0 <ℤ cross e f → pos 0 ≤ℤ cross e d → pos 0 ≤ℤ cross f d → pos 0 ≤ℤ dot u e
    → dot u f ≤ℤ pos 0 → dot u d ≤ℤ pos 0
unfolding cross dot
cone e f d u =
    let e' = vec 0 in let f' = vec 2 in let d' = vec 4 in let u' = vec 6 in
    prove (components (e ∷ f ∷ d ∷ u ∷ []))
    (O ≺ cross_e e' f' ∷ O ≼ cross_e e' d' ∷ O ≼ cross_e f' d' ∷ O ≼ dot_e u' e' ∷ dot_e u' f' ≼ O ∷ []) (dot_e u' d' ≼ O)
    (hyp 0 ⊠ hyp 1 ⊞ hyp 2 ⊠ hyp 5 ⊞ hyp 3 ⊠ hyp 4) tt

pub turn-next : (e f d : Vector) → pos 0 <ℤ cross e f → cross e d <ℤ pos 0 → pos 0 ≤ℤ dot d e → pos 0 <ℤ dot d f → cross f d <ℤ pos 0
unfolding cross dot
turn-next e f d =
    let e' = vec 0 in let f' = vec 2 in let d' = vec 4 in
    prove (components (e ∷ f ∷ d ∷ []))
    (O ≺ cross_e e' f' ∷ cross_e e' d' ≺ O ∷ O ≼ dot_e d' e' ∷ O ≺ dot_e d' f' ∷ []) (cross_e f' d' ≺ O)
    (hyp 0 ⊠ hyp 3 ⊞ hyp 1 ⊠ sq d'.x ⊞ hyp 1 ⊠ sq d'.y ⊞ hyp 2 ⊠ hyp 4) tt

pub turn-previous : (e f d : Vector) → pos 0 <ℤ cross e f → cross f d <ℤ pos 0 → dot d f ≤ℤ pos 0 → dot d e <ℤ pos 0 → cross e d <ℤ pos 0
unfolding cross dot
turn-previous e f d =
    let e' = vec 0 in let f' = vec 2 in let d' = vec 4 in
    prove (components (e ∷ f ∷ d ∷ []))
    (O ≺ cross_e e' f' ∷ cross_e f' d' ≺ O ∷ dot_e d' f' ≼ O ∷ dot_e d' e' ≺ O ∷ []) (cross_e e' d' ≺ O)
    (hyp 0 ⊠ hyp 3 ⊞ hyp 1 ⊠ sq d'.x ⊞ hyp 1 ⊠ sq d'.y ⊞ hyp 2 ⊠ hyp 4) tt

pub left-trans : (e u v w : Vector) → pos 0 <ℤ cross e u → pos 0 <ℤ cross e v → pos 0 <ℤ cross e w → pos 0 <ℤ cross u v
    → pos 0 <ℤ cross v w → pos 0 <ℤ cross u w
unfolding cross
left-trans e u v w =
    let e' = vec 0 in let u' = vec 2 in let v' = vec 4 in let w' = vec 6 in
    prove (components (e ∷ u ∷ v ∷ w ∷ []))
    (O ≺ cross_e e' u' ∷ O ≺ cross_e e' v' ∷ O ≺ cross_e e' w' ∷ O ≺ cross_e u' v' ∷ O ≺ cross_e v' w' ∷ []) (O ≺ cross_e u' w')
    (hyp 0 ⊠ hyp 2 ⊞ hyp 1 ⊠ hyp 5 ⊞ hyp 3 ⊠ hyp 4) tt

-- Left of a to b and of b to c is not enough: d might lie inside the triangle. The edge comes from s.
pub left-of-chord : (a b c d s : Corner) → pos 0 <ℤ side b c d → pos 0 ≤ℤ side a b d → pos 0 <ℤ side s d a
    → pos 0 ≤ℤ side s d b → pos 0 ≤ℤ side s d c → pos 0 <ℤ side a c d
unfolding cross ◌⇀◌
left-of-chord a b c d s =
    let a' = vec 0 in let b' = vec 2 in let c' = vec 4 in let d' = vec 6 in let s' = vec 8 in
    prove (coordinates (a ∷ b ∷ c ∷ d ∷ s ∷ []))
    (O ≺ side_e b' c' d' ∷ O ≼ side_e a' b' d' ∷ O ≺ side_e s' d' a' ∷ O ≼ side_e s' d' b' ∷ O ≼ side_e s' d' c' ∷ []) (O ≺ side_e a' c' d')
    (hyp 0 ⊠ hyp 4 ⊞ hyp 1 ⊠ hyp 3 ⊞ hyp 2 ⊠ hyp 5) tt

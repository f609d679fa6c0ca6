-- The algebra of vectors and points with whole components, of any size.
-- As expressions, so that an identity is one `solve` and a sign one `prove` over `components` or `coordinates`:
--     vec i                           the vector, or point, whose components are the variables i and i + 1
--     cross_e, dot_e, ◌⇀E◌, side_e       cross, dot, ◌⇀◌ and side of these; O is the number 0
--     components, coordinates         the numbers of some vectors, of some points: the k-th is vec (2 k)
-- Identities:
--     cross-swap, dot-swap            the arguments exchanged
--     cross-back                      e is not right of d exactly where d is not left of e
--     side-end, side-turn             a side number from the edge's other end; of three points taken round
--     side-back                       a point is left of an edge exactly where it is right of the edge the other way
--     side_same                       against an edge from a point to itself it is 0
--     side-start, side-stop           and so it is of the edge's own ends
--     dot-less, dot-back              dot u is not above 0 from p to q where it is not greater at q; and then not
--                                     below 0 from q to p
--     cramer-x, cramer-y              cross e f times d is cross d f times e plus cross e d times f, in each component
--     cramer-dot, cramer-cross        the same, dotted with u; crossed with g
--     dot-self                        a squared length is not negative
--     lagrange, cauchy-schwarz        cross² + dot² is the product of the squared lengths; so dot² is at most that
--     apart-0, distinct-length        points at squared distance 0 are the same; others are farther apart
--     turn-length, cross-length       a vector with another strictly on its left has a length; and so has that other
use Prim.Native.Nat.{ℕ, suc}
use mathlib.Core.Path.{◌≡◌}
use mathlib.Core.Logic.{◌↔◌, ◌≢◌}
use mathlib.Core.List.{List, [], ◌∷◌}
use lib.IntN.{ℤ, pos, neg_ℤ, ◌+ℤ◌, ◌*ℤ◌}
use lib.Signed.{◌≤ℤ◌, ◌<ℤ◌}
use Rattle.integers.proofs.Polynomial.{Expr, var, lit, ⊝◌, ◌⊕◌, ◌⊖◌, ◌⊗◌, solve}
use Rattle.integers.proofs.Certificate.{◌≺◌, ◌≼◌, ◌≗◌, hyp, sq, ◌⊞◌, ◌⊠◌, prove}
use Rattle.integers.proofs.Order.{≰ℤ-<ℤ}
use Rattle.plane.specs.Vector.{◌⇀◌, cross, dot, side, coordinates}
use Rattle.plane.specs.declared.Corner.{Corner}
use Rattle.plane.specs.declared.Vector.{Vector}

pub record VecE : Type 0 where
  pub x : Expr
  pub y : Expr

abbrev pub O : Expr
O = lit (pos 0)

abbrev pub vec : ℕ → VecE
vec i = record { x = var i; y = var (suc i) }

abbrev pub cross_e : VecE → VecE → Expr
cross_e a b = a.x ⊗ b.y ⊖ a.y ⊗ b.x

abbrev pub dot_e : VecE → VecE → Expr
dot_e a b = a.x ⊗ b.x ⊕ a.y ⊗ b.y

infix 60 ◌⇀E◌
abbrev pub ◌⇀E◌ : VecE → VecE → VecE
p ⇀E q = record { x = q.x ⊖ p.x; y = q.y ⊖ p.y }

abbrev pub side_e : VecE → VecE → VecE → Expr
side_e p q v = cross_e (p ⇀E q) (p ⇀E v)

abbrev pub components : List Vector → List ℤ
components [] = []
components (v ∷ vs) = v.x ∷ v.y ∷ components vs

pub cross-swap : (a b : Vector) → cross a b ≡ neg_ℤ (cross b a)
unfolding cross
cross-swap a b = solve (components (a ∷ b ∷ [])) (cross_e (vec 0) (vec 2)) (⊝ cross_e (vec 2) (vec 0)) tt

pub dot-swap : (a b : Vector) → dot a b ≡ dot b a
unfolding dot
dot-swap a b = solve (components (a ∷ b ∷ [])) (dot_e (vec 0) (vec 2)) (dot_e (vec 2) (vec 0)) tt

pub cross-back : (d e : Vector) → (pos 0 ≤ℤ cross d e) ↔ (cross e d ≤ℤ pos 0)
unfolding cross
cross-back d e =
    let env : List ℤ = components (d ∷ e ∷ []) in
    let there = cross_e (vec 0) (vec 2) in let back = cross_e (vec 2) (vec 0) in
    (prove env (O ≼ there ∷ []) (back ≼ O) (hyp 0 ⊞ hyp 1) tt, prove env (back ≼ O ∷ []) (O ≼ there) (hyp 0 ⊞ hyp 1) tt)

pub side-end : (p q v : Corner) → side p q v ≡ cross (p ⇀ q) (q ⇀ v)
unfolding cross ◌⇀◌
side-end p q v = solve (coordinates (p ∷ q ∷ v ∷ [])) (side_e (vec 0) (vec 2) (vec 4)) (cross_e (vec 0 ⇀E vec 2) (vec 2 ⇀E vec 4)) tt

pub side-turn : (p q v : Corner) → side p q v ≡ side q v p
unfolding cross ◌⇀◌
side-turn p q v = solve (coordinates (p ∷ q ∷ v ∷ [])) (side_e (vec 0) (vec 2) (vec 4)) (side_e (vec 2) (vec 4) (vec 0)) tt

pub side-back : (p q v : Corner) → (pos 0 <ℤ side q p v) ↔ (side p q v <ℤ pos 0)
unfolding cross ◌⇀◌
side-back p q v =
    let env : List ℤ = coordinates (p ∷ q ∷ v ∷ []) in
    let there = side_e (vec 0) (vec 2) (vec 4) in let back = side_e (vec 2) (vec 0) (vec 4) in
    (prove env (O ≺ back ∷ []) (there ≺ O) (hyp 0 ⊞ hyp 1) tt, prove env (there ≺ O ∷ []) (O ≺ back) (hyp 0 ⊞ hyp 1) tt)

pub side_same : (p v : Corner) → side p p v ≡ pos 0
unfolding cross ◌⇀◌
side_same p v = solve (coordinates (p ∷ v ∷ [])) (side_e (vec 0) (vec 0) (vec 2)) O tt

pub side-start : (p q : Corner) → side p q p ≡ pos 0
unfolding cross ◌⇀◌
side-start p q = solve (coordinates (p ∷ q ∷ [])) (side_e (vec 0) (vec 2) (vec 0)) O tt

pub side-stop : (p q : Corner) → side p q q ≡ pos 0
unfolding cross ◌⇀◌
side-stop p q = solve (coordinates (p ∷ q ∷ [])) (side_e (vec 0) (vec 2) (vec 2)) O tt

-- dot u at a point is measured from any one point o
pub dot-less : (u : Vector) (o p q : Corner) → dot u (o ⇀ q) ≤ℤ dot u (o ⇀ p) → dot u (p ⇀ q) ≤ℤ pos 0
unfolding dot ◌⇀◌
dot-less u o p q =
    let u' = vec 0 in let o' = vec 2 in let p' = vec 4 in let q' = vec 6 in
    prove (u.x ∷ u.y ∷ coordinates (o ∷ p ∷ q ∷ [])) (dot_e u' (o' ⇀E q') ≼ dot_e u' (o' ⇀E p') ∷ []) (dot_e u' (p' ⇀E q') ≼ O)
    (hyp 0 ⊞ hyp 1) tt

pub dot-back : (u : Vector) (p q : Corner) → dot u (p ⇀ q) ≤ℤ pos 0 → pos 0 ≤ℤ dot u (q ⇀ p)
unfolding dot ◌⇀◌
dot-back u p q =
    let u' = vec 0 in let p' = vec 2 in let q' = vec 4 in
    prove (u.x ∷ u.y ∷ coordinates (p ∷ q ∷ [])) (dot_e u' (p' ⇀E q') ≼ O ∷ []) (O ≼ dot_e u' (q' ⇀E p')) (hyp 0 ⊞ hyp 1) tt

pub cramer-x : (d e f : Vector) → cross e f *ℤ d.x ≡ cross d f *ℤ e.x +ℤ cross e d *ℤ f.x
unfolding cross
cramer-x d e f =
    let d' = vec 0 in let e' = vec 2 in let f' = vec 4 in
    solve (components (d ∷ e ∷ f ∷ [])) (cross_e e' f' ⊗ d'.x) (cross_e d' f' ⊗ e'.x ⊕ cross_e e' d' ⊗ f'.x) tt

pub cramer-y : (d e f : Vector) → cross e f *ℤ d.y ≡ cross d f *ℤ e.y +ℤ cross e d *ℤ f.y
unfolding cross
cramer-y d e f =
    let d' = vec 0 in let e' = vec 2 in let f' = vec 4 in
    solve (components (d ∷ e ∷ f ∷ [])) (cross_e e' f' ⊗ d'.y) (cross_e d' f' ⊗ e'.y ⊕ cross_e e' d' ⊗ f'.y) tt

pub cramer-dot : (d e f u : Vector) → cross e f *ℤ dot d u ≡ cross d f *ℤ dot e u +ℤ cross e d *ℤ dot f u
unfolding cross dot
cramer-dot d e f u =
    let d' = vec 0 in let e' = vec 2 in let f' = vec 4 in let u' = vec 6 in
    solve (components (d ∷ e ∷ f ∷ u ∷ [])) (cross_e e' f' ⊗ dot_e d' u') (cross_e d' f' ⊗ dot_e e' u' ⊕ cross_e e' d' ⊗ dot_e f' u') tt

pub cramer-cross : (d e f g : Vector) → cross e f *ℤ cross g d ≡ cross g f *ℤ cross e d +ℤ cross e g *ℤ cross f d
unfolding cross
cramer-cross d e f g =
    let d' = vec 0 in let e' = vec 2 in let f' = vec 4 in let g' = vec 6 in
    solve (components (d ∷ e ∷ f ∷ g ∷ [])) (cross_e e' f' ⊗ cross_e g' d') (cross_e g' f' ⊗ cross_e e' d' ⊕ cross_e e' g' ⊗ cross_e f' d') tt

pub dot-self : (a : Vector) → pos 0 ≤ℤ dot a a
unfolding dot
dot-self a =
    prove (components (a ∷ [])) [] (O ≼ dot_e (vec 0) (vec 0)) (hyp 0 ⊞ sq (vec 0).x ⊞ sq (vec 0).y) tt

pub lagrange : (a b : Vector) → cross a b *ℤ cross a b +ℤ dot a b *ℤ dot a b ≡ dot a a *ℤ dot b b
unfolding cross dot
lagrange a b =
    let a' = vec 0 in let b' = vec 2 in
    solve (components (a ∷ b ∷ [])) (cross_e a' b' ⊗ cross_e a' b' ⊕ dot_e a' b' ⊗ dot_e a' b') (dot_e a' a' ⊗ dot_e b' b') tt

pub cauchy-schwarz : (a b : Vector) → (dot a b *ℤ dot a b) ≤ℤ (dot a a *ℤ dot b b)
unfolding dot
cauchy-schwarz a b =
    let a' = vec 0 in let b' = vec 2 in
    prove (components (a ∷ b ∷ [])) [] (dot_e a' b' ⊗ dot_e a' b' ≼ dot_e a' a' ⊗ dot_e b' b') (hyp 0 ⊞ sq (cross_e a' b')) tt

-- points at squared distance 0 are the same
pub apart-0 : (p q : Corner) → dot (p ⇀ q) (p ⇀ q) ≤ℤ pos 0 → p ≡ q
unfolding dot ◌⇀◌
apart-0 p q none =
    let p' = vec 0 in let q' = vec 2 in let a = p' ⇀E q' in λ i. record {
      x = prove (coordinates (p ∷ q ∷ [])) (dot_e a a ≼ O ∷ []) (p'.x ≗ q'.x) (hyp 0 ⊠ hyp 0 ⊞ hyp 1 ⊞ sq a.y) tt none i;
      y = prove (coordinates (p ∷ q ∷ [])) (dot_e a a ≼ O ∷ []) (p'.y ≗ q'.y) (hyp 0 ⊠ hyp 0 ⊞ hyp 1 ⊞ sq a.x) tt none i;
    }

pub distinct-length : (p q : Corner) → p ≢ q → pos 0 <ℤ dot (p ⇀ q) (p ⇀ q)
distinct-length p q other = ≰ℤ-<ℤ (λ none. other (apart-0 p q none))

-- of two vectors that turn left neither is 0
pub turn-length : (d e : Vector) → pos 0 <ℤ cross d e → pos 0 <ℤ dot d d
unfolding cross dot
turn-length d e =
    let d' = vec 0 in let e' = vec 2 in
    prove (components (d ∷ e ∷ [])) (O ≺ cross_e d' e' ∷ []) (O ≺ dot_e d' d')
    (hyp 1 ⊠ hyp 1 ⊞ sq (dot_e d' e') ⊞ hyp 0 ⊠ sq e'.x ⊞ hyp 0 ⊠ sq e'.y) tt

pub cross-length : (d e : Vector) → pos 0 <ℤ cross d e → pos 0 <ℤ dot e e
unfolding cross dot
cross-length d e =
    let d' = vec 0 in let e' = vec 2 in
    prove (components (d ∷ e ∷ [])) (O ≺ cross_e d' e' ∷ []) (O ≺ dot_e e' e')
    (hyp 1 ⊠ hyp 1 ⊞ sq (dot_e d' e') ⊞ hyp 0 ⊠ sq d'.x ⊞ hyp 0 ⊠ sq d'.y) tt

-- The foot of a point v on the edge from p to q, (L p + t (q - p)) / L with L the edge's squared length and t = (v
-- - p)·(q - p).
--     foot                      the point that has n for L
--     foot-left                 it is left of every line that p and q are left of, if t is from 0 to n
--     foot-on-line              it is on the edge's line
--     foot-after, foot-before   it is after p if t is above 0, and before q if t is below n
--     foot-bound                if v is right of the edge, (v - y)·(c - y) is at most 0 for the foot y and any c
--                               left of the edge
use Prim.Native.Nat.{ℕ}
use mathlib.Core.Path.{◌≡◌}
use mathlib.Core.List.{[], ◌∷◌}
use lib.IntN.{ℤ, pos, ◌+ℤ◌, ◌*ℤ◌}
use lib.Signed.{◌≤ℤ◌, ◌<ℤ◌}
use Rattle.integers.proofs.Polynomial.{Expr, var, ◌⊕◌, ◌⊖◌, ◌⊗◌, solve}
use Rattle.integers.proofs.Certificate.{◌≺◌, ◌≼◌, ◌≗◌, hyp, eqn, ◌⊞◌, ◌⊠◌, prove}
use Rattle.plane.specs.declared.Corner.{Corner}
use Rattle.plane.specs.declared.Point.{Point}
use Rattle.plane.specs.Point.{whole, ◌⇢◌}
use Rattle.plane.specs.Vector.{◌⇀◌, cross, dot, side, coordinates}
use Rattle.plane.proofs.Algebra.{VecE, O, vec, cross_e, dot_e, side_e, ◌⇀E◌}
use Rattle.plane.proofs.Points.{PointE, whole_e, ◌⇢E◌}

abbrev pub foot : ℕ → ℤ → Corner → Corner → Point
foot n t p q = record { x = pos n *ℤ p.x +ℤ t *ℤ (p ⇀ q).x; y = pos n *ℤ p.y +ℤ t *ℤ (p ⇀ q).y; lower = n }

-- as expressions: n and t are the variables 0 and 1, and then come the coordinates of p, q and others
abbrev n' : Expr
n' = var 0

abbrev t' : Expr
t' = var 1

abbrev p' : VecE
p' = vec 2

abbrev q' : VecE
q' = vec 4

abbrev a' : VecE
a' = vec 6

abbrev b' : VecE
b' = vec 8

abbrev foot_e : PointE
foot_e = record { x = n' ⊗ p'.x ⊕ t' ⊗ (p' ⇀E q').x; y = n' ⊗ p'.y ⊕ t' ⊗ (p' ⇀E q').y; lower = n' }

module _ (n : ℕ) (t : ℤ) (p q : Corner) where
  pub foot-left : (a b : Corner) → pos 0 <ℤ t → t <ℤ pos n → pos 0 ≤ℤ side a b p → pos 0 ≤ℤ side a b q
      → pos 0 ≤ℤ cross (a ⇀ b) (whole a ⇢ foot n t p q)
  unfolding cross ◌⇀◌ ◌⇢◌
  foot-left a b =
      prove (pos n ∷ t ∷ coordinates (p ∷ q ∷ a ∷ b ∷ [])) (O ≺ t' ∷ t' ≺ n' ∷ O ≼ side_e a' b' p' ∷ O ≼ side_e a' b' q' ∷ [])
      (O ≼ cross_e (a' ⇀E b') (whole_e a' ⇢E foot_e)) (hyp 0 ⊞ hyp 2 ⊠ hyp 3 ⊞ hyp 1 ⊠ hyp 4) tt

  pub foot-on-line : cross (p ⇀ q) (whole p ⇢ foot n t p q) ≡ pos 0
  unfolding cross ◌⇀◌ ◌⇢◌
  foot-on-line = solve (pos n ∷ t ∷ coordinates (p ∷ q ∷ [])) (cross_e (p' ⇀E q') (whole_e p' ⇢E foot_e)) O tt

  pub foot-after : pos 0 <ℤ t → pos 0 <ℤ dot (p ⇀ q) (p ⇀ q) → pos 0 <ℤ dot (p ⇀ q) (whole p ⇢ foot n t p q)
  unfolding dot ◌⇀◌ ◌⇢◌
  foot-after =
      prove (pos n ∷ t ∷ coordinates (p ∷ q ∷ [])) (O ≺ t' ∷ O ≺ dot_e (p' ⇀E q') (p' ⇀E q') ∷ [])
      (O ≺ dot_e (p' ⇀E q') (whole_e p' ⇢E foot_e)) (hyp 0 ⊞ hyp 1 ⊠ hyp 2) tt

  pub foot-before : t <ℤ pos n → pos 0 <ℤ dot (p ⇀ q) (p ⇀ q) → pos 0 <ℤ dot (p ⇀ q) (foot n t p q ⇢ whole q)
  unfolding dot ◌⇀◌ ◌⇢◌
  foot-before =
      prove (pos n ∷ t ∷ coordinates (p ∷ q ∷ [])) (t' ≺ n' ∷ O ≺ dot_e (p' ⇀E q') (p' ⇀E q') ∷ [])
      (O ≺ dot_e (p' ⇀E q') (foot_e ⇢E whole_e q')) (hyp 0 ⊞ hyp 1 ⊠ hyp 2) tt

  -- (v - y)·(c - y), times n², is n times the side numbers of v and c against the edge
  pub foot-bound : (v c : Corner) → pos n ≡ dot (p ⇀ q) (p ⇀ q) → t ≡ dot (p ⇀ v) (p ⇀ q) → pos 0 <ℤ pos n
      → side p q v <ℤ pos 0 → pos 0 ≤ℤ side p q c → dot (foot n t p q ⇢ whole v) (foot n t p q ⇢ whole c) ≤ℤ pos 0
  unfolding cross dot ◌⇀◌ ◌⇢◌
  foot-bound v c =
      let e = p' ⇀E q' in let a = p' ⇀E a' in let b = p' ⇀E b' in
      prove (pos n ∷ t ∷ coordinates (p ∷ q ∷ v ∷ c ∷ []))
      (n' ≗ dot_e e e ∷ t' ≗ dot_e a e ∷ O ≺ n' ∷ cross_e e a ≺ O ∷ O ≼ cross_e e b ∷ [])
      (dot_e (foot_e ⇢E whole_e a') (foot_e ⇢E whole_e b') ≼ O)
      (hyp 0 ⊞ hyp 3 ⊠ hyp 4 ⊠ hyp 5 ⊞ eqn 1 (n' ⊗ dot_e a b ⊖ t' ⊗ t') ⊞ eqn 2 (n' ⊗ t' ⊖ n' ⊗ dot_e b e)) tt

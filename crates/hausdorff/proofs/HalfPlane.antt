-- Squared distances. Seen along v - y a point is behind another if it lies less far in that direction, and ahead if
-- farther.
--     half-plane            if z is not ahead of y, and w not behind v, then w is not nearer to z than v is to y
--     not-ahead             so if w is not farther from z than v is from y, it is not ahead of v
--     gap-zero              points that are not apart have the squared distance 0
use Prim.Native.Nat.{◌≤◌}
use mathlib.Core.Path.{◌≡◌}
use mathlib.Core.List.{List, [], ◌∷◌, ◌++◌}
use native.Mathlib.Omega.{arith}
use lib.Dec.{T}
use lib.IntN.{ℤ, pos}
use lib.Signed.{◌≤ℤ◌}
use Rattle.integers.specs.declared.fraction.Fraction.{Fraction}
use Rattle.integers.specs.Fraction.{NotGreater}
use Rattle.integers.proofs.Polynomial.{var, lit, ◌⊖◌, ◌⊗◌, ⊝◌}
use Rattle.integers.proofs.Certificate.{Claim, ◌≺◌, ◌≼◌, ◌≗◌, Holds, Cert, hyp, num, sq, eqn, ◌⊞◌, ◌⊠◌, proves, prove}
use Rattle.integers.proofs.Reflect.{≤-≤ℤ}
use Rattle.plane.specs.declared.Point.{Point}
use Rattle.plane.specs.Point.{◌⇢◌}
use Rattle.plane.specs.Vector.{dot}
use Rattle.plane.proofs.Algebra.{O, dot_e}
use Rattle.plane.proofs.Points.{pt, ◌⇢E◌, numbers}
use Rattle.nearest.proofs.DistanceLaws.{IsSquaredDistance}

-- |w - z|² - |v - y|² = 2 (v - y)·(w - v) - 2 (v - y)·(z - y) + |(w - v) - (z - y)|², for g = a/k = |v - y|² and h
-- = b/l = |w - z|²
module _ {v y w z : Point} {g h : Fraction} (at_y : IsSquaredDistance v y g) (at-z : IsSquaredDistance w z h)
    (behind : dot (y ⇢ v) (y ⇢ z) ≤ℤ pos 0) where
  -- one certificate serves both ways
  both : (dot (y ⇢ v) (w ⇢ v) ≤ℤ pos 0 → NotGreater g h) × (NotGreater h g → dot (y ⇢ v) (v ⇢ w) ≤ℤ pos 0)
  unfolding dot ◌⇢◌
  both =
      let v' = pt 0 in let y' = pt 3 in let w' = pt 6 in let z' = pt 9 in
      let a = var 12 in let k = var 13 in let b = var 14 in let l = var 15 in
      let q = v'.lower in let r = y'.lower in let s = w'.lower in let t = z'.lower in
      let u = y' ⇢E v' in let d = z' ⇢E w' in let from-v = v' ⇢E w' in let from-y = y' ⇢E z' in
      let env : List ℤ = numbers (v ∷ y ∷ w ∷ z ∷ []) ++ (pos g.upper ∷ pos g.lower ∷ pos h.upper ∷ pos h.lower ∷ []) in
      let known : Claim → List Claim = λ c. a ⊗ (r ⊗ q) ⊗ (r ⊗ q) ≗ dot_e u u ⊗ k ∷ b ⊗ (t ⊗ s) ⊗ (t ⊗ s) ≗ dot_e d d ⊗ l
      ∷ O ≺ k ∷ O ≺ l ∷ O ≺ q ∷ O ≺ r ∷ O ≺ s ∷ O ≺ t ∷ dot_e u from-y ≼ O ∷ c ∷ [] in
      let balance : Cert → Cert → Cert = λ less ahead.
      less ⊠ hyp 5 ⊠ hyp 5 ⊠ hyp 6 ⊠ hyp 6 ⊠ hyp 7 ⊠ hyp 7 ⊠ hyp 8 ⊠ hyp 8 ⊞ hyp 3 ⊠ hyp 4 ⊠
      (num 1 ⊠ ahead ⊠ hyp 6 ⊠ hyp 7 ⊠ hyp 8 ⊠ hyp 8 ⊞ num 1 ⊠ hyp 9 ⊠ hyp 5 ⊠ hyp 7 ⊠ hyp 7 ⊠ hyp 8
      ⊞ sq (from-v.x ⊗ r ⊗ t ⊖ from-y.x ⊗ q ⊗ s) ⊞ sq (from-v.y ⊗ r ⊗ t ⊖ from-y.y ⊗ q ⊗ s))
      ⊞ eqn 1 (l ⊗ s ⊗ s ⊗ t ⊗ t) ⊞ eqn 2 (⊝ (k ⊗ q ⊗ q ⊗ r ⊗ r)) in
      let from : (c goal : Claim) (cert : Cert) → T (proves (known c) goal cert) → Holds env c → Holds env goal = λ c goal cert sound.
      prove env (known c) goal cert sound at_y.equal at-z.equal at_y.lower_positive at-z.lower_positive
      at_y.from_proper at_y.to_proper at-z.from_proper at-z.to_proper behind in (
        λ ahead. (≤-≤ℤ _ _).1 (from (dot_e u (w' ⇢E v') ≼ O) (a ⊗ l ≼ b ⊗ k) (balance (hyp 0) (hyp 10)) tt ahead),
        λ less. from (b ⊗ k ≼ a ⊗ l) (dot_e u from-v ≼ O) (balance (hyp 10) (hyp 0)) tt ((≤-≤ℤ _ _).0 less),
      )

  pub half-plane : dot (y ⇢ v) (w ⇢ v) ≤ℤ pos 0 → NotGreater g h
  half-plane = both.0

  pub not-ahead : NotGreater h g → dot (y ⇢ v) (v ⇢ w) ≤ℤ pos 0
  not-ahead = both.1

-- with a/k for g, and d for |v - y|² times the squares of the lower numbers r and t
pub gap-zero : {v y : Point} {g : Fraction} → IsSquaredDistance v y g → dot (y ⇢ v) (y ⇢ v) ≤ℤ pos 0 → g.upper ≡ 0
gap-zero {v} {y} {g} at_y close =
    let a = var 0 in let k = var 1 in let d = var 2 in let r = var 3 in let t = var 4 in
    let none : g.upper ≤ 0 = (≤-≤ℤ g.upper 0).1 (prove
    (pos g.upper ∷ pos g.lower ∷ dot (y ⇢ v) (y ⇢ v) ∷ pos y.lower ∷ pos v.lower ∷ [])
    (a ⊗ (r ⊗ t) ⊗ (r ⊗ t) ≗ d ⊗ k ∷ O ≺ k ∷ O ≺ r ∷ O ≺ t ∷ d ≼ O ∷ []) (a ≼ O)
    (hyp 0 ⊠ hyp 3 ⊠ hyp 3 ⊠ hyp 4 ⊠ hyp 4 ⊞ hyp 2 ⊠ hyp 5 ⊞ eqn 1 (lit (pos 1))) tt
    at_y.equal at_y.lower_positive at_y.to_proper at_y.from_proper close) in
    omega arith

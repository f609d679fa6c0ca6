-- The order of points from the lowest on, and at one height from the left.
--     not-after-refl, not-after-trans, not-after-both    it is an order
--     lower-test        what the test `is_lower` says
--     level-falls       after an edge that is level and does not go right, one that turns left falls; so where it does not,
--                       there is no such edge, and it may be said to fall
--     lowest-between    at the corner between an edge that falls and one that does not, a point right of neither is not
--                       before the corner
use mathlib.Core.Path.{◌≡◌, refl, sym, ◌∙◌}
use mathlib.Core.Logic.{inl, inr}
use mathlib.Core.Bool.{Bool, true, false, cond}
use mathlib.Core.List.{[], ◌∷◌}
use lib.IntN.{pos}
use lib.Signed.{lt_z, ◌<ℤ◌, ◌≤ℤ◌, ≤ℤ_refl, <ℤ_irrefl, clash_ℤ}
use Rattle.integers.specs.Equal.{eq_z}
use Rattle.integers.proofs.Order.{lt_z-true, lt_z-false, <ℤ-trans, ≤ℤ-trans, ≤ℤ-or-<ℤ, <ℤ-≤ℤ, ≤ℤ-antisym, ≰ℤ-<ℤ}
use Rattle.integers.proofs.Polynomial.{⊝◌}
use Rattle.integers.proofs.Certificate.{◌≺◌, ◌≼◌, ◌≗◌, hyp, eqn, ◌⊞◌, ◌⊠◌, prove}
use Rattle.integers.proofs.Reflect.{test-eq_z, test-false}
use Rattle.plane.specs.declared.Corner.{Corner}
use Rattle.plane.specs.declared.Vector.{Vector}
use Rattle.plane.specs.Height.{NotAfter}
use Rattle.plane.specs.code.Tests.{is_lower}
use Rattle.plane.specs.Vector.{◌⇀◌, cross, side, coordinates}
use Rattle.plane.proofs.Algebra.{O, vec, cross_e, ◌⇀E◌, side_e, components}

-- this is an order of the points of the plane
pub not-after-refl : (p : Corner) → NotAfter p p
not-after-refl p = inr (refl, ≤ℤ_refl _)

pub not-after-trans : (p q r : Corner) → NotAfter p q → NotAfter q r → NotAfter p r
not-after-trans p q r (inl a) (inl b) = inl (<ℤ-trans a b)
not-after-trans p q r (inl a) (inr (b, _)) = inl (rw b at a)
not-after-trans p q r (inr (a, _)) (inl b) = inl (rw a b)
not-after-trans p q r (inr (a, c)) (inr (b, d)) = inr (a ∙ b, ≤ℤ-trans c d)

pub not-after-both : (p q : Corner) → NotAfter p q → NotAfter q p → p ≡ q
not-after-both p q (inl a) (inl b) = clash_ℤ a (<ℤ-≤ℤ b)
not-after-both p q (inl a) (inr (b, _)) = absurd (<ℤ_irrefl (rw b at a))
not-after-both p q (inr (a, _)) (inl b) = absurd (<ℤ_irrefl (rw a at b))
not-after-both p q (inr (a, c)) (inr (_, d)) = λ t. record { x = ≤ℤ-antisym c d t; y = a t }

-- what the code's test says: if it holds p stands first, and if not q
pub lower-test : (p q : Corner) (t : Bool) → is_lower p q ≡ t → NotAfter (cond t p q) (cond t q p)
lower-test p q = go (eq_z p.y q.y) refl
  where
    go : (level : Bool) → eq_z p.y q.y ≡ level
        → (t : Bool) → cond level (lt_z p.x q.x) (lt_z p.y q.y) ≡ t → NotAfter (cond t p q) (cond t q p)
    go true level true holds = inr ((test-eq_z _ _).0 level, <ℤ-≤ℤ (lt_z-true holds))
    go true level false fails = inr (sym ((test-eq_z _ _).0 level), lt_z-false fails)
    go false level true holds = inl (lt_z-true holds)
    go false level false fails =
        inl (≰ℤ-<ℤ (λ above. (test-false _ (test-eq_z p.y q.y)).0 level (≤ℤ-antisym above (lt_z-false fails))))

-- where e is level and does not go right, f, which turns left, would fall
pub level-falls : (e f : Vector) → pos 0 <ℤ cross e f → pos 0 ≤ℤ f.y → e.y ≡ pos 0 → e.x ≤ℤ pos 0 → e.y <ℤ pos 0
unfolding cross
level-falls e f =
    let e' = vec 0 in let f' = vec 2 in
    prove (components (e ∷ f ∷ [])) (O ≺ cross_e e' f' ∷ O ≼ f'.y ∷ e'.y ≗ O ∷ e'.x ≼ O ∷ []) (e'.y ≺ O)
    (hyp 1 ⊞ hyp 2 ⊠ hyp 4 ⊞ eqn 3 (⊝ f'.x)) tt

-- an edge falls from p to c and the next, from c to r, does not: a point right of neither is above c, or level with
-- it and not left of it
pub lowest-between : (p c r v : Corner) → pos 0 <ℤ cross (p ⇀ c) (c ⇀ r) → (p ⇀ c).y <ℤ pos 0 → pos 0 ≤ℤ (c ⇀ r).y
    → pos 0 ≤ℤ side p c v → pos 0 ≤ℤ side c r v → NotAfter c v
unfolding cross ◌⇀◌
lowest-between p c r v turn down up left-p left_r =
    let p' = vec 0 in let c' = vec 2 in let r' = vec 4 in let v' = vec 6 in let e = p' ⇀E c' in
    let not_below : c.y ≤ℤ v.y = prove (coordinates (p ∷ c ∷ r ∷ v ∷ []))
    (O ≺ cross_e e (c' ⇀E r') ∷ e.y ≺ O ∷ O ≼ (c' ⇀E r').y ∷ O ≼ side_e p' c' v' ∷ O ≼ side_e c' r' v' ∷ []) (c'.y ≼ v'.y)
    (hyp 0 ⊠ hyp 1 ⊞ hyp 2 ⊠ hyp 5 ⊞ hyp 3 ⊠ hyp 4) tt turn down up left-p left_r in
    elim (≤ℤ-or-<ℤ v.y c.y) [
      | inl not_above ↦
          let level = ≤ℤ-antisym not_below not_above in
          inr (
            level,
            prove (coordinates (p ∷ c ∷ r ∷ v ∷ [])) (e.y ≺ O ∷ O ≼ side_e p' c' v' ∷ c'.y ≗ v'.y ∷ []) (c'.x ≼ v'.x)
                (hyp 0 ⊠ hyp 1 ⊞ hyp 2 ⊞ eqn 3 (⊝ e.x)) tt down left-p level,
          )
      | inr above ↦ inl above
    ]

-- The tests of a corner and of an edge, and the walk round an outline that they end. An edge is visible where v is
-- strictly right of it.
--     Behind                   seen from c, v is not on the side of b
--     corner-test, edge_test   what the tests say
--     PastEnd, PastStart       an edge is visible and the foot of v on its line is not before its end; not after
--                              its start
--     visible-past             one of these holds of a visible edge whose test fails
--     forth                    at a corner whose test fails, past the end of the edge into it: if the test of the
--                              edge out of it fails too, v is past the end of that edge, and nearer to that end
--                              than to the corner
--     back                     the mirror, from the start of the edge out of a corner to that of the edge into it
--     square-at-start, square-at-end    where the foot of v on an edge is an end, the test of that corner holds
use mathlib.Core.Path.{◌≡◌}
use mathlib.Core.Logic.{◌↔◌, ◌≢◌, ◌⊎◌, inl, inr, ⊎_elim}
use mathlib.Core.Bool.{true, false}
use mathlib.Core.List.{[], ◌∷◌}
use lib.IntN.{pos}
use lib.Signed.{◌≤ℤ◌, ◌<ℤ◌, ≤ℤ_refl, <ℤ_irrefl, clash_ℤ}
use Rattle.integers.proofs.Order.{lt_z-true, <ℤ-lt_z, ≤ℤ-or-<ℤ, ≰ℤ-<ℤ}
use Rattle.integers.proofs.Reflect.{test-false, test-not, test-and, test-le_z}
use Rattle.integers.proofs.Polynomial.{⊝◌}
use Rattle.integers.proofs.Certificate.{◌≺◌, ◌≼◌, ◌≗◌, hyp, sq, eqn, ◌⊞◌, ◌⊠◌, prove}
use Rattle.plane.specs.declared.Corner.{Corner}
use Rattle.plane.specs.declared.Vector.{Vector}
use Rattle.plane.specs.Vector.{◌⇀◌, cross, dot, side, coordinates}
use Rattle.plane.proofs.Algebra.{O, vec, cross_e, dot_e, side_e, ◌⇀E◌, side-end, side-start, side-stop, dot-back}
use Rattle.plane.proofs.Cone.{turn-next, turn-previous}
use Rattle.plane.proofs.Tests.{same_true, is_right-true}
use Rattle.nearest.specs.code.Local.{squared_length, along}
use Rattle.nearest.specs.code.Local.{corner_is_nearest, edge_is_nearest}

abbrev pub Behind : Corner → Corner → Corner → Type 0
Behind v c b = dot (c ⇀ v) (c ⇀ b) ≤ℤ pos 0

pub corner-test : (v before c after : Corner)
    → (corner_is_nearest v before c after ≡ true) ↔ (((c ≢ v) × Behind v c before) × Behind v c after)
corner-test v before c after =
    test-and _ _ (test-and _ _ (test-not _ (same_true c v)) (test-le_z _ _)) (test-le_z _ _)

pub edge_test : (v p q : Corner)
    → (edge_is_nearest v p q ≡ true) ↔ ((side p q v <ℤ pos 0) × ((pos 0 <ℤ along p q v) × (along p q v <ℤ squared_length p q)))
edge_test v p q = test-and _ _ (is_right-true p (p ⇀ q) v) (test-and _ _ (lt_z-true, <ℤ-lt_z) (lt_z-true, <ℤ-lt_z))

pub record PastEnd (v p q : Corner) : Type 0 where
  pub visible : side p q v <ℤ pos 0
  pub behind : Behind v q p

pub record PastStart (v p q : Corner) : Type 0 where
  pub visible : side p q v <ℤ pos 0
  pub behind : Behind v p q

-- the foot of v is not before the edge's end
past-length : (v p q : Corner) → squared_length p q ≤ℤ along p q v → Behind v q p
unfolding dot ◌⇀◌
past-length v p q =
    let v' = vec 0 in let p' = vec 2 in let q' = vec 4 in
    prove (coordinates (v ∷ p ∷ q ∷ [])) (dot_e (p' ⇀E q') (p' ⇀E q') ≼ dot_e (p' ⇀E v') (p' ⇀E q') ∷ [])
    (dot_e (q' ⇀E v') (q' ⇀E p') ≼ O) (hyp 0 ⊞ hyp 1) tt

pub visible-past : (v p q : Corner) → side p q v <ℤ pos 0 → edge_is_nearest v p q ≡ false → Behind v p q ⊎ Behind v q p
visible-past v p q visible fails =
    elim (≤ℤ-or-<ℤ (along p q v) (pos 0)) [
      | inl start ↦ inl start
      | inr after ↦ elim (≤ℤ-or-<ℤ (squared_length p q) (along p q v)) [
        | inl end ↦ inr (past-length v p q end)
        | inr before ↦ absurd ((test-false _ (edge_test v p q)).0 fails (visible, (after, before)))
      ]
    ]

-- an edge is not visible from its ends
not-from-start : (p q : Corner) → ¬ (side p q p <ℤ pos 0)
not-from-start p q visible = <ℤ_irrefl (rw (side-start p q) at visible)

not-from-end : (p q : Corner) → ¬ (side p q q <ℤ pos 0)
not-from-end p q visible = <ℤ_irrefl (rw (side-stop p q) at visible)

-- along an edge the other way round
backward-strict : (d : Vector) (p q : Corner) → pos 0 <ℤ dot d (q ⇀ p) → dot d (p ⇀ q) <ℤ pos 0
unfolding dot ◌⇀◌
backward-strict d p q =
    let d' = vec 0 in let p' = vec 2 in let q' = vec 4 in
    prove (d.x ∷ d.y ∷ coordinates (p ∷ q ∷ [])) (O ≺ dot_e d' (q' ⇀E p') ∷ []) (dot_e d' (p' ⇀E q') ≺ O) (hyp 0 ⊞ hyp 1) tt

-- |v - c|² - |v - a|² is (v - c)·(a - c) - (v - a)·(c - a)
nearer-end : (v c a : Corner) → pos 0 <ℤ dot (c ⇀ v) (c ⇀ a) → Behind v a c → dot (a ⇀ v) (a ⇀ v) <ℤ dot (c ⇀ v) (c ⇀ v)
unfolding dot ◌⇀◌
nearer-end v c a =
    let v' = vec 0 in let c' = vec 2 in let a' = vec 4 in
    prove (coordinates (v ∷ c ∷ a ∷ [])) (O ≺ dot_e (c' ⇀E v') (c' ⇀E a') ∷ dot_e (a' ⇀E v') (a' ⇀E c') ≼ O ∷ [])
    (dot_e (a' ⇀E v') (a' ⇀E v') ≺ dot_e (c' ⇀E v') (c' ⇀E v')) (hyp 0 ⊞ hyp 1 ⊞ hyp 2) tt

-- |f|² (d·e) = (d·f) (e·f) - cross(e,f) cross(f,d) with d from q to v, e from p to q, f from q to r
square-start : (v p q r : Corner) → pos 0 <ℤ cross (p ⇀ q) (q ⇀ r) → side q r v <ℤ pos 0 → along q r v ≡ pos 0 → Behind v q p
unfolding cross dot ◌⇀◌
square-start v p q r =
    let v' = vec 0 in let p' = vec 2 in let q' = vec 4 in let r' = vec 6 in
    let e = p' ⇀E q' in let f = q' ⇀E r' in let d = q' ⇀E v' in
    prove (coordinates (v ∷ p ∷ q ∷ r ∷ [])) (O ≺ cross_e e f ∷ cross_e f d ≺ O ∷ dot_e d f ≗ O ∷ []) (dot_e d (q' ⇀E p') ≼ O)
    (hyp 0 ⊠ sq f.x ⊞ hyp 0 ⊠ sq f.y ⊞ hyp 1 ⊠ hyp 2 ⊞ eqn 3 (⊝ dot_e e f)) tt

square-end : (v p q r : Corner) → pos 0 <ℤ cross (p ⇀ q) (q ⇀ r) → side p q v <ℤ pos 0 → along p q v ≡ squared_length p q → Behind v q r
unfolding cross dot ◌⇀◌
square-end v p q r =
    let v' = vec 0 in let p' = vec 2 in let q' = vec 4 in let r' = vec 6 in
    let e = p' ⇀E q' in let f = q' ⇀E r' in
    prove (coordinates (v ∷ p ∷ q ∷ r ∷ []))
    (O ≺ cross_e e f ∷ side_e p' q' v' ≺ O ∷ dot_e (p' ⇀E v') e ≗ dot_e e e ∷ []) (dot_e (q' ⇀E v') f ≼ O)
    (hyp 0 ⊠ sq e.x ⊞ hyp 0 ⊠ sq e.y ⊞ hyp 1 ⊠ hyp 2 ⊞ eqn 3 (dot_e e f)) tt

-- The foot of v on the edge from q to r is q, so v stands square to the edge there; and the mirror, on the edge
-- from p to q.
module _ (v p q r : Corner) (left : pos 0 <ℤ cross (p ⇀ q) (q ⇀ r)) where
  pub square-at-start : side q r v <ℤ pos 0 → along q r v ≡ pos 0 → (q ≢ v) × Behind v q p × Behind v q r
  square-at-start visible at-start = (
    λ e. not-from-start q r (rw (← e) at visible),
    square-start v p q r left visible at-start,
    rw at-start (≤ℤ_refl (pos 0)),
  )

  pub square-at-end : side p q v <ℤ pos 0 → along p q v ≡ squared_length p q → (q ≢ v) × Behind v q p × Behind v q r
  square-at-end visible at-end = (
    λ e. not-from-end p q (rw (← e) at visible),
    past-length v p q (rw at-end (≤ℤ_refl (squared_length p q))),
    square-end v p q r left visible at-end,
  )

-- a corner q whose test fails, between the edges from p and to r
module _ (v p q r : Corner) (left : pos 0 <ℤ cross (p ⇀ q) (q ⇀ r)) (fails : corner_is_nearest v p q r ≡ false) where
  none : ¬ (((q ≢ v) × Behind v q p) × Behind v q r)
  none = (test-false _ (corner-test v p q r)).0 fails

  pub forth : PastEnd v p q → edge_is_nearest v q r ≡ false → PastEnd v q r × (dot (r ⇀ v) (r ⇀ v) <ℤ dot (q ⇀ v) (q ⇀ v))
  forth past edge-fails =
      let other : q ≢ v = λ e. not-from-end p q (rw (← e) at past.visible) in
      let ahead : pos 0 <ℤ dot (q ⇀ v) (q ⇀ r) = ≰ℤ-<ℤ (λ behind. none ((other, past.behind), behind)) in
      let seen = rw (side-end p q v) at past.visible in
      let visible : side q r v <ℤ pos 0 = turn-next (p ⇀ q) (q ⇀ r) (q ⇀ v) left seen (dot-back (q ⇀ v) q p past.behind) ahead in
      let behind : Behind v r q = ⊎_elim (clash_ℤ ahead) (λ b. b) (visible-past v q r visible edge-fails) in
      (record { visible = visible; behind = behind }, nearer-end v q r ahead behind)

  pub back : PastStart v q r → edge_is_nearest v p q ≡ false → PastStart v p q × (dot (p ⇀ v) (p ⇀ v) <ℤ dot (q ⇀ v) (q ⇀ v))
  back past edge-fails =
      let other : q ≢ v = λ e. not-from-start q r (rw (← e) at past.visible) in
      let ahead : pos 0 <ℤ dot (q ⇀ v) (q ⇀ p) = ≰ℤ-<ℤ (λ behind. none ((other, behind), past.behind)) in
      let turned = turn-previous (p ⇀ q) (q ⇀ r) (q ⇀ v) left past.visible past.behind (backward-strict (q ⇀ v) p q ahead) in
      let visible : side p q v <ℤ pos 0 = rw (side-end p q v) turned in
      let behind : Behind v p q = ⊎_elim (λ b. b) (clash_ℤ ahead) (visible-past v p q visible edge-fails) in
      (record { visible = visible; behind = behind }, nearer-end v q p ahead behind)

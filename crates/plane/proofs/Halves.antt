-- The two half turns, by signs. A half turn is closed at one end only, which signs of products do not show. But for
-- any three vectors there is one just before the positive x axis that has those of the first half on its left and
-- the others on its right.
--     NonZero                  a vector is not 0
--     Half, half               what the test `is_first_half` says
--     first-up                 a vector of the first half does not fall
--     Sign                     above 0 for the first half, below for the second
--     Reference, reference     a vector whose cross products have the signs of three vectors' halves
--     line-halves              two vectors on one line are in the same half exactly where they point the same way
use mathlib.Core.Path.{◌≡◌, refl}
use mathlib.Core.Logic.{◌⊎◌, inl, inr, ◌↔◌}
use mathlib.Core.Bool.{Bool, true, false, ◌&&◌, ◌||◌, true≢false, false≢true}
use mathlib.Core.List.{List, [], ◌∷◌}
use lib.IntN.{ℤ, pos, negsuc, ◌*ℤ◌}
use lib.Signed.{◌≤ℤ◌, ◌<ℤ◌, lt_z, ≤ℤ_refl}
use Rattle.integers.specs.Equal.{eq_z}
use Rattle.integers.proofs.Order.{lt_z-true, lt_z-false, <ℤ-≤ℤ, ≰ℤ-<ℤ, ≤ℤ-antisym}
use Rattle.integers.proofs.Polynomial.{Expr, var, lit, ⊝◌, ◌⊕◌, ◌⊖◌, ◌⊗◌, eval}
use Rattle.integers.proofs.Certificate.{Claim, ◌≺◌, ◌≼◌, ◌≗◌, hyp, tight, num, sq, eqn, ◌⊞◌, ◌⊠◌, prove, refute}
use Rattle.integers.proofs.Reflect.{test-eq_z, test-false}
use Rattle.plane.specs.declared.Vector.{Vector}
use Rattle.plane.specs.Vector.{cross, dot}
use Rattle.plane.specs.Direction.{is_first_half}
use Rattle.plane.proofs.Algebra.{O, vec, cross_e, dot_e, components}

abbrev pub NonZero : Vector → Type 0
NonZero d = pos 0 <ℤ dot d d

-- upward, or level to the right; downward, or level and not to the right
abbrev pub Half : Bool → Vector → Type 0
Half true d = (pos 0 <ℤ d.y) ⊎ ((d.y ≡ pos 0) × (pos 0 <ℤ d.x))
Half false d = (d.y <ℤ pos 0) ⊎ ((d.y ≡ pos 0) × (d.x ≤ℤ pos 0))

pub half : (d : Vector) → Half (is_first_half d) d
unfolding is_first_half
half d = go (lt_z (pos 0) d.y) (eq_z d.y (pos 0)) (lt_z (pos 0) d.x) refl refl refl
  where
    go : (up level right : Bool) → lt_z (pos 0) d.y ≡ up → eq_z d.y (pos 0) ≡ level → lt_z (pos 0) d.x ≡ right
        → Half (up || (level && right)) d
    go true _ _ up _ _ = inl (lt_z-true up)
    go false true true _ level right = inr ((test-eq_z d.y (pos 0)).0 level, lt_z-true right)
    go false true false _ level left = inr ((test-eq_z d.y (pos 0)).0 level, lt_z-false left)
    go false false _ down other _ =
        inl (≰ℤ-<ℤ (λ up. (test-false _ (test-eq_z d.y (pos 0))).0 other (≤ℤ-antisym (lt_z-false down) up)))

pub first-up : (d : Vector) → Half true d → pos 0 ≤ℤ d.y
first-up d (inl up) = <ℤ-≤ℤ up
first-up d (inr (level, _)) = rw level (≤ℤ_refl (pos 0))

abbrev pub Sign : Bool → ℤ → Type 0
Sign true z = pos 0 <ℤ z
Sign false z = z <ℤ pos 0

-- just before the positive x axis, for a large m
abbrev low : ℤ → Vector
low m = record { x = m; y = negsuc 0 }

-- its cross product with the vector of the variables 0 and 1; m is variable 2
abbrev low_e : Expr
low_e = cross_e (record { x = var 2; y = lit (negsuc 0) }) (vec 0)

-- m y + x is above 0 in the first half and below 0 in the second, if m is above the size of x
half-sign : (d : Vector) (m : ℤ) → NonZero d → (d.x *ℤ d.x) <ℤ m → (h : Bool) → Half h d → Sign h (cross (low m) d)
unfolding cross dot
half-sign d m some large true (inl up) =
    prove (d.x ∷ d.y ∷ m ∷ []) (var 0 ⊗ var 0 ≺ var 2 ∷ O ≺ var 1 ∷ []) (O ≺ low_e)
    (num 1 ⊠ (hyp 0 ⊞ tight 1 ⊞ tight 2 ⊠ (hyp 1 ⊞ sq (var 0))) ⊞ sq (var 0) ⊞ sq (var 0 ⊕ lit (pos 1)) ⊞ num 0) tt large up
half-sign d m some large true (inr (level, right)) =
    prove (d.x ∷ d.y ∷ m ∷ []) (var 1 ≗ O ∷ O ≺ var 0 ∷ []) (O ≺ low_e) (hyp 0 ⊞ hyp 2 ⊞ eqn 1 (⊝ var 2)) tt level right
half-sign d m some large false (inl down) =
    prove (d.x ∷ d.y ∷ m ∷ []) (var 0 ⊗ var 0 ≺ var 2 ∷ var 1 ≺ O ∷ []) (low_e ≺ O)
    (num 1 ⊠ (hyp 0 ⊞ tight 1 ⊞ tight 2 ⊠ (hyp 1 ⊞ sq (var 0))) ⊞ sq (var 0) ⊞ sq (var 0 ⊖ lit (pos 1)) ⊞ num 0) tt large down
half-sign d m some large false (inr (level, left)) =
    prove (d.x ∷ d.y ∷ m ∷ []) (O ≺ dot_e (vec 0) (vec 0) ∷ var 1 ≗ O ∷ var 0 ≼ O ∷ []) (low_e ≺ O)
    (hyp 1 ⊞ hyp 0 ⊠ hyp 3 ⊞ eqn 2 (var 1 ⊖ var 2 ⊗ var 0)) tt some level left

-- a vector that tells the halves of three
pub record Reference (e f t : Vector) : Type 0 where
  pub from : Vector
  pub of_e : Sign (is_first_half e) (cross from e)
  pub of_f : Sign (is_first_half f) (cross from f)
  pub of_t : Sign (is_first_half t) (cross from t)

-- m is 1 more than the squares of the three x together
pub reference : (e f t : Vector) → NonZero e → NonZero f → NonZero t → Reference e f t
reference e f t e-some f-some t_some =
    let env : List ℤ = e.x ∷ f.x ∷ t.x ∷ [] in
    let m' = lit (pos 1) ⊕ var 0 ⊗ var 0 ⊕ var 1 ⊗ var 1 ⊕ var 2 ⊗ var 2 in
    let m = eval env m' in
    record {
      from = low m;
      of_e = half-sign e m e-some (prove env [] (var 0 ⊗ var 0 ≺ m') (hyp 0 ⊞ num 0 ⊞ sq (var 1) ⊞ sq (var 2)) tt) (is_first_half e) (half e);
      of_f = half-sign f m f-some (prove env [] (var 1 ⊗ var 1 ≺ m') (hyp 0 ⊞ num 0 ⊞ sq (var 0) ⊞ sq (var 2)) tt) (is_first_half f) (half f);
      of_t = half-sign t m t_some (prove env [] (var 2 ⊗ var 2 ≺ m') (hyp 0 ⊞ num 0 ⊞ sq (var 0) ⊞ sq (var 1)) tt) (is_first_half t) (half t);
    }

-- |d|² times cross r e is dot d e times cross r d, for d and e on one line. So e lies on the side of r where d lies
-- exactly where it points the same way.
module _ (r d e : Vector) (some : NonZero d) (line : cross d e ≡ pos 0) where
  abbrev d' : Expr
  d' = cross_e (vec 0) (vec 2)

  abbrev e' : Expr
  e' = cross_e (vec 0) (vec 4)

  abbrev ahead' : Expr
  ahead' = dot_e (vec 2) (vec 4)

  -- what is known, and where d and e lie
  abbrev known : Claim → Claim → List Claim
  known d-side e-side = O ≺ dot_e (vec 2) (vec 2) ∷ cross_e (vec 2) (vec 4) ≗ O ∷ d-side ∷ e-side ∷ []

  line-signs : (h k : Bool) → Sign h (cross r d) → Sign k (cross r e) → (h ≡ k) ↔ (pos 0 <ℤ dot d e)
  unfolding cross dot
  line-signs true true a b = (
    λ _. prove (components (r ∷ d ∷ e ∷ [])) (known (O ≺ d') (O ≺ e')) (O ≺ ahead')
        (hyp 0 ⊠ hyp 3 ⊞ hyp 1 ⊠ hyp 4 ⊞ eqn 2 (dot_e (vec 0) (vec 2))) tt some line a b,
    λ _. refl,
  )
  line-signs true false a b = (
    λ never. absurd (true≢false never),
    λ ahead. absurd (refute (components (r ∷ d ∷ e ∷ [])) (O ≺ ahead' ∷ known (O ≺ d') (e' ≺ O))
        (hyp 0 ⊠ hyp 3 ⊞ hyp 1 ⊠ hyp 4 ⊞ eqn 2 (⊝ dot_e (vec 0) (vec 2))) tt ahead some line a b),
  )
  line-signs false true a b = (
    λ never. absurd (false≢true never),
    λ ahead. absurd (refute (components (r ∷ d ∷ e ∷ [])) (O ≺ ahead' ∷ known (d' ≺ O) (O ≺ e'))
        (hyp 0 ⊠ hyp 3 ⊞ hyp 1 ⊠ hyp 4 ⊞ eqn 2 (dot_e (vec 0) (vec 2))) tt ahead some line a b),
  )
  line-signs false false a b = (
    λ _. prove (components (r ∷ d ∷ e ∷ [])) (known (d' ≺ O) (e' ≺ O)) (O ≺ ahead')
        (hyp 0 ⊠ hyp 3 ⊞ hyp 1 ⊠ hyp 4 ⊞ eqn 2 (⊝ dot_e (vec 0) (vec 2))) tt some line a b,
    λ _. refl,
  )

pub line-halves : (d e : Vector) → NonZero d → NonZero e → cross d e ≡ pos 0 → (is_first_half d ≡ is_first_half e) ↔ (pos 0 <ℤ dot d e)
line-halves d e d-some e-some line =
    let seen = reference d e e d-some e-some e-some in
    line-signs seen.from d e d-some line (is_first_half d) (is_first_half e) seen.of_e seen.of_f

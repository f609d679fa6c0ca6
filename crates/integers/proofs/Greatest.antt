-- The greatest of finitely many places, under a relation that is total and transitive.
--     Greatest    a place below n that is over every place below n
--     greatest    there is one, unless n is 0
use Prim.Native.Nat.{ℕ, zero, suc, ◌<◌}
use mathlib.Core.Logic.{◌⊎◌, inl, inr, ⊎_elim}
use native.Mathlib.Decide.{ℕ_discrete}
use native.Mathlib.Omega.{arith}

pub record Greatest (Over : ℕ → ℕ → Type 0) (n : ℕ) : Type 0 where
  pub place : ℕ
  pub below : place < n
  pub over : (i : ℕ) → i < n → Over place i

module _ (Over : ℕ → ℕ → Type 0) (total : (i j : ℕ) → Over i j ⊎ Over j i) (trans : (i j k : ℕ) → Over i j → Over j k → Over i k) where
  -- what is over all below n is over all below n + 1 if it is over n
  one_more : (n place : ℕ) → ((i : ℕ) → i < n → Over place i) → Over place n → (i : ℕ) → i < suc n → Over place i
  one_more n place earlier last i below = elim (ℕ_discrete i n) [ yes e ↦ rw e last | no other ↦ earlier i (omega arith) ]

  -- n is over all below n + 1 if it is over all below n
  last-over : (n : ℕ) → ((i : ℕ) → i < n → Over n i) → Greatest Over (suc n)
  last-over n earlier = record { place = n; below = omega arith; over = one_more n n earlier (⊎_elim (λ p. p) (λ p. p) (total n n)) }

  -- by trying one more at a time
  pub greatest : (n : ℕ) → 0 < n → Greatest Over n
  greatest zero nonempty = absurd (omega arith)
  greatest (suc zero) nonempty = last-over 0 (λ i none. absurd (omega arith))
  greatest (suc (suc n)) nonempty =
      let best = greatest (suc n) (omega arith) in
      elim (total best.place (suc n)) [
        | inl over ↦ record { place = best.place; below = omega arith; over = one_more (suc n) best.place best.over over }
        | inr under ↦ last-over (suc n) (λ i below. trans (suc n) best.place i under (best.over i below))
      ]

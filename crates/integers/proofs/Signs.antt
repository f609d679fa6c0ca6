-- Signs of a product by a number k above 0.
--     factor-pos, factor-nonneg, factor-zero    the other factor has the product's sign
--     product-nonpos                            the product has the other factor's sign
use mathlib.Core.Path.{◌≡◌}
use mathlib.Core.List.{[], ◌∷◌}
use lib.IntN.{ℤ, pos, ◌*ℤ◌}
use lib.Signed.{◌≤ℤ◌, ◌<ℤ◌}
use Rattle.integers.proofs.Polynomial.{Expr, var, lit, ◌⊗◌}
use Rattle.integers.proofs.Certificate.{◌≺◌, ◌≼◌, ◌≗◌, hyp, eqn, ◌⊞◌, ◌⊠◌, prove}

abbrev O : Expr
O = lit (pos 0)

module _ {k z : ℤ} where
  pub factor-pos : pos 0 <ℤ k → pos 0 <ℤ (k *ℤ z) → pos 0 <ℤ z
  factor-pos = prove (k ∷ z ∷ []) (O ≺ var 0 ∷ O ≺ var 0 ⊗ var 1 ∷ []) (O ≺ var 1) (hyp 0 ⊠ hyp 1 ⊞ hyp 2) tt

  pub factor-nonneg : pos 0 <ℤ k → pos 0 ≤ℤ (k *ℤ z) → pos 0 ≤ℤ z
  factor-nonneg = prove (k ∷ z ∷ []) (O ≺ var 0 ∷ O ≼ var 0 ⊗ var 1 ∷ []) (O ≼ var 1) (hyp 0 ⊠ hyp 1 ⊞ hyp 2) tt

  pub factor-zero : pos 0 <ℤ k → k *ℤ z ≡ pos 0 → z ≡ pos 0
  factor-zero = prove (k ∷ z ∷ []) (O ≺ var 0 ∷ var 0 ⊗ var 1 ≗ O ∷ []) (var 1 ≗ O) (hyp 0 ⊠ hyp 1 ⊞ eqn 2 (lit (pos 1))) tt

  pub product-nonpos : pos 0 <ℤ k → z ≤ℤ pos 0 → (k *ℤ z) ≤ℤ pos 0
  product-nonpos = prove (k ∷ z ∷ []) (O ≺ var 0 ∷ var 1 ≼ O ∷ []) (var 0 ⊗ var 1 ≼ O) (hyp 0 ⊞ hyp 1 ⊠ hyp 2) tt

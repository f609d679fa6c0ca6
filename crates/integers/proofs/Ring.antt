-- The ring of the integers, as far as `lib.IntN` lacks it. ℤ is that of `lib.IntN`.
--   ℤ-steps             induction by one up and one down
--   *ℤ-distrib-+ℤ, +ℤ-distrib-*ℤ   the product distributes over the sum, on either side
--   *ℤ-assoc, one-*ℤ    the product is associative, and 1 is neutral
--   *ℤ-negℤ, negℤ-*ℤ    a negation moves out of a factor
--   +ℤ-left, *ℤ-left, +ℤ-swap      two of three or four change places
-- A polynomial identity is one line by `solve` of `Polynomial.antt`; these laws are what that rests on.
use mathlib.Core.Path.{◌≡◌, sym, ◌∙◌, ap, ap₂}
use Prim.Native.Nat.{zero, suc}
use lib.IntN.{ℤ, pos, negsuc, suc_ℤ, pred_ℤ, neg_ℤ, ◌+ℤ◌, ◌-ℤ◌, ◌*ℤ◌}
use lib.IntN.{+ℤ_idl, +ℤ_assoc, +ℤ_comm, +ℤ_invr, neg_ℤ-+ℤ, zero-*ℤ, *ℤ-zero, suc_ℤ-*ℤ, pred_ℤ-*ℤ, *ℤ_comm, +ℤ-neg_ℤ_cancel}

pub ℤ-steps : (P : ℤ → Type 0) → P (pos zero) → ((k : ℤ) → P k → P (suc_ℤ k)) → ((k : ℤ) → P k → P (pred_ℤ k)) → (k : ℤ) → P k
ℤ-steps P z s p (pos zero) = z
ℤ-steps P z s p (pos (suc n)) = s (pos n) (ℤ-steps P z s p (pos n))
ℤ-steps P z s p (negsuc zero) = p (pos zero) z
ℤ-steps P z s p (negsuc (suc n)) = p (negsuc n) (ℤ-steps P z s p (negsuc n))

-- the first two of three summands change places
pub +ℤ-left : (a b c : ℤ) → a +ℤ (b +ℤ c) ≡ b +ℤ (a +ℤ c)
+ℤ-left a b c = sym (+ℤ_assoc a b c) ∙ ap (λ x. x +ℤ c) (+ℤ_comm a b) ∙ +ℤ_assoc b a c

-- the middle two of four summands change places
pub +ℤ-swap : (a b c d : ℤ) → (a +ℤ b) +ℤ (c +ℤ d) ≡ (a +ℤ c) +ℤ (b +ℤ d)
+ℤ-swap a b c d =
    +ℤ_assoc a b (c +ℤ d) ∙ ap (λ x. a +ℤ x) (+ℤ-left b c d) ∙ sym (+ℤ_assoc a c (b +ℤ d))

pub *ℤ-distrib-+ℤ : (a b c : ℤ) → a *ℤ (b +ℤ c) ≡ a *ℤ b +ℤ a *ℤ c
*ℤ-distrib-+ℤ a b c = ℤ-steps (λ a. a *ℤ (b +ℤ c) ≡ a *ℤ b +ℤ a *ℤ c)
    (zero-*ℤ (b +ℤ c) ∙ sym (ap (λ x. x +ℤ pos zero *ℤ c) (zero-*ℤ b) ∙ +ℤ_idl (pos zero *ℤ c) ∙ zero-*ℤ c))
    (λ a h. suc_ℤ-*ℤ a (b +ℤ c) ∙ ap (λ x. x +ℤ (b +ℤ c)) h ∙ +ℤ-swap (a *ℤ b) (a *ℤ c) b c
    ∙ sym (ap₂ ◌+ℤ◌ (suc_ℤ-*ℤ a b) (suc_ℤ-*ℤ a c)))
    (λ a h. pred_ℤ-*ℤ a (b +ℤ c) ∙ ap₂ ◌+ℤ◌ h (neg_ℤ-+ℤ b c) ∙ +ℤ-swap (a *ℤ b) (a *ℤ c) (neg_ℤ b) (neg_ℤ c)
    ∙ sym (ap₂ ◌+ℤ◌ (pred_ℤ-*ℤ a b) (pred_ℤ-*ℤ a c)))
    a

pub +ℤ-distrib-*ℤ : (a b c : ℤ) → (a +ℤ b) *ℤ c ≡ a *ℤ c +ℤ b *ℤ c
+ℤ-distrib-*ℤ a b c = *ℤ_comm (a +ℤ b) c ∙ *ℤ-distrib-+ℤ c a b ∙ ap₂ ◌+ℤ◌ (*ℤ_comm c a) (*ℤ_comm c b)

negℤ-unique : (a b : ℤ) → a +ℤ b ≡ pos zero → b ≡ neg_ℤ a
negℤ-unique a b h = sym (+ℤ-neg_ℤ_cancel b a) ∙ ap (λ x. x -ℤ a) (+ℤ_comm b a ∙ h) ∙ +ℤ_idl (neg_ℤ a)

-- a negation moves out of a factor
pub *ℤ-negℤ : (a b : ℤ) → a *ℤ neg_ℤ b ≡ neg_ℤ (a *ℤ b)
*ℤ-negℤ a b = negℤ-unique (a *ℤ b) (a *ℤ neg_ℤ b)
    (sym (*ℤ-distrib-+ℤ a b (neg_ℤ b)) ∙ ap (λ x. a *ℤ x) (+ℤ_invr b) ∙ *ℤ-zero a)

pub negℤ-*ℤ : (a b : ℤ) → neg_ℤ a *ℤ b ≡ neg_ℤ (a *ℤ b)
negℤ-*ℤ a b = *ℤ_comm (neg_ℤ a) b ∙ *ℤ-negℤ b a ∙ ap neg_ℤ (*ℤ_comm b a)

pub *ℤ-assoc : (a b c : ℤ) → (a *ℤ b) *ℤ c ≡ a *ℤ (b *ℤ c)
*ℤ-assoc a b c = ℤ-steps (λ a. (a *ℤ b) *ℤ c ≡ a *ℤ (b *ℤ c))
    (ap (λ x. x *ℤ c) (zero-*ℤ b) ∙ zero-*ℤ c ∙ sym (zero-*ℤ (b *ℤ c)))
    (λ a h. ap (λ x. x *ℤ c) (suc_ℤ-*ℤ a b) ∙ +ℤ-distrib-*ℤ (a *ℤ b) b c ∙ ap (λ x. x +ℤ b *ℤ c) h ∙ sym (suc_ℤ-*ℤ a (b *ℤ c)))
    (λ a h. ap (λ x. x *ℤ c) (pred_ℤ-*ℤ a b) ∙ +ℤ-distrib-*ℤ (a *ℤ b) (neg_ℤ b) c ∙ ap₂ ◌+ℤ◌ h (negℤ-*ℤ b c) ∙ sym (pred_ℤ-*ℤ a (b *ℤ c)))
    a

pub one-*ℤ : (a : ℤ) → pos 1 *ℤ a ≡ a
one-*ℤ a = suc_ℤ-*ℤ (pos zero) a ∙ ap (λ x. x +ℤ a) (zero-*ℤ a) ∙ +ℤ_idl a

pub *ℤ-left : (a b c : ℤ) → a *ℤ (b *ℤ c) ≡ b *ℤ (a *ℤ c)
*ℤ-left a b c = sym (*ℤ-assoc a b c) ∙ ap (λ x. x *ℤ c) (*ℤ_comm a b) ∙ *ℤ-assoc b a c

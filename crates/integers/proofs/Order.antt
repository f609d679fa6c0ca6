-- The order of the integers, as far as `lib.Signed` lacks it. Its tests `le_z` and `lt_z` keep their value when both
-- sides move by one number (`le_z-+ℤ`); most of the rest follows from that.
--   le_z-true le_z-false lt_z-true lt_z-false   what a test says
--   ≤ℤ-le_z ≤ℤ-lt_z <ℤ-lt_z <ℤ-le_z            and back: the test passes, or the one the other way round fails
--   le_z-not                                 one test fails where the other passes
--   ≤ℤ-or-<ℤ ≮ℤ-≤ℤ ≰ℤ-<ℤ                    the order is total
--   ≤ℤ-trans <ℤ-trans ≤ℤ-<ℤ-trans <ℤ-≤ℤ ≤ℤ-antisym
--   <ℤ-sucℤ sucℤ-<ℤ                         a < b is a + 1 ≤ b
--   ≤ℤ-sub <ℤ-sub sub-<ℤ                    an order is the sign of the difference
--   +ℤ-mono-≤ +ℤ-mono-<-≤ +ℤ-mono-≤-<       sums keep the order
--   *ℤ-nonneg *ℤ-pos square-nonneg          signs of products
--   nat_abs-nonneg                           a number that is not negative is its own size
-- Any other consequence of orders is one line by `prove` of `Certificate.antt`.
use mathlib.Core.Path.{◌≡◌, refl, sym, ◌∙◌, ap, ap₂, subst, subst₂}
use mathlib.Core.Logic.{◌⊎◌, inl, inr}
use mathlib.Core.Bool.{Bool, true, false, not}
use Prim.Native.Nat.{ℕ, zero, suc, ◌*◌}
use native.Mathlib.Nat.{le_antisymm, le_of_lt, mul-pos}
use lib.Dec.{T, leb, ltb, leb→le, le→leb, lt→ltb, ltb→lt, leb-zero, leb-suc-zero, leb-suc-suc}
use lib.IntN.{ℤ, pos, negsuc, suc_ℤ, pred_ℤ, neg_ℤ, nat_abs, ◌+ℤ◌, ◌-ℤ◌, ◌*ℤ◌}
use lib.IntN.{suc-pred, +ℤ_idl, +ℤ_idr, +ℤ-suc_ℤ, +ℤ-pred_ℤ, +ℤ_comm, +ℤ_assoc, +ℤ_invr, +ℤ_one, -ℤ-+ℤ_cancel}
use borrow.Author.Tests.{not-true, not-false}
use lib.Signed.{le_z, lt_z, ◌≤ℤ◌, ◌<ℤ◌, ≤ℤ_refl, <ℤ-≤ℤ_trans, <ℤ_irrefl, yes_non_neg, pos-nat_abs}
use Rattle.integers.proofs.Ring.{ℤ-steps}

-- ---- the tests

-- a < b is a + 1 ≤ b
lt_z-le_z : (a b : ℤ) → lt_z a b ≡ le_z (suc_ℤ a) b
lt_z-le_z (pos a) (pos b) = refl
lt_z-le_z (pos a) (negsuc b) = refl
lt_z-le_z (negsuc zero) (pos b) = sym (leb-zero b)
lt_z-le_z (negsuc zero) (negsuc b) = leb-suc-zero b
lt_z-le_z (negsuc (suc a)) (pos b) = refl
lt_z-le_z (negsuc (suc a)) (negsuc b) = leb-suc-suc b a

-- one test fails where the other passes
leb-not : (a b : ℕ) → leb a b ≡ not (ltb b a)
leb-not zero b = leb-zero b ∙ sym (ap not (leb-suc-zero b))
leb-not (suc a) zero = leb-suc-zero a ∙ sym (ap not (leb-suc-suc zero a ∙ leb-zero a))
leb-not (suc a) (suc b) = leb-suc-suc a b ∙ leb-not a b ∙ sym (ap not (leb-suc-suc (suc b) a))

pub le_z-not : (a b : ℤ) → le_z a b ≡ not (lt_z b a)
le_z-not (pos a) (pos b) = leb-not a b
le_z-not (pos a) (negsuc b) = refl
le_z-not (negsuc a) (pos b) = refl
le_z-not (negsuc a) (negsuc b) = leb-not b a

le_z-sucℤ : (a b : ℤ) → le_z (suc_ℤ a) (suc_ℤ b) ≡ le_z a b
le_z-sucℤ (pos a) (pos b) = leb-suc-suc a b
le_z-sucℤ (pos a) (negsuc zero) = leb-suc-zero a
le_z-sucℤ (pos a) (negsuc (suc b)) = refl
le_z-sucℤ (negsuc zero) (pos b) = leb-zero (suc b)
le_z-sucℤ (negsuc zero) (negsuc zero) = refl
le_z-sucℤ (negsuc zero) (negsuc (suc b)) = sym (leb-suc-zero b)
le_z-sucℤ (negsuc (suc a)) (pos b) = refl
le_z-sucℤ (negsuc (suc a)) (negsuc zero) = sym (leb-zero (suc a))
le_z-sucℤ (negsuc (suc a)) (negsuc (suc b)) = sym (leb-suc-suc b a)

le_z-+ℤ : (a b c : ℤ) → le_z (a +ℤ c) (b +ℤ c) ≡ le_z a b
le_z-+ℤ a b c = ℤ-steps (λ c. le_z (a +ℤ c) (b +ℤ c) ≡ le_z a b)
    (ap₂ le_z (+ℤ_idr a) (+ℤ_idr b))
    (λ c h. ap₂ le_z (+ℤ-suc_ℤ a c) (+ℤ-suc_ℤ b c) ∙ le_z-sucℤ (a +ℤ c) (b +ℤ c) ∙ h)
    (λ c h. ap₂ le_z (+ℤ-pred_ℤ a c) (+ℤ-pred_ℤ b c) ∙ sym (le_z-sucℤ (pred_ℤ (a +ℤ c)) (pred_ℤ (b +ℤ c)))
    ∙ ap₂ le_z (suc-pred (a +ℤ c)) (suc-pred (b +ℤ c)) ∙ h)
    c

-- ---- a test and its meaning, each way

pub le_z-true : {a b : ℤ} → le_z a b ≡ true → a ≤ℤ b
le_z-true e = record { le = subst T (sym e) tt }

pub lt_z-true : {a b : ℤ} → lt_z a b ≡ true → a <ℤ b
lt_z-true e = record { lt = subst T (sym e) tt }

pub le_z-false : {a b : ℤ} → le_z a b ≡ false → b <ℤ a
le_z-false {a} {b} e = lt_z-true (not-false (lt_z b a) (sym (le_z-not a b) ∙ e))

pub lt_z-false : {a b : ℤ} → lt_z a b ≡ false → b ≤ℤ a
lt_z-false {a} {b} e = le_z-true (le_z-not b a ∙ ap not e)

T_true : (b : Bool) → T b → b ≡ true
T_true true t = refl
T_true false t = absurd t

pub ≤ℤ-le_z : {a b : ℤ} → a ≤ℤ b → le_z a b ≡ true
≤ℤ-le_z {a} {b} h = T_true (le_z a b) h.le

pub <ℤ-lt_z : {a b : ℤ} → a <ℤ b → lt_z a b ≡ true
<ℤ-lt_z {a} {b} h = T_true (lt_z a b) h.lt

-- the test the other way round fails
pub <ℤ-le_z : {a b : ℤ} → a <ℤ b → le_z b a ≡ false
<ℤ-le_z {a} {b} h = le_z-not b a ∙ ap not (<ℤ-lt_z h)

pub ≤ℤ-lt_z : {a b : ℤ} → a ≤ℤ b → lt_z b a ≡ false
≤ℤ-lt_z {a} {b} h = not-true (lt_z b a) (sym (le_z-not a b) ∙ ≤ℤ-le_z h)

-- ---- the order

pub ≤ℤ-or-<ℤ : (a b : ℤ) → (a ≤ℤ b) ⊎ (b <ℤ a)
≤ℤ-or-<ℤ a b = go (le_z a b) refl
  where
    go : (t : Bool) → le_z a b ≡ t → (a ≤ℤ b) ⊎ (b <ℤ a)
    go true e = inl (le_z-true e)
    go false e = inr (le_z-false e)

pub ≮ℤ-≤ℤ : {a b : ℤ} → ¬ (a <ℤ b) → b ≤ℤ a
≮ℤ-≤ℤ {a} {b} f = elim (≤ℤ-or-<ℤ b a) [ inl h ↦ h | inr h ↦ absurd (f h) ]

pub ≰ℤ-<ℤ : {a b : ℤ} → ¬ (a ≤ℤ b) → b <ℤ a
≰ℤ-<ℤ {a} {b} f = elim (≤ℤ-or-<ℤ a b) [ inl h ↦ absurd (f h) | inr h ↦ h ]

-- a < b and a + 1 ≤ b
pub <ℤ-sucℤ : {a b : ℤ} → a <ℤ b → (a +ℤ pos 1) ≤ℤ b
<ℤ-sucℤ {a} {b} h = le_z-true (ap (λ x. le_z x b) (+ℤ_one a) ∙ sym (lt_z-le_z a b) ∙ <ℤ-lt_z h)

pub sucℤ-<ℤ : {a b : ℤ} → (a +ℤ pos 1) ≤ℤ b → a <ℤ b
sucℤ-<ℤ {a} {b} h = lt_z-true (lt_z-le_z a b ∙ ap (λ x. le_z x b) (sym (+ℤ_one a)) ∙ ≤ℤ-le_z h)

pub ≤ℤ-trans : {a b c : ℤ} → a ≤ℤ b → b ≤ℤ c → a ≤ℤ c
≤ℤ-trans h k = ≮ℤ-≤ℤ (λ l. <ℤ_irrefl (<ℤ-≤ℤ_trans (<ℤ-≤ℤ_trans l h) k))

pub ≤ℤ-<ℤ-trans : {a b c : ℤ} → a ≤ℤ b → b <ℤ c → a <ℤ c
≤ℤ-<ℤ-trans h k = ≰ℤ-<ℤ (λ l. <ℤ_irrefl (<ℤ-≤ℤ_trans k (≤ℤ-trans l h)))

pub <ℤ-≤ℤ : {a b : ℤ} → a <ℤ b → a ≤ℤ b
<ℤ-≤ℤ {a} {b} h = record { le = test a b h.lt }
  where
    test : (a b : ℤ) → T (lt_z a b) → T (le_z a b)
    test (pos a) (pos b) t = le→leb a b (le_of_lt (ltb→lt a b t))
    test (pos a) (negsuc b) t = t
    test (negsuc a) (pos b) t = t
    test (negsuc a) (negsuc b) t = le→leb b a (le_of_lt (ltb→lt b a t))

pub <ℤ-trans : {a b c : ℤ} → a <ℤ b → b <ℤ c → a <ℤ c
<ℤ-trans h k = <ℤ-≤ℤ_trans h (<ℤ-≤ℤ k)

pub ≤ℤ-antisym : {a b : ℤ} → a ≤ℤ b → b ≤ℤ a → a ≡ b
≤ℤ-antisym {a} {b} h k = test a b h.le k.le
  where
    test : (a b : ℤ) → T (le_z a b) → T (le_z b a) → a ≡ b
    test (pos a) (pos b) s t = ap pos (le_antisymm (leb→le a b s) (leb→le b a t))
    test (pos a) (negsuc b) s t = absurd s
    test (negsuc a) (pos b) s t = absurd t
    test (negsuc a) (negsuc b) s t = ap negsuc (le_antisymm (leb→le a b t) (leb→le b a s))

-- ---- sums and differences

pub +ℤ-mono-≤ : {a b c d : ℤ} → a ≤ℤ b → c ≤ℤ d → (a +ℤ c) ≤ℤ (b +ℤ d)
+ℤ-mono-≤ {a} {b} {c} {d} h k =
    ≤ℤ-trans (le_z-true (le_z-+ℤ a b c ∙ ≤ℤ-le_z h)) (le_z-true (ap₂ le_z (+ℤ_comm b c) (+ℤ_comm b d) ∙ le_z-+ℤ c d b ∙ ≤ℤ-le_z k))

pub +ℤ-mono-<-≤ : {a b c d : ℤ} → a <ℤ b → c ≤ℤ d → (a +ℤ c) <ℤ (b +ℤ d)
+ℤ-mono-<-≤ {a} {b} {c} {d} h k =
    sucℤ-<ℤ
    (subst (λ x. x ≤ℤ (b +ℤ d)) (+ℤ_assoc a (pos 1) c ∙ ap (λ x. a +ℤ x) (+ℤ_comm (pos 1) c) ∙ sym (+ℤ_assoc a c (pos 1))) (+ℤ-mono-≤ (<ℤ-sucℤ h) k))

pub +ℤ-mono-≤-< : {a b c d : ℤ} → a ≤ℤ b → c <ℤ d → (a +ℤ c) <ℤ (b +ℤ d)
+ℤ-mono-≤-< {a} {b} {c} {d} h k = subst₂ ◌<ℤ◌ (+ℤ_comm c a) (+ℤ_comm d b) (+ℤ-mono-<-≤ k h)

-- an order is the sign of a difference
pub ≤ℤ-sub : {a b : ℤ} → a ≤ℤ b → pos 0 ≤ℤ (b -ℤ a)
≤ℤ-sub {a} {b} h = subst (λ x. x ≤ℤ (b -ℤ a)) (+ℤ_invr a) (+ℤ-mono-≤ h (≤ℤ_refl (neg_ℤ a)))

pub <ℤ-sub : {a b : ℤ} → a <ℤ b → pos 0 <ℤ (b -ℤ a)
<ℤ-sub {a} {b} h = subst (λ x. x <ℤ (b -ℤ a)) (+ℤ_invr a) (+ℤ-mono-<-≤ h (≤ℤ_refl (neg_ℤ a)))

pub sub-<ℤ : {a b : ℤ} → pos 0 <ℤ (b -ℤ a) → a <ℤ b
sub-<ℤ {a} {b} h = subst₂ ◌<ℤ◌ (+ℤ_idl a) (-ℤ-+ℤ_cancel b a) (+ℤ-mono-<-≤ h (≤ℤ_refl a))

-- ---- signs of products

pub *ℤ-nonneg : {a b : ℤ} → pos 0 ≤ℤ a → pos 0 ≤ℤ b → pos 0 ≤ℤ (a *ℤ b)
*ℤ-nonneg {a = pos a} {b = pos b} h k = le_z-true (leb-zero (a * b))
*ℤ-nonneg {a = pos a} {b = negsuc b} h k = absurd k.le
*ℤ-nonneg {a = negsuc a} {b} h k = absurd h.le

pub *ℤ-pos : {a b : ℤ} → pos 0 <ℤ a → pos 0 <ℤ b → pos 0 <ℤ (a *ℤ b)
*ℤ-pos {a = pos a} {b = pos b} h k = record { lt = lt→ltb 0 (a * b) (mul-pos (ltb→lt 0 a h.lt) (ltb→lt 0 b k.lt)) }
*ℤ-pos {a = pos a} {b = negsuc b} h k = absurd k.lt
*ℤ-pos {a = negsuc a} {b} h k = absurd h.lt

pub square-nonneg : (a : ℤ) → pos 0 ≤ℤ (a *ℤ a)
square-nonneg (pos a) = le_z-true (leb-zero (a * a))
square-nonneg (negsuc a) = le_z-true (leb-zero (suc a * suc a))

-- ---- sizes

pub nat_abs-nonneg : {z : ℤ} → pos 0 ≤ℤ z → pos (nat_abs z) ≡ z
nat_abs-nonneg {z} h = pos-nat_abs z (yes_non_neg h)

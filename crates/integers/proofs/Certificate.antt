-- Orders that follow from orders, by a sign certificate: a sum of products of hypotheses, squares and numerals
-- which is the polynomial 0 although one summand is above 0, so that the hypotheses cannot hold together.
--   Claim: ◌≺◌ ◌≼◌ ◌≗◌   order or equation of two expressions; they bind tighter than ∷
--   Cert: hyp i          right side less left side of hypothesis i
--         tight i        the same less 1, of a strict hypothesis
--         num n          the numeral n + 1
--         sq e           the square of an expression
--         eqn i e        equation i, right side less left side, times any expression
--         ◌⊠◌ ◌⊞◌        products and sums
--   refute env hyps cert tt       ⊥, given a proof of each hypothesis; they count from 0
-- prove env hyps goal cert tt   the goal, given a proof of each hypothesis; hypothesis 0 is the goal's opposite,
-- and yours
--                                 count from 1. For a goal l ≗ r from equations the certificate is that of l ≼ r
-- A proof of each hypothesis goes behind `tt` as one more argument, or stays an argument of the lemma that is
-- proved so.
use mathlib.Core.Path.{◌≡◌, refl, sym, ◌∙◌, ap, subst}
use mathlib.Core.Bool.{Bool, true, false, ◌&&◌, ◌||◌}
use mathlib.Core.List.{List, [], ◌∷◌}
use Prim.Native.Nat.{ℕ, zero, suc}
use native.Mathlib.Nat.{zero-lt-suc}
use lib.Dec.{T, lt→ltb}
use mir.Facts.{and_yes}
use lib.ListN.{get_or}
use lib.IntN.{ℤ, pos, ◌+ℤ◌, ◌-ℤ◌, ◌*ℤ◌, +ℤ_invr, zero-*ℤ}
use lib.Signed.{◌≤ℤ◌, ◌<ℤ◌, ≤ℤ_refl, <ℤ_irrefl, lt_z_yes}
use Rattle.integers.proofs.Order.{≰ℤ-<ℤ, ≮ℤ-≤ℤ, <ℤ-≤ℤ, ≤ℤ-antisym, <ℤ-sucℤ, ≤ℤ-sub, <ℤ-sub, +ℤ-mono-≤}
use Rattle.integers.proofs.Order.{+ℤ-mono-<-≤, +ℤ-mono-≤-<, *ℤ-nonneg, *ℤ-pos, square-nonneg}
use Rattle.integers.proofs.Polynomial.{Expr, var, lit, ◌⊕◌, ◌⊖◌, ◌⊗◌, ⊝◌, eval, null, null-eval}

infix 71 ◌≺◌ ◌≼◌ ◌≗◌
pub data Claim : Type 0 where
  ◌≺◌ ◌≼◌ ◌≗◌ : Expr → Expr → Claim

abbrev pub Holds : List ℤ → Claim → Type 0
Holds env (l ≺ r) = eval env l <ℤ eval env r
Holds env (l ≼ r) = eval env l ≤ℤ eval env r
Holds env (l ≗ r) = eval env l ≡ eval env r

-- G, given a proof of each claim
abbrev pub Given : List ℤ → List Claim → Type 0 → Type 0
Given env [] G = G
Given env (h ∷ hs) G = Holds env h → Given env hs G

infixl 6 ◌⊞◌
infixl 7 ◌⊠◌
pub data Cert : Type 0 where
  hyp tight num : ℕ → Cert
  sq : Expr → Cert
  eqn : ℕ → Expr → Cert
  ◌⊞◌ ◌⊠◌ : Cert → Cert → Cert

-- ---- what a certificate says: an expression, whether it is above 0, and what follows

-- past the end stands a claim that holds
abbrev nth : List Claim → ℕ → Claim
nth hs i = get_or hs i (lit (pos 0) ≗ lit (pos 0))

abbrev is-strict : Claim → Bool
is-strict (l ≺ r) = true
is-strict (l ≼ r) = false
is-strict (l ≗ r) = false

-- the right side less the left
abbrev slack : Claim → Expr
slack (l ≺ r) = r ⊖ l
slack (l ≼ r) = r ⊖ l
slack (l ≗ r) = r ⊖ l

-- 0 stands for a claim of the wrong kind
abbrev tight-slack : Claim → Expr
tight-slack (l ≺ r) = r ⊖ (l ⊕ lit (pos 1))
tight-slack (l ≼ r) = lit (pos 0)
tight-slack (l ≗ r) = lit (pos 0)

abbrev eqn-slack : Claim → Expr
eqn-slack (l ≺ r) = lit (pos 0)
eqn-slack (l ≼ r) = lit (pos 0)
eqn-slack (l ≗ r) = r ⊖ l

abbrev term : List Claim → Cert → Expr
term hs (hyp i) = slack (nth hs i)
term hs (tight i) = tight-slack (nth hs i)
term hs (num n) = lit (pos (suc n))
term hs (sq e) = e ⊗ e
term hs (eqn i e) = eqn-slack (nth hs i) ⊗ e
term hs (c ⊞ d) = term hs c ⊕ term hs d
term hs (c ⊠ d) = term hs c ⊗ term hs d

abbrev strict : List Claim → Cert → Bool
strict hs (hyp i) = is-strict (nth hs i)
strict hs (tight i) = false
strict hs (num n) = true
strict hs (sq e) = false
strict hs (eqn i e) = false
strict hs (c ⊞ d) = strict hs c || strict hs d
strict hs (c ⊠ d) = strict hs c && strict hs d

abbrev pub refutes : List Claim → Cert → Bool
refutes hs c = strict hs c && null (term hs c)

-- with each equation turned round
abbrev mirror : Cert → Cert
mirror (hyp i) = hyp i
mirror (tight i) = tight i
mirror (num n) = num n
mirror (sq e) = sq e
mirror (eqn i e) = eqn i (⊝ e)
mirror (c ⊞ d) = mirror c ⊞ mirror d
mirror (c ⊠ d) = mirror c ⊠ mirror d

-- an equation is proved as an order both ways, from equations
abbrev pub proves : List Claim → Claim → Cert → Bool
proves hs (l ≺ r) c = refutes (r ≼ l ∷ hs) c
proves hs (l ≼ r) c = refutes (r ≺ l ∷ hs) c
proves hs (l ≗ r) c = refutes (r ≺ l ∷ hs) c && refutes (l ≺ r ∷ hs) (mirror c)

-- ---- soundness

-- above zero: strictly, or perhaps equal
abbrev Above : Bool → ℤ → Type 0
Above true z = pos 0 <ℤ z
Above false z = pos 0 ≤ℤ z

above-weak : (s : Bool) (z : ℤ) → Above s z → pos 0 ≤ℤ z
above-weak true z h = <ℤ-≤ℤ h
above-weak false z h = h

above-strict : (s : Bool) (z : ℤ) → T s → Above s z → pos 0 <ℤ z
above-strict true z t h = h
above-strict false z t h = absurd t

above-sum : (s t : Bool) (y z : ℤ) → Above s y → Above t z → Above (s || t) (y +ℤ z)
above-sum true t y z h k = +ℤ-mono-<-≤ h (above-weak t z k)
above-sum false true y z h k = +ℤ-mono-≤-< h k
above-sum false false y z h k = +ℤ-mono-≤ h k

above-product : (s t : Bool) (y z : ℤ) → Above s y → Above t z → Above (s && t) (y *ℤ z)
above-product true true y z h k = *ℤ-pos h k
above-product true false y z h k = *ℤ-nonneg (<ℤ-≤ℤ h) k
above-product false t y z h k = *ℤ-nonneg h (above-weak t z k)

zero-above : {z : ℤ} → z ≡ pos 0 → pos 0 ≤ℤ z
zero-above e = subst (λ y. pos 0 ≤ℤ y) (sym e) (≤ℤ_refl (pos 0))

module _ (env : List ℤ) where
  abbrev All : List Claim → Type 0
  All [] = Unit {0}
  All (h ∷ hs) = Holds env h × All hs

  given : (hs : List Claim) {G : Type 0} → (All hs → G) → Given env hs G
  given [] f = f tt
  given (h ∷ hs) f = λ x. given hs (λ xs. f (x, xs))

  lookup : (hs : List Claim) → All hs → (i : ℕ) → Holds env (nth hs i)
  lookup [] p i = refl
  lookup (h ∷ hs) p zero = p.0
  lookup (h ∷ hs) p (suc i) = lookup hs p.1 i

  eqn-zero : (h : Claim) → Holds env h → eval env (eqn-slack h) ≡ pos 0
  eqn-zero (l ≺ r) p = refl
  eqn-zero (l ≼ r) p = refl
  eqn-zero (l ≗ r) p = ap (λ y. eval env r -ℤ y) p ∙ +ℤ_invr (eval env r)

  slack-above : (h : Claim) → Holds env h → Above (is-strict h) (eval env (slack h))
  slack-above (l ≺ r) p = <ℤ-sub p
  slack-above (l ≼ r) p = ≤ℤ-sub p
  slack-above (l ≗ r) p = zero-above (eqn-zero (l ≗ r) p)

  tight-above : (h : Claim) → Holds env h → pos 0 ≤ℤ eval env (tight-slack h)
  tight-above (l ≺ r) p = ≤ℤ-sub (<ℤ-sucℤ p)
  tight-above (l ≼ r) p = ≤ℤ_refl (pos 0)
  tight-above (l ≗ r) p = ≤ℤ_refl (pos 0)

  term-above : (hs : List Claim) → All hs → (c : Cert) → Above (strict hs c) (eval env (term hs c))
  term-above hs p (hyp i) = slack-above (nth hs i) (lookup hs p i)
  term-above hs p (tight i) = tight-above (nth hs i) (lookup hs p i)
  term-above hs p (num n) = lt_z_yes (lt→ltb 0 (suc n) (zero-lt-suc n))
  term-above hs p (sq e) = square-nonneg (eval env e)
  term-above hs p (eqn i e) = zero-above (ap (λ y. y *ℤ eval env e) (eqn-zero (nth hs i) (lookup hs p i)) ∙ zero-*ℤ (eval env e))
  term-above hs p (c ⊞ d) = above-sum (strict hs c) (strict hs d) _ _ (term-above hs p c) (term-above hs p d)
  term-above hs p (c ⊠ d) = above-product (strict hs c) (strict hs d) _ _ (term-above hs p c) (term-above hs p d)

  refuted : (hs : List Claim) (c : Cert) → T (refutes hs c) → All hs → ⊥
  refuted hs c t p =
      let u = and_yes (strict hs c) (null (term hs c)) t in
      <ℤ_irrefl (subst (λ y. pos 0 <ℤ y) (null-eval env (term hs c) u.1) (above-strict (strict hs c) _ u.0 (term-above hs p c)))

  not_above : (hs : List Claim) (l r : Expr) (c : Cert) → T (refutes (r ≺ l ∷ hs) c) → All hs → eval env l ≤ℤ eval env r
  not_above hs l r c t p = ≮ℤ-≤ℤ (λ h. refuted (r ≺ l ∷ hs) c t (h, p))

  pub refute : (hs : List Claim) (c : Cert) → T (refutes hs c) → Given env hs ⊥
  refute hs c t = given hs (refuted hs c t)

  pub prove : (hs : List Claim) (g : Claim) (c : Cert) → T (proves hs g c) → Given env hs (Holds env g)
  prove hs (l ≺ r) c t = given hs (λ p. ≰ℤ-<ℤ (λ h. refuted (r ≼ l ∷ hs) c t (h, p)))
  prove hs (l ≼ r) c t = given hs (not_above hs l r c t)
  prove hs (l ≗ r) c t =
      let u = and_yes (refutes (r ≺ l ∷ hs) c) (refutes (l ≺ r ∷ hs) (mirror c)) t in
      given hs (λ p. ≤ℤ-antisym (not_above hs l r c u.0 p) (not_above hs r l (mirror c) u.1 p))

-- ---- examples

-- whole numbers: none lies between a and a + 1
none_between : (a b : ℤ) → a <ℤ b → b <ℤ (a +ℤ pos 1) → ⊥
none_between a b = refute (a ∷ b ∷ []) (var 0 ≺ var 1 ∷ var 1 ≺ var 0 ⊕ lit (pos 1) ∷ []) (tight 0 ⊞ hyp 1) tt

-- an equation times an expression: with y = 0 a product x z - y w has the sign of z
flat : (x y z w : ℤ) → y ≡ pos 0 → pos 0 <ℤ x → pos 0 ≤ℤ (x *ℤ z -ℤ y *ℤ w) → pos 0 ≤ℤ z
flat x y z w e h k =
    prove (x ∷ y ∷ z ∷ w ∷ []) (var 1 ≗ lit (pos 0) ∷ lit (pos 0) ≺ var 0 ∷ lit (pos 0) ≼ var 0 ⊗ var 2 ⊖ var 1 ⊗ var 3 ∷ [])
    (lit (pos 0) ≼ var 2) (hyp 0 ⊠ hyp 2 ⊞ hyp 3 ⊞ eqn 1 (⊝ var 3)) tt e h k

-- an equation from an equation
squares : (x y : ℤ) → x ≡ y → x *ℤ x ≡ y *ℤ y
squares x y = prove (x ∷ y ∷ []) (var 0 ≗ var 1 ∷ []) (var 0 ⊗ var 0 ≗ var 1 ⊗ var 1) (hyp 0 ⊞ eqn 1 (var 0 ⊕ var 1)) tt

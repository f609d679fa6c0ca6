-- Polynomial identities over the integers, by computation.
--   Expr: var lit ⊝◌ ◌⊕◌ ◌⊖◌ ◌⊗◌   an expression; `var i` is the i-th number of a list, from 0
--   eval env e                     its value; unfolds everywhere
--   same l r, null e               are the two equal, is it 0, as polynomials?
--   solve env l r tt               eval env l ≡ eval env r, where they are the same polynomial
-- null-eval env e tt             eval env e ≡ 0, where e is the polynomial 0 The normal form nests the variables: a
-- constant, or a variable times one polynomial plus another, the variables sorted. So no list of monomials is ever
-- compared: an identity of degree 4 in 8 variables with 330 monomials takes about a tenth of a second.
use mathlib.Core.Path.{◌≡◌, refl, sym, ◌∙◌, ap, ap₂}
use mathlib.Core.Bool.{Bool, true, false, ◌&&◌}
use mathlib.Core.List.{List}
use Prim.Native.Nat.{ℕ, zero, suc, compare, Ordering}
use lib.Dec.{T, compare_is_eq, eqb→eq}
use mir.Facts.{and_yes}
use lib.ListN.{get_or}
use lib.IntN.{ℤ, pos, negsuc, neg_ℤ, ◌+ℤ◌, ◌-ℤ◌, ◌*ℤ◌}
use lib.IntN.{+ℤ_idl, +ℤ_idr, +ℤ_assoc, *ℤ-zero, *ℤ_comm, -ℤ-+ℤ_cancel}
use Rattle.integers.proofs.Ring.{*ℤ-distrib-+ℤ, +ℤ-distrib-*ℤ, *ℤ-assoc, one-*ℤ, negℤ-*ℤ, +ℤ-swap, +ℤ-left}
use Rattle.integers.proofs.Ring.{*ℤ-left}

infixl 75 ◌⊕◌ ◌⊖◌
infixl 80 ◌⊗◌
infix 85 ⊝◌
pub data Expr : Type 0 where
  var : ℕ → Expr
  lit : ℤ → Expr
  ⊝◌ : Expr → Expr
  ◌⊕◌ ◌⊖◌ ◌⊗◌ : Expr → Expr → Expr

abbrev pub eval : List ℤ → Expr → ℤ
eval env (var i) = get_or env i (pos 0)
eval env (lit c) = c
eval env (⊝ e) = neg_ℤ (eval env e)
eval env (l ⊕ r) = eval env l +ℤ eval env r
eval env (l ⊖ r) = eval env l -ℤ eval env r
eval env (l ⊗ r) = eval env l *ℤ eval env r

-- ---- the normal form

-- a constant, or the variable i times p, plus q; p has no variable before i, and q none up to i
pub data Poly : Type 0 where
  con : ℤ → Poly
  node : ℕ → Poly → Poly → Poly

abbrev value : List ℤ → Poly → ℤ
value env (con c) = c
value env (node i p q) = get_or env i (pos 0) *ℤ value env p +ℤ value env q

-- the branches are bound by `let` where this is called: only the chosen one is computed
abbrev choose : Ordering → Poly → Poly → Poly → Poly
choose Ordering.lt p q r = p
choose Ordering.eq p q r = q
choose Ordering.gt p q r = r

-- a constant plus a polynomial
abbrev shift : ℤ → Poly → Poly
shift a (con b) = con (a +ℤ b)
shift a (node i p q) = node i p (shift a q)

-- the sum of `node i p q` and a polynomial, where f adds p and g adds q
abbrev merge : ℕ → Poly → (Poly → Poly) → (Poly → Poly) → Poly → Poly
merge i p f g (con b) = node i p (g (con b))
merge i p f g (node j r s) =
    let a : Poly = node i p (g (node j r s)) in
    let b : Poly = node i (f r) (g s) in
    let c : Poly = node j r (merge i p f g s) in
    choose (compare i j) a b c

abbrev add : Poly → Poly → Poly
add (con a) = shift a
add (node i p q) = merge i p (add p) (add q)

abbrev scale : ℤ → Poly → Poly
scale c (con b) = con (c *ℤ b)
scale c (node i p q) = node i (scale c p) (scale c q)

-- the variable i times a polynomial
abbrev times : ℕ → Poly → Poly
times i (con b) = node i (con b) (con (pos 0))
times i (node j r s) =
    let a : Poly = node i (node j r s) (con (pos 0)) in
    let c : Poly = node j (times i r) (times i s) in
    choose (compare i j) a a c

abbrev mul : Poly → Poly → Poly
mul (con c) r = scale c r
mul (node i p q) r = add (times i (mul p r)) (mul q r)

abbrev norm : Expr → Poly
norm (var i) = node i (con (pos 1)) (con (pos 0))
norm (lit c) = con c
norm (⊝ e) = scale (negsuc 0) (norm e)
norm (l ⊕ r) = add (norm l) (norm r)
norm (l ⊖ r) = add (norm l) (scale (negsuc 0) (norm r))
norm (l ⊗ r) = mul (norm l) (norm r)

abbrev is_zero : ℤ → Bool
is_zero (pos zero) = true
is_zero (pos (suc n)) = false
is_zero (negsuc n) = false

-- every coefficient is 0: sums leave such coefficients in place
abbrev vanishes : Poly → Bool
vanishes (con c) = is_zero c
vanishes (node i p q) = vanishes p && vanishes q

-- is it 0 as a polynomial?
abbrev pub null : Expr → Bool
null e = vanishes (norm e)

-- are the two equal as polynomials?
abbrev pub same : Expr → Expr → Bool
same l r = null (l ⊖ r)

-- ---- the normal form has the expression's value

is_zero-is : (c : ℤ) → T (is_zero c) → c ≡ pos 0
is_zero-is (pos zero) t = refl
is_zero-is (pos (suc n)) t = absurd t
is_zero-is (negsuc n) t = absurd t

-- a factor moves out of x times p, and q
factor-out : (c x p q : ℤ) → x *ℤ (c *ℤ p) +ℤ c *ℤ q ≡ c *ℤ (x *ℤ p +ℤ q)
factor-out c x p q = ap (λ y. y +ℤ c *ℤ q) (*ℤ-left x c p) ∙ sym (*ℤ-distrib-+ℤ c (x *ℤ p) q)

module _ (env : List ℤ) where
  abbrev at : ℕ → ℤ
  at i = get_or env i (pos 0)

  abbrev val : Poly → ℤ
  val = value env

  val-choose : (o : Ordering) (p q r : Poly) (z : ℤ) → val p ≡ z → (T (compare_is_eq o) → val q ≡ z) → val r ≡ z → val (choose o p q r) ≡ z
  val-choose Ordering.lt p q r z a b c = a
  val-choose Ordering.eq p q r z a b c = b tt
  val-choose Ordering.gt p q r z a b c = c

  val_shift : (a : ℤ) (p : Poly) → val (shift a p) ≡ a +ℤ val p
  val_shift a (con b) = refl
  val_shift a (node i p q) = ap (λ y. at i *ℤ val p +ℤ y) (val_shift a q) ∙ +ℤ-left (at i *ℤ val p) a (val q)

  val-merge : (i : ℕ) (p : Poly) (f g : Poly → Poly) (z : ℤ) → ((r : Poly) → val (f r) ≡ val p +ℤ val r)
      → ((s : Poly) → val (g s) ≡ z +ℤ val s)
      → (q : Poly) → val (merge i p f g q) ≡ (at i *ℤ val p +ℤ z) +ℤ val q
  val-merge i p f g z hf hg (con b) = ap (λ y. at i *ℤ val p +ℤ y) (hg (con b)) ∙ sym (+ℤ_assoc (at i *ℤ val p) z b)
  val-merge i p f g z hf hg (node j r s) = val-choose (compare i j) _ _ _ _
      (ap (λ y. at i *ℤ val p +ℤ y) (hg (node j r s)) ∙ sym (+ℤ_assoc (at i *ℤ val p) z (val (node j r s))))
      (λ t. ap₂ (λ y w. at i *ℤ y +ℤ w) (hf r) (hg s) ∙ ap (λ y. y +ℤ (z +ℤ val s)) (*ℤ-distrib-+ℤ (at i) (val p) (val r))
      ∙ +ℤ-swap (at i *ℤ val p) (at i *ℤ val r) z (val s)
      ∙ ap (λ (k : ℕ). (at i *ℤ val p +ℤ z) +ℤ (at k *ℤ val r +ℤ val s)) (eqb→eq i j t))
      (ap (λ y. at j *ℤ val r +ℤ y) (val-merge i p f g z hf hg s) ∙ +ℤ-left (at j *ℤ val r) (at i *ℤ val p +ℤ z) (val s))

  val-add : (p q : Poly) → val (add p q) ≡ val p +ℤ val q
  val-add (con a) q = val_shift a q
  val-add (node i p r) q = val-merge i p (add p) (add r) (val r) (val-add p) (val-add r) q

  val-scale : (c : ℤ) (p : Poly) → val (scale c p) ≡ c *ℤ val p
  val-scale c (con b) = refl
  val-scale c (node i p q) = ap₂ (λ y w. at i *ℤ y +ℤ w) (val-scale c p) (val-scale c q) ∙ factor-out c (at i) (val p) (val q)

  val-times : (i : ℕ) (p : Poly) → val (times i p) ≡ at i *ℤ val p
  val-times i (con b) = +ℤ_idr (at i *ℤ b)
  val-times i (node j r s) = val-choose (compare i j) _ _ _ _
      (+ℤ_idr (at i *ℤ val (node j r s))) (λ t. +ℤ_idr (at i *ℤ val (node j r s)))
      (ap₂ (λ y w. at j *ℤ y +ℤ w) (val-times i r) (val-times i s) ∙ factor-out (at i) (at j) (val r) (val s))

  val-mul : (p q : Poly) → val (mul p q) ≡ val p *ℤ val q
  val-mul (con c) q = val-scale c q
  val-mul (node i p r) q =
      val-add (times i (mul p q)) (mul r q)
      ∙ ap₂ ◌+ℤ◌ (val-times i (mul p q) ∙ ap (λ y. at i *ℤ y) (val-mul p q) ∙ sym (*ℤ-assoc (at i) (val p) (val q))) (val-mul r q)
      ∙ sym (+ℤ-distrib-*ℤ (at i *ℤ val p) (val r) (val q))

  val-neg : (p : Poly) → val (scale (negsuc 0) p) ≡ neg_ℤ (val p)
  val-neg p = val-scale (negsuc 0) p ∙ negℤ-*ℤ (pos 1) (val p) ∙ ap neg_ℤ (one-*ℤ (val p))

  val-norm : (e : Expr) → val (norm e) ≡ eval env e
  val-norm (var i) = +ℤ_idr (at i *ℤ pos 1) ∙ *ℤ_comm (at i) (pos 1) ∙ one-*ℤ (at i)
  val-norm (lit c) = refl
  val-norm (⊝ e) = val-neg (norm e) ∙ ap neg_ℤ (val-norm e)
  val-norm (l ⊕ r) = val-add (norm l) (norm r) ∙ ap₂ ◌+ℤ◌ (val-norm l) (val-norm r)
  val-norm (l ⊖ r) = val-add (norm l) (scale (negsuc 0) (norm r)) ∙ ap₂ ◌+ℤ◌ (val-norm l) (val-neg (norm r) ∙ ap neg_ℤ (val-norm r))
  val-norm (l ⊗ r) = val-mul (norm l) (norm r) ∙ ap₂ ◌*ℤ◌ (val-norm l) (val-norm r)

  val-vanishes : (p : Poly) → T (vanishes p) → val p ≡ pos 0
  val-vanishes (con c) t = is_zero-is c t
  val-vanishes (node i p q) t =
      ap₂ (λ y w. at i *ℤ y +ℤ w) (val-vanishes p (and_yes (vanishes p) (vanishes q) t).0)
      (val-vanishes q (and_yes (vanishes p) (vanishes q) t).1)
      ∙ +ℤ_idr (at i *ℤ pos 0) ∙ *ℤ-zero (at i)

  pub null-eval : (e : Expr) → T (null e) → eval env e ≡ pos 0
  null-eval e t = sym (val-norm e) ∙ val-vanishes (norm e) t

  pub solve : (l r : Expr) → T (same l r) → eval env l ≡ eval env r
  solve l r t = sym (-ℤ-+ℤ_cancel (eval env l) (eval env r)) ∙ ap (λ y. y +ℤ eval env r) (null-eval (l ⊖ r) t) ∙ +ℤ_idl (eval env r)

-- The order of points seen from a point p, and the first of several.
--     Behind            seen from one place, b is not before a: it is left of it, or in the same line and not farther
--     ahead-test        what the test `is_ahead` says
--     behind-trans      of vectors left of one vector, this is transitive
--     not-farther       and in one line it is that b is not farther along
--     foremost-member   the first of several points is one of them
--     foremost-first    and each of them is behind it
use mathlib.Core.Path.{◌≡◌, refl}
use mathlib.Core.Logic.{◌⊎◌, inl, inr}
use mathlib.Core.Bool.{Bool, true, false, cond, ◌&&◌, ◌||◌, true≢false, false≢true}
use mathlib.Core.List.{List, [], ◌∷◌, Memᴰ}
use lib.IntN.{pos, negsuc}
use lib.Signed.{lt_z, ◌≤ℤ◌, ◌<ℤ◌, ≤ℤ_refl}
use Rattle.integers.specs.Equal.{eq_z}
use Rattle.integers.proofs.Order.{lt_z-true, lt_z-false, <ℤ-≤ℤ, ≤ℤ-trans, ≰ℤ-<ℤ, ≤ℤ-antisym}
use Rattle.integers.proofs.Polynomial.{lit, ◌⊕◌, ◌⊗◌}
use Rattle.integers.proofs.Certificate.{◌≺◌, ◌≼◌, ◌≗◌, hyp, eqn, ◌⊞◌, ◌⊠◌, prove}
use Rattle.integers.proofs.Reflect.{test-eq_z, test-false}
use Rattle.lists.proofs.FirstByLaws.{first_by-member, first_by-first}
use Rattle.plane.specs.declared.Corner.{Corner}
use Rattle.plane.specs.declared.Vector.{Vector}
use Rattle.plane.specs.Vector.{◌⇀◌, cross, dot}
use Rattle.plane.proofs.Algebra.{O, vec, cross_e, dot_e, components, cross-length}
use Rattle.hull.specs.code.Wrapping.{is_ahead, foremost}

abbrev pub Behind : Vector → Vector → Type 0
Behind a b = (pos 0 <ℤ cross a b) ⊎ ((cross a b ≡ pos 0) × (dot b b ≤ℤ dot a a))

cross-turned : (a b : Vector) → cross a b <ℤ pos 0 → pos 0 <ℤ cross b a
unfolding cross
cross-turned a b = prove (components (a ∷ b ∷ [])) (cross_e (vec 0) (vec 2) ≺ O ∷ []) (O ≺ cross_e (vec 2) (vec 0)) (hyp 0 ⊞ hyp 1) tt

cross-level : (a b : Vector) → cross a b ≡ pos 0 → cross b a ≡ pos 0
unfolding cross
cross-level a b =
    prove (components (a ∷ b ∷ [])) (cross_e (vec 0) (vec 2) ≗ O ∷ []) (cross_e (vec 2) (vec 0) ≗ O)
    (hyp 0 ⊞ eqn 1 (lit (negsuc 0))) tt

behind-refl : (a : Vector) → Behind a a
unfolding cross
behind-refl a =
    inr (prove (components (a ∷ [])) [] (cross_e (vec 0) (vec 0) ≗ O) (hyp 0) tt, ≤ℤ_refl _)

-- if the test holds z stands first, and if not q
ahead-test : (p z q : Corner) (t : Bool) → is_ahead p z q ≡ t → Behind (p ⇀ cond t z q) (p ⇀ cond t q z)
unfolding is_ahead
ahead-test p z q =
    go (lt_z (cross (p ⇀ q) (p ⇀ z)) (pos 0)) (eq_z (cross (p ⇀ q) (p ⇀ z)) (pos 0))
    (lt_z (dot (p ⇀ q) (p ⇀ q)) (dot (p ⇀ z) (p ⇀ z))) refl refl refl
  where
    go : (right line farther : Bool) → lt_z (cross (p ⇀ q) (p ⇀ z)) (pos 0) ≡ right
        → eq_z (cross (p ⇀ q) (p ⇀ z)) (pos 0) ≡ line → lt_z (dot (p ⇀ q) (p ⇀ q)) (dot (p ⇀ z) (p ⇀ z)) ≡ farther
        → (t : Bool) → right || (line && farther) ≡ t → Behind (p ⇀ cond t z q) (p ⇀ cond t q z)
    go true _ _ right _ _ true is = inl (cross-turned _ _ (lt_z-true right))
    go true _ _ _ _ _ false is = absurd (true≢false is)
    go false true true _ line farther true is = inr (cross-level _ _ ((test-eq_z _ _).0 line), <ℤ-≤ℤ (lt_z-true farther))
    go false true true _ _ _ false is = absurd (true≢false is)
    go false true false _ line nearer false is = inr ((test-eq_z _ _).0 line, lt_z-false nearer)
    go false true false _ _ _ true is = absurd (false≢true is)
    go false false _ left off _ false is =
        inl (≰ℤ-<ℤ (λ not. (test-false _ (test-eq_z _ _)).0 off (≤ℤ-antisym not (lt_z-false left))))
    go false false _ _ _ _ true is = absurd (false≢true is)

-- of vectors left of e
module _ (e : Vector) where
  module _ (a b c : Vector) (left-a : pos 0 <ℤ cross e a) (left-b : pos 0 <ℤ cross e b) (left-c : pos 0 <ℤ cross e c) where
    before : pos 0 <ℤ cross a b → pos 0 ≤ℤ cross b c → pos 0 <ℤ cross a c
    unfolding cross
    before =
        let e' = vec 0 in let a' = vec 2 in let b' = vec 4 in let c' = vec 6 in
        prove (components (e ∷ a ∷ b ∷ c ∷ []))
        (O ≺ cross_e e' a' ∷ O ≺ cross_e e' b' ∷ O ≺ cross_e e' c' ∷ O ≺ cross_e a' b' ∷ O ≼ cross_e b' c' ∷ []) (O ≺ cross_e a' c')
        (hyp 0 ⊠ hyp 2 ⊞ hyp 1 ⊠ hyp 5 ⊞ hyp 3 ⊠ hyp 4) tt left-a left-b left-c

    after : pos 0 ≤ℤ cross a b → pos 0 <ℤ cross b c → pos 0 <ℤ cross a c
    unfolding cross
    after =
        let e' = vec 0 in let a' = vec 2 in let b' = vec 4 in let c' = vec 6 in
        prove (components (e ∷ a ∷ b ∷ c ∷ []))
        (O ≺ cross_e e' a' ∷ O ≺ cross_e e' b' ∷ O ≺ cross_e e' c' ∷ O ≼ cross_e a' b' ∷ O ≺ cross_e b' c' ∷ []) (O ≺ cross_e a' c')
        (hyp 0 ⊠ hyp 2 ⊞ hyp 1 ⊠ hyp 5 ⊞ hyp 3 ⊠ hyp 4) tt left-a left-b left-c

    along : cross a b ≡ pos 0 → cross b c ≡ pos 0 → cross a c ≡ pos 0
    unfolding cross
    along =
        let e' = vec 0 in let a' = vec 2 in let b' = vec 4 in let c' = vec 6 in
        prove (components (e ∷ a ∷ b ∷ c ∷ []))
        (O ≺ cross_e e' b' ∷ cross_e a' b' ≗ O ∷ cross_e b' c' ≗ O ∷ []) (cross_e a' c' ≗ O)
        (hyp 0 ⊠ hyp 1 ⊞ eqn 2 (cross_e e' c') ⊞ eqn 3 (cross_e e' a')) tt left-b

    pub behind-trans : Behind a b → Behind b c → Behind a c
    behind-trans (inl left) (inl more) = inl (before left (<ℤ-≤ℤ more))
    behind-trans (inl left) (inr (line, _)) = inl (before left (rw line (≤ℤ_refl (pos 0))))
    behind-trans (inr (line, _)) (inl left) = inl (after (rw line (≤ℤ_refl (pos 0))) left)
    behind-trans (inr (line, near)) (inr (again, nearer)) = inr (along line again, ≤ℤ-trans nearer near)

  -- By Lagrange's identity |a|² times cross e b is dot a b times cross e a, where a and b are in one line, and the same
  -- with a and b exchanged.
  pub not-farther : (a b : Vector) → pos 0 <ℤ cross e a → pos 0 <ℤ cross e b → cross a b ≡ pos 0 → dot b b ≤ℤ dot a a
      → cross e b ≤ℤ cross e a
  unfolding cross dot
  not-farther a b left-a left-b line near =
      let e' = vec 0 in let a' = vec 2 in let b' = vec 4 in
      let of_a = cross_e e' a' in let of_b = cross_e e' b' in
      prove (components (e ∷ a ∷ b ∷ []))
      (O ≺ of_a ∷ O ≺ of_b ∷ cross_e a' b' ≗ O ∷ dot_e b' b' ≼ dot_e a' a' ∷ O ≺ dot_e a' a' ∷ []) (of_b ≼ of_a)
      (hyp 0 ⊠ hyp 1 ⊠ hyp 5 ⊞ hyp 0 ⊠ hyp 2 ⊠ hyp 5 ⊞ hyp 1 ⊠ hyp 1 ⊠ hyp 4
      ⊞ eqn 3 (of_b ⊗ dot_e e' a' ⊕ of_a ⊗ dot_e e' b')) tt left-a left-b line near (cross-length e a left-a)

pub foremost-member : (p q : Corner) (zs : List Corner) → Memᴰ (foremost p q zs) (q ∷ zs)
foremost-member p = first_by-member (is_ahead p)

-- among points of which this is so, being behind is transitive, seen from p
pub foremost-first : (p : Corner) (Good : Corner → Type 0)
    → ((a b c : Corner) → Good a → Good b → Good c
    → Behind (p ⇀ a) (p ⇀ b) → Behind (p ⇀ b) (p ⇀ c) → Behind (p ⇀ a) (p ⇀ c))
    → (q : Corner) (zs : List Corner) → ((z : Corner) → Memᴰ z (q ∷ zs) → Good z)
    → (w : Corner) → Memᴰ w (q ∷ zs) → Behind (p ⇀ foremost p q zs) (p ⇀ w)
foremost-first p Good =
    first_by-first (is_ahead p) Good (λ a b. Behind (p ⇀ a) (p ⇀ b)) (λ a. behind-refl (p ⇀ a)) (ahead-test p)

-- A Boolean test and its meaning: what `(b ≡ true) ↔ P` gives of the other tests made of b.
--     test-false     the test fails exactly where P does not hold
--     test-not       the negated test
--     test-stable    P holds where it cannot fail to
--     test-same      two tests with one meaning are equal
--     test-and, test-or    both of two tests, one of two tests
--     test-eqb, test-ltb, test-leb, test-le_z, test-eq_z    the tests of numbers
--     ≤-≤ℤ           the order of natural numbers, as integers
--     int_eq-is      `==` on signed numbers answers `eq_z`
use Prim.Native.Nat.{ℕ, ◌<◌, ◌≤◌}
use mathlib.Core.Path.{◌≡◌, refl, sym, ap}
use mathlib.Core.Logic.Iff
use mathlib.Core.Logic.{◌↔◌, ◌⊎◌, inl, inr}
use mathlib.Core.Bool.{Bool, true, false, not, ◌&&◌, ◌||◌, true≢false, false≢true}
use borrow.Author.Tests.{not-true, eqb-true, eq-eqb, ltb-true, lt-ltb, leb-true, le-leb}
use lib.Dec.{eqb, ltb, leb}
use lib.IntN.{ℤ, pos}
use lib.Signed.{le_z, ◌≤ℤ◌, ≤ℤ_refl}
use Rattle.std.specs.Ordering.{int_eq}
use Rattle.std.proofs.lemmas.Bool.Decides.{Decides-int_eq}
use Rattle.integers.specs.Equal.{eq_z}
use Rattle.integers.proofs.Order.{le_z-true, ≤ℤ-le_z, ≤ℤ-antisym}

module _ {P : Type 0} where
  pub test-false : (b : Bool) → ((b ≡ true) ↔ P) → ((b ≡ false) ↔ (¬ P))
  test-false true means = (λ e. absurd (true≢false e), λ none. absurd (none (means.0 refl)))
  test-false false means = (λ _ p. false≢true (means.1 p), λ _. refl)

  pub test-not : (b : Bool) → ((b ≡ true) ↔ P) → ((not b ≡ true) ↔ (¬ P))
  test-not b means = Iff.trans (not-true b, ap not) (test-false b means)

  pub test-stable : (b : Bool) → ((b ≡ true) ↔ P) → ¬ ¬ P → P
  test-stable true means twice = means.0 refl
  test-stable false means twice = absurd (twice (λ p. false≢true (means.1 p)))

  pub test-same : (a b : Bool) → ((a ≡ true) ↔ P) → ((b ≡ true) ↔ P) → a ≡ b
  test-same true b p q = sym (q.1 (p.0 refl))
  test-same false b p q = sym ((test-false b q).1 ((test-false false p).0 refl))

pub test-and : {P Q : Type 0} (a b : Bool) → ((a ≡ true) ↔ P) → ((b ≡ true) ↔ Q) → ((a && b ≡ true) ↔ (P × Q))
test-and true b p q = (λ e. (p.0 refl, q.0 e), λ both. q.1 both.1)
test-and false b p q = (λ e. absurd (false≢true e), λ both. absurd (false≢true (p.1 both.0)))

pub test-or : {P Q : Type 0} (a b : Bool) → ((a ≡ true) ↔ P) → ((b ≡ true) ↔ Q) → ((a || b ≡ true) ↔ (P ⊎ Q))
test-or true b p q = (λ _. inl (p.0 refl), λ _. refl)
test-or false b p q = (λ e. inr (q.0 e), λ either. elim either [ inl x ↦ absurd (false≢true (p.1 x)) | inr y ↦ q.1 y ])

pub test-eqb : (a b : ℕ) → (eqb a b ≡ true) ↔ (a ≡ b)
test-eqb a b = (eqb-true a b, eq-eqb a b)

pub test-ltb : (a b : ℕ) → (ltb a b ≡ true) ↔ (a < b)
test-ltb a b = (ltb-true a b, lt-ltb a b)

pub test-leb : (a b : ℕ) → (leb a b ≡ true) ↔ (a ≤ b)
test-leb a b = (leb-true a b, le-leb a b)

pub test-le_z : (a b : ℤ) → (le_z a b ≡ true) ↔ (a ≤ℤ b)
test-le_z a b = (le_z-true, ≤ℤ-le_z)

pub ≤-≤ℤ : (a b : ℕ) → (a ≤ b) ↔ (pos a ≤ℤ pos b)
≤-≤ℤ a b = Iff.trans (Iff.symm (test-leb a b)) (test-le_z (pos a) (pos b))

pub test-eq_z : (a b : ℤ) → (eq_z a b ≡ true) ↔ (a ≡ b)
test-eq_z a b = Iff.trans (test-and (le_z a b) (le_z b a) (test-le_z a b) (test-le_z b a)) (
  λ (below, above). ≤ℤ-antisym below above,
  λ e. (rw e (≤ℤ_refl b), rw e (≤ℤ_refl b)),
)

pub int_eq-is : (a b : ℤ) → int_eq a b ≡ eq_z a b
int_eq-is a b = test-same (int_eq a b) (eq_z a b) (Decides-int_eq a b) (test-eq_z a b)

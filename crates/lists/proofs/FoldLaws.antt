-- What is made of the values at 0, 1, .. below n.
--     joined-member       the members of lists one after the other are those of the lists
--     all_true            `all` holds exactly where the test passes at each place
--     sum_same, sum-zero-iff, sum-at-most    sums of the same numbers are the same; one is 0 exactly where all its numbers
--                         are, and at most n b where each is at most b
--     sum_first           the first of its numbers can be added to the others
--     Folding, fold-..    the invariant of a loop that joins the values in order, and its steps
--     Passing, pass-..    the invariant of a loop that makes the tests in order, and its steps
use Prim.Native.Nat.{ℕ, zero, suc, ◌+◌, ◌*◌, ◌<◌, ◌≤◌}
use native.Mathlib.Nat.{eq-or-lt_of_le, le_of_suc-le-suc}
use native.Mathlib.Numerals.{add-one}
use native.Mathlib.Omega.{arith}
use mathlib.Core.Bool.{Bool, true, false, true≢false}
use mathlib.Core.List.Memᴰ
use mathlib.Core.List.{List, Memᴰ}
use mathlib.Core.Logic.Iff
use mathlib.Core.Logic.{◌↔◌, ⊎_elim}
use mathlib.Core.Path.{◌≡◌, refl, sym, ◌∙◌}
use Rattle.integers.proofs.Reflect.{test-and, test-false}
use Rattle.lists.specs.Fold.{fold, joined, all, sum}

pub joined-member : {X : Type 0} (part : ℕ → List X) (n : ℕ) (x : X)
    → Memᴰ x (joined part n) ↔ ((i : ℕ) × (i < n) × Memᴰ x (part i))
unfolding fold
joined-member part zero x = (λ there. absurd (Memᴰ.not-nil there), λ (i, below, _). absurd (omega arith))
joined-member part (suc n) x = (
  λ there. ⊎_elim (λ before. let (i, below, here) = (joined-member part n x).0 before in (i, omega arith, here))
      (λ here. (n, omega arith, here)) (Memᴰ.append_cases (joined part n) there),
  λ (i, below, here). ⊎_elim (λ is. Memᴰ.append_right (joined part n) (rw is at here))
      (λ lower. Memᴰ.append_left (part n) ((joined-member part n x).1 (i, lower, here)))
      (eq-or-lt_of_le (le_of_suc-le-suc below)),
)

pub all_true : (test : ℕ → Bool) (n : ℕ) → (all test n ≡ true) ↔ ((i : ℕ) → i < n → test i ≡ true)
unfolding fold
all_true test zero = (λ _ i below. absurd (omega arith), λ _. refl)
all_true test (suc n) = Iff.trans (test-and (all test n) (test n) (all_true test n) (λ e. e, λ e. e)) (
  λ (before, here) i below. ⊎_elim (λ is. rw is here) (before i) (eq-or-lt_of_le (le_of_suc-le-suc below)),
  λ passes. (λ i below. passes i (omega arith), passes n (omega arith)),
)

-- the same numbers, the same sum
pub sum_same : {f g : ℕ → ℕ} (n : ℕ) → ((i : ℕ) → i < n → f i ≡ g i) → sum f n ≡ sum g n
unfolding fold
sum_same zero same = refl
sum_same (suc n) same = rw (sum_same n (λ i below. same i (omega arith)), same n (omega arith))

-- natural numbers add up to 0 only if each is 0
pub sum-zero-iff : (f : ℕ → ℕ) (n : ℕ) → (sum f n ≡ 0) ↔ ((i : ℕ) → i < n → f i ≡ 0)
unfolding fold
sum-zero-iff f zero = (λ none i below. absurd (omega arith), λ none. refl)
sum-zero-iff f (suc n) = (
  λ none i below. ⊎_elim (λ is. rw is (omega arith)) ((sum-zero-iff f n).0 (omega arith) i)
      (eq-or-lt_of_le (le_of_suc-le-suc below)),
  λ none. rw ((sum-zero-iff f n).1 (λ i below. none i (omega arith)), none n (omega arith)),
)

-- n numbers, each at most b
pub sum-at-most : {f : ℕ → ℕ} {b : ℕ} (n : ℕ) → ((i : ℕ) → i < n → f i ≤ b) → sum f n ≤ n * b
unfolding fold
sum-at-most zero each = omega arith
sum-at-most (suc n) each = omega (arith, sum-at-most n (λ i below. each i (omega arith)), each n (omega arith))

-- `sum` takes the last number off; so can the first be
pub sum_first : (f : ℕ → ℕ) (n : ℕ) → sum f (suc n) ≡ f 0 + sum (λ i. f (suc i)) n
unfolding fold
sum_first f zero = omega arith
sum_first f (suc n) = omega (arith, sum_first f n)

-- a loop that joins the values: those before i are joined
pub record Folding {X : Type 0} (join : X → X → X) (start : X) (f : ℕ → X) (n : ℕ) (so_far : X) (i : ℕ) : Type 0 where
  pub turn : i ≤ n
  pub joined_so_far : so_far ≡ fold join start f i

pub fold_start : {X : Type 0} (join : X → X → X) (start : X) (f : ℕ → X) (n : ℕ) → Folding join start f n start 0
unfolding fold
fold_start join start f n = record { turn = omega arith; joined_so_far = refl }

module _ {X : Type 0} {join : X → X → X} {start : X} {f : ℕ → X} {n : ℕ} {so_far : X} {i : ℕ}
    (folding : Folding join start f n so_far i) where
  pub fold_on : i < n → Folding join start f n (join so_far (f i)) (i + 1)
  unfolding fold
  fold_on below = record { turn = omega arith; joined_so_far = rw (add-one, folding.joined_so_far) }

  pub fold_end : n ≤ i → so_far ≡ fold join start f n
  fold_end past = let done : n ≡ i = omega (arith, folding.turn) in rw done folding.joined_so_far

-- a loop that makes the tests: those before i pass
pub record Passing (test : ℕ → Bool) (n i : ℕ) : Type 0 where
  pub turn : i ≤ n
  pub passed : all test i ≡ true

pub pass-start : (test : ℕ → Bool) (n : ℕ) → Passing test n 0
unfolding fold
pass-start test n = record { turn = omega arith; passed = refl }

module _ {test : ℕ → Bool} {n i : ℕ} (passing : Passing test n i) where
  pub pass_on : i < n → test i ≡ true → Passing test n (i + 1)
  unfolding fold
  pass_on below passes = record { turn = omega arith; passed = rw (add-one, passing.passed, passes) }

  pub pass-stop : i < n → test i ≡ false → false ≡ all test n
  pass-stop below fails =
      sym ((test-false (all test n) (all_true test n)).1 (λ every. true≢false (sym (every i below) ∙ fails)))

  pub pass_all : n ≤ i → true ≡ all test n
  pass_all past = let done : n ≡ i = omega arith in rw done (sym passing.passed)

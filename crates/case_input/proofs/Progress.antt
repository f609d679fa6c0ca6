-- Reading goes on: after a number fewer bytes are left, where there were any.
use Rattle.std.proofs.Common.{ℕ, zero, suc, ◌+◌, ◌<◌, ◌≤◌, ◌≡◌, Bool, true, false, List, [], ◌∷◌, length, refl, arith, length-drop}
use Rattle.std.specs.Char.{is_ascii_digit}
use Rattle.std.proofs.lemmas.List.Folds.{length-prefix_len}
use Rattle.case_input.specs.Number.{run, from_digit, after_number, after_numbers}

-- after a number no more bytes are left
pub number-not-longer : (s : List ℕ) → length (after_number s) ≤ length s
number-not-longer s = grind (arith, length-drop)

-- a byte is passed at the front: one that is no digit, or else the first digit
one-passed : (b : ℕ) (s : List ℕ) (of_digits : Bool) → is_ascii_digit b ≡ of_digits → 0 < run of_digits (b ∷ s)
one-passed b s true e = rw (length-prefix_len, e) (omega arith)
one-passed b s false e = rw (length-prefix_len, e) (omega arith)

none-passed : (b : ℕ) (s : List ℕ) → is_ascii_digit b ≡ true → run false (b ∷ s) ≡ 0
none-passed b s e = rw (length-prefix_len, e) refl

run-counts : (b : ℕ) (s : List ℕ) (d : Bool) → is_ascii_digit b ≡ d → 0 < run false (b ∷ s) + run true (from_digit (b ∷ s))
run-counts b s false e = omega (arith, one-passed b s false e)
run-counts b s true e = rw (none-passed b s e) (omega (arith, one-passed b s true e))

-- after a number fewer bytes are left, where there were any
pub number-shorter : (s : List ℕ) → 0 < length s → length (after_number s) < length s
number-shorter [] h = elim h [ ]
number-shorter (b ∷ s) h = let some : 0 < run false (b ∷ s) + run true (from_digit (b ∷ s)) = run-counts b s _ refl in grind (arith, length-drop)

-- after n numbers no more bytes are left
pub numbers-not-longer : (n : ℕ) (s : List ℕ) → length (after_numbers n s) ≤ length s
unfolding after_numbers
numbers-not-longer zero s = omega arith
numbers-not-longer (suc n) s = omega (arith, numbers-not-longer n (after_number s), number-not-longer s)

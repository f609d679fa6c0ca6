-- The numbers from a place in a list on: one, and those after it.
use Rattle.std.proofs.Common.{ℕ, ◌+◌, ◌-◌, ◌<◌, ◌≡◌, List, ◌∷◌, suc, refl, arith}
use Rattle.case_input.specs.Number.{signed, after_number, signed_numbers, after_numbers}

-- n - i numbers are one and n - (i + 1) more
pub next-numbers : (n i : ℕ) (s : List ℕ) → i < n → signed_numbers (n - i) s ≡ signed s ∷ signed_numbers (n - (i + 1)) (after_number s)
unfolding signed_numbers
next-numbers n i s h = let e : n - i ≡ suc (n - (i + 1)) = omega arith in rw e refl

-- after n - i numbers are the bytes n - (i + 1) numbers after the first
pub next-after : (n i : ℕ) (s : List ℕ) → i < n → after_numbers (n - i) s ≡ after_numbers (n - (i + 1)) (after_number s)
unfolding after_numbers
next-after n i s h = let e : n - i ≡ suc (n - (i + 1)) = omega arith in rw e refl

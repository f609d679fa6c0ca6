-- Searching the places of a list for an element that passes a test.
--     any-places     some place below a number has one where one is among the elements before it
use Rattle.std.proofs.Common.{◌≡◌, ℕ, zero, suc, ◌+◌, ◌≤◌, Bool, ◌||◌, List, length, take, drop, get_or, refl, ap, add-one, drop-cons, arith}
use Rattle.std.specs.List.{list_any, range_with_len}

module _ {X : Type 0} (test : X → Bool) (xs : List X) (z : X) where
  pub any-places : (a n : ℕ) → a + n ≤ length xs
      → list_any (λ j. test (get_or xs j z)) (range_with_len a n) ≡ list_any test (take n (drop a xs))
  any-places a zero fits = refl
  any-places a (suc n) fits =
      rw (drop-cons xs a z (omega arith), ← add-one a) (ap (λ r. test (get_or xs a z) || r) (any-places (a + 1) n (omega arith)))

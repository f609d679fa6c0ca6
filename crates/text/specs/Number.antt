-- Rule 8.3: a number is an optional minus and one to five digits. `proofs/RoundTrip.antt` shows that every number of at
-- most five digits is read back from its decimal text.
use Rattle.std.specs.Prelude.{ℕ, ℤ, ◌+◌, ◌-◌, ◌*◌, Bool, true, cond, ◌&&◌, List, [], ◌∷◌, leb, ltb, eqb, pos, neg_ℤ, length}
use Rattle.std.specs.Prelude.{Option, Some, None}

-- a byte is a digit: 0 to 9 are the bytes 48 to 57
abbrev pub is_digit : ℕ → Bool
is_digit b = leb 48 b && leb b 57

-- all bytes of a word are digits
unfoldable pub all_digits : List ℕ → Bool
all_digits [] = true
all_digits (b ∷ w) = is_digit b && all_digits w

-- a number with one digit more at its end
abbrev pub with_digit : ℕ → ℕ → ℕ
with_digit n b = n * 10 + (b - 48)

-- the value of a number and digits after it
unfoldable pub value_from : ℕ → List ℕ → ℕ
value_from n [] = n
value_from n (b ∷ w) = value_from (with_digit n b) w

-- the value of digits
abbrev pub value : List ℕ → ℕ
value w = value_from 0 w

-- what a word without a minus gives: its value, if it is one to five digits and nothing else
unfoldable pub natural : List ℕ → Option ℤ
natural w = cond (ltb 0 (length w) && leb (length w) 5 && all_digits w) (Some (pos (value w))) None

-- what digits give after a minus
abbrev pub negated : Option ℤ → Option ℤ
negated (Some z) = Some (neg_ℤ z)
negated None = None

-- the number that a word gives, if it gives one. A minus is the byte 45
unfoldable pub number : List ℕ → Option ℤ
number [] = None
number (b ∷ w) = cond (eqb b 45) (negated (natural w)) (natural (b ∷ w))

-- what the first of some words gives; none if there is no word
abbrev pub first_number : List (List ℕ) → Option ℤ
first_number [] = None
first_number (w ∷ ws) = number w

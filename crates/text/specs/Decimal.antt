-- Rule 8.9: numbers as decimal text. `proofs/DecimalLaws.antt` shows that the digits have the number's value, that no
-- zero leads, and that 0 has no minus.
use Rattle.std.specs.Prelude.{ℕ, zero, suc, ◌+◌, ◌/◌, ◌%◌, cond, List, [], ◌∷◌, ◌++◌, ltb, ℤ, pos, negsuc}
use Rattle.text.specs.Ascii.{ascii}

-- the digits of a number, without leading zeros; of more than so many only the last
unfoldable pub digits : ℕ → ℕ → List ℕ
digits zero n = []
digits (suc most) n = let front = digits most (n / 10) in cond (ltb n 10) [] front ++ ((48 + n % 10) ∷ [])

-- all digits of a number that has at most 20; every number of 64 bits does
abbrev pub decimal : ℕ → List ℕ
decimal n = digits 20 n

-- the same of a number that may be below 0: then a minus stands before the digits
abbrev pub signed_decimal : ℤ → List ℕ
signed_decimal (pos n) = decimal n
signed_decimal (negsuc n) = ascii "-" ++ decimal (suc n)

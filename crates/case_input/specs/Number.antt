-- The numbers of some bytes: decimal, a minus directly before the digits where there is one, and other bytes between them.
-- Past the end there are zeros, and a number that is too large loses its high bits.
use Rattle.std.specs.Prelude.{ℕ, zero, suc, ◌+◌, ◌-◌, ◌*◌, ◌%◌, Bool, cond, true, false, ◌&&◌, ltb, min, ◌==◌, List, [], ◌∷◌, length, take, drop, ℤ, pos, negsuc}
use Rattle.std.specs.Bool.{beq}
use Rattle.std.specs.Char.{is_ascii_digit}
use Rattle.std.specs.List.{fold, ends_with, take_while}

-- how many digits stand at the front, or other bytes
abbrev pub run : Bool → List ℕ → ℕ
run of_digits s = length (take_while (λ b. beq (is_ascii_digit b) of_digits) s)

-- the bytes from the first digit on
abbrev pub from_digit : List ℕ → List ℕ
from_digit s = drop (run false s) s

-- a minus, which is the byte 45, stands directly before the first digit
abbrev pub is_negative : List ℕ → Bool
is_negative s = ends_with ◌==◌ (take (run false s) s) (45 ∷ [])

-- the digits of the first number
abbrev pub digits : List ℕ → List ℕ
digits s = take (run true (from_digit s)) (from_digit s)

-- the bytes after the first number
abbrev pub after_number : List ℕ → List ℕ
after_number s = drop (run true (from_digit s)) (from_digit s)

-- a number with one digit more, of 32 bits. The digits are the bytes 48 to 57, and 48 is 3 times 16
abbrev pub with_digit : ℕ → ℕ → ℕ
with_digit n b = (10 * n + b % 16) % 4294967296

-- the first number without its sign
abbrev pub natural : List ℕ → ℕ
natural s = fold with_digit 0 (digits s)

-- the first number, of 31 bits and its sign. The least is one larger in size than the greatest
abbrev pub signed : List ℕ → ℤ
signed s = cond (is_negative s && ltb 0 (natural s))
    (negsuc ((natural s - 1) % 2147483648))
    (pos (natural s % 2147483648))

-- the first n numbers
unfoldable pub signed_numbers : ℕ → List ℕ → List ℤ
signed_numbers zero s = []
signed_numbers (suc n) s = signed s ∷ signed_numbers n (after_number s)

-- the bytes after the first n numbers
unfoldable pub after_numbers : ℕ → List ℕ → List ℕ
after_numbers zero s = s
after_numbers (suc n) s = after_numbers n (after_number s)

-- how many numbers of a list are read: as many as stand before them, and no more than there is room for
abbrev pub list_length : ℕ → List ℕ → ℕ
list_length room s = min (natural s) room

-- What the code finds in a text and writes to a list.
use Rattle.std.specs.Prelude.{ℕ, List, ℤ, take, drop, Option, Some, None, Result, Ok, Err}
use Rattle.text.specs.Words.{words}
use Rattle.fit_text.specs.declared.parsing.ReadError.{ReadError}
use Rattle.fit_text.specs.Input.{Given, Numbers, TooMany, Unreadable}

-- the same as a `Given`, where all numbers of the list are read: they, and the words from a place of the text on
abbrev pub all_given : List ℕ → List ℤ → Option ℕ → Given
all_given s out (Some after) = Numbers out (words (drop after s))
all_given s out None = Unreadable

-- the same where the first numbers of the list are read
abbrev pub as_given : List ℕ → List ℤ → Result (ℕ × ℕ) ReadError → Given
as_given s out (Ok (n, after)) = Numbers (take n out) (words (drop after s))
as_given s out (Err ReadError.TooMany) = TooMany
as_given s out (Err ReadError.Unreadable) = Unreadable

-- how many numbers it writes
abbrev pub count_of : Result (ℕ × ℕ) ReadError → ℕ
count_of (Ok (n, after)) = n
count_of (Err e) = 0

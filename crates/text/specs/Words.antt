-- Rule 8.2, the words of a text: split by one or more spaces or line ends, which may also stand before the first and
-- after the last. `proofs/WordLaws.antt` has the rules of `words`, and that each word has a byte and no separator.
use Rattle.std.specs.Prelude.{ℕ, Bool, cond, ◌||◌, List, [], ◌∷◌, ◌++◌, eqb}

-- a byte that splits words: a space (byte 32) or a line end (byte 10)
abbrev pub is_separator : ℕ → Bool
is_separator b = eqb b 32 || eqb b 10

-- a word that has begun, at the end of its bytes; none if it has no bytes
abbrev pub ended : List ℕ → List (List ℕ)
ended [] = []
ended (b ∷ w) = (b ∷ w) ∷ []

-- the words of a text where a word has begun with the bytes w
unfoldable pub words_from : List ℕ → List ℕ → List (List ℕ)
words_from w [] = ended w
words_from w (b ∷ s) = cond (is_separator b) (ended w ++ words_from [] s) (words_from (w ++ b ∷ []) s)

-- the words of a text
abbrev pub words : List ℕ → List (List ℕ)
words s = words_from [] s

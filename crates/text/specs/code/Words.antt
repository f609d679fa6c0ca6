-- How the code finds words: it passes the separators, and then the other bytes.
use Rattle.std.specs.Prelude.{ℕ, suc, Bool, true, false, cond, not, List, [], ◌∷◌}
use Rattle.text.specs.Words.{is_separator}

-- a byte is a separator, or is not
abbrev pub is_of : Bool → ℕ → Bool
is_of true b = is_separator b
is_of false b = not (is_separator b)

-- how many such bytes a text begins with
unfoldable pub run : Bool → List ℕ → ℕ
run separators [] = 0
run separators (b ∷ s) = cond (is_of separators b) (suc (run separators s)) 0

-- there is no word
abbrev pub is_empty : List (List ℕ) → Bool
is_empty [] = true
is_empty (w ∷ ws) = false

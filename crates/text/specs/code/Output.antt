-- How the code makes a text, part by part.
use Rattle.std.specs.Prelude.{ℕ, ◌+◌, ◌≤◌, cond, ◌≡◌, List, [], ◌∷◌, ltb, length, set}
use Rattle.text.specs.declared.output.Text.{Text}
use Rattle.text.specs.Output.{room}

-- a value that holds a text: it has all places, and its count is not above them
pub record IsText (t : Text) : Type 0 where
  pub fits : t.count ≤ room
  pub places : length t.bytes ≡ room

-- a text with one byte more; a full one stays as it is
unfoldable pub pushed : Text → ℕ → Text
pushed t b = cond (ltb t.count room) (record { count = t.count + 1; bytes = set t.bytes t.count b }) t

-- a text with the bytes of a list after it
unfoldable pub appended : Text → List ℕ → Text
appended t [] = t
appended t (b ∷ s) = appended (pushed t b) s

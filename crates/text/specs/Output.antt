-- A text as one value.
use Rattle.std.specs.Prelude.{ℕ, ◌-◌, List, ◌++◌, length, replicate}
use Rattle.text.specs.declared.output.Text.{Text}

-- how many bytes it has room for
abbrev pub room : ℕ
room = 512

-- a text of at most so many bytes as one value: its count and its bytes, the unused places zero
unfoldable pub text_of : List ℕ → Text
text_of s = record { count = length s; bytes = s ++ replicate (room - length s) 0 }

-- What the fit program writes.
use Rattle.hausdorff.specs.declared.Report.{Report}
use Rattle.std.specs.Prelude.{ℕ, cond, List, Option, Some, None, ◌≡◌, ltb, length, Result}
use Rattle.text.specs.Ascii.{ascii}
use Rattle.outline.specs.declared.Refusal.{Refusal}
use Rattle.hausdorff.specs.declared.Done.{Done}
use Rattle.fit_lines.specs.Lines.{refusal_line, done_text, comparison_text}
use Rattle.fit_text.specs.Input.{outcome}

-- the lines of a comparison, or `unreadable`
abbrev pub outcome_text : Option (Result Report Refusal) → List ℕ
outcome_text (Some c) = comparison_text c
outcome_text None = ascii "unreadable\n"

-- rule 8.1: an input may have 16 KiB
abbrev pub most_bytes : ℕ
most_bytes = 16384

-- what an input gives; with more bytes it is unreadable, before anything else is judged
abbrev pub judged : List ℕ → Option (Result Report Refusal)
judged s = let read = outcome s in cond (ltb most_bytes (length s)) None read

-- what the program writes for an input
abbrev pub response : List ℕ → List ℕ
response s = outcome_text (judged s)

-- rule 8.10: a text is one of the three that the program writes
pub data LaidDown (t : List ℕ) : Type 0 where
  -- the line `unreadable`
  unreadable : t ≡ ascii "unreadable\n" → LaidDown t
  -- a refusal in one line
  refused : (r : Refusal) → t ≡ refusal_line r → LaidDown t
  -- the seven lines of a comparison that is done
  done : (d : Done) → t ≡ done_text d → LaidDown t

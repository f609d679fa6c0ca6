-- `fit_text::respond` goes by the length of the input and by what it gives.
use mathlib.Core.List.{[]}
use borrow.Author.Tests.{lt-ltb, le-ltb}
use mathlib.Core.List.{List}
use mathlib.Core.Path.{◌≡◌, sym, ◌∙◌}
use Prim.Native.Nat.{ℕ, ◌≤◌, ◌<◌}
use lib.ListN.{length}
use Rattle.std.specs.Prelude.{Result}
use Rattle.outline.specs.declared.Refusal.{Refusal}
use Rattle.hausdorff.specs.declared.Report.{Report}
use Rattle.text.specs.declared.output.Text.{Text}
use Rattle.text.specs.Ascii.{ascii}
use Rattle.text.specs.Output.{room, text_of}
use Rattle.text.specs.code.Output.{appended}
use Rattle.text.proofs.OutputLaws.{text_of-appended}
use Rattle.fit_lines.specs.Lines.{comparison_text}
use Rattle.std.specs.Prelude.{Some, None}
use Rattle.fit_text.specs.Input.{outcome}
use Rattle.fit_text.specs.Response.{most_bytes, judged, response}
use Rattle.fit_text.proofs.ResponseLaws.{response-fits}
use Rattle.fit_text.proofs.respond.Goals as goal

module _ (s : List ℕ) where
  abbrev Right : Text → Type 0
  Right r = record { bytes : r ≡ text_of (response s); whole : length (response s) ≤ room }

  too_long : most_bytes < length s → judged s ≡ None
  too_long long = rw (lt-ltb most_bytes (length s) long)

  short-enough : length s ≤ most_bytes → judged s ≡ outcome s
  short-enough short = rw (le-ltb most_bytes (length s) short)

  unread : {r : Text} → r ≡ text_of (ascii "unreadable\n") → judged s ≡ None → Right r
  unread is judgement = record { bytes = rw judgement is; whole = response-fits s }

  compared : {t r : Text} {c : Result Report Refusal} → t ≡ text_of [] → r ≡ appended t (comparison_text c) → judged s ≡ Some c
      → Right r
  compared {c} empty is judgement =
      let fits : length (comparison_text c) ≤ room = rw judgement at (response-fits s) in
      record { bytes = rw (judgement, is, empty) (text_of-appended [] (comparison_text c) fits); whole = response-fits s }

pub returns-then-input-gt-MOST_BYTES : goal.returns-then-input-gt-MOST_BYTES
returns-then-input-gt-MOST_BYTES c =
    let s = c.args.input.now in
    unread s c.unreadable.ensures (too_long s c.if-input-gt-MOST_BYTES.true)

pub returns-in-Some : goal.returns-in-Some
returns-in-Some c =
    let s = c.args.input.now in
    compared s c.empty.ensures c.comparison.ensures
    (short-enough s c.if-input-gt-MOST_BYTES.false ∙ sym c.read.ensures ∙ c.in-Some.is)

pub returns-in-None : goal.returns-in-None
returns-in-None c =
    let s = c.args.input.now in
    unread s c.unreadable-in-None.ensures (short-enough s c.if-input-gt-MOST_BYTES.false ∙ sym c.read.ensures ∙ c.in-None.is)

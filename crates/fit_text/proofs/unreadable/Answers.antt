-- `fit_text::unreadable` puts the word and a line end into an empty text.
use mathlib.Core.List.{[]}
use mathlib.Core.Path.{◌≡◌}
use native.Mathlib.Omega.{arith}
use Rattle.text.specs.declared.output.Text.{Text}
use Rattle.text.specs.Ascii.{ascii}
use Rattle.text.specs.Output.{text_of}
use Rattle.text.specs.code.Output.{appended}
use Rattle.text.proofs.OutputLaws.{text_of-appended}
use Rattle.fit_text.proofs.unreadable.Goals as goal

written : {t r : Text} → t ≡ text_of [] → r ≡ appended t (ascii "unreadable\n") → r ≡ text_of (ascii "unreadable\n")
written empty is = rw (is, empty) (text_of-appended [] (ascii "unreadable\n") (omega arith))

pub returns : goal.returns
returns c = written c.empty.ensures c.bytes.ensures

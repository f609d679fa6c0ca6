-- Laws of what is appended to a text.
--     by-case                    what is appended goes by the case of a value
--     empty-text, longer-text    the empty text, and one with bytes after it, are texts
use mathlib.Core.Path.{◌≡◌}
use mathlib.Core.List.{List, []}
use native.Mathlib.Omega.{arith}
use Prim.Native.Nat.{ℕ}
use Rattle.text.specs.declared.output.Text.{Text}
use Rattle.text.specs.Output.{text_of}
use Rattle.text.specs.code.Output.{IsText, appended}
use Rattle.text.proofs.OutputLaws.{appended-text, text_of-text}

pub by-case : {X : Type 0} (f : X → List ℕ) (t : Text) {x y : X} {r : Text}
    → x ≡ y → r ≡ appended t (f y) → r ≡ appended t (f x)
by-case f t same is = rw same is

-- so that a program may print what it puts together
pub empty-text : {t : Text} → t ≡ text_of [] → IsText t
empty-text is = rw is (text_of-text [] (omega arith))

pub longer-text : (t : Text) (s : List ℕ) {r : Text} → r ≡ appended t s → IsText t → IsText r
longer-text t s is text = rw is (appended-text t s text)

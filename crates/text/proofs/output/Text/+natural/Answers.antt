-- `Text::natural` puts a tenth of the number and then its last digit.
use mathlib.Core.Path.{◌≡◌, ◌∙◌}
use native.Mathlib.Omega.{arith}
use Prim.Native.Nat.{ℕ, ◌+◌, ◌/◌, ◌%◌, ◌^◌, ◌≤◌, ◌<◌}
use lib.Dec.{lit<}
use Rattle.text.specs.declared.output.Text.{Text}
use Rattle.text.specs.Decimal.{decimal}
use Rattle.text.specs.code.Output.{pushed, appended}
use Rattle.text.proofs.DecimalLaws.{decimal-small, decimal-more}
use Rattle.text.proofs.OutputLaws.{appended-snoc}
use Rattle.text.proofs.output.Text.+natural.Goals as goal

one-digit : (t : Text) (n : ℕ) → n < 10 → pushed t (48 + n % 10) ≡ appended t (decimal n)
unfolding appended
one-digit t n small = rw (decimal-small n small)

one_more : (t u : Text) (n : ℕ) → n < 10 ^ 20 → 10 ≤ n → u ≡ appended t (decimal (n / 10))
    → pushed u (48 + n % 10) ≡ appended t (decimal n)
one_more t u n below large front = rw (front, decimal-more n below large) (appended-snoc t (decimal (n / 10)) (48 + n % 10))

pub returns-then-n-lt10 : goal.returns-then-n-lt10
returns-then-n-lt10 t c = c.push.ensures ∙ one-digit _ _ c.if-n-lt10.true

pub returns : goal.returns
returns t c =
    let enough : 2 ^ 64 < 10 ^ 20 = lit< tt in
    c.push-2.ensures ∙ one_more _ _ _ (omega arith) c.if-n-lt10.false c.natural-longer.ensures

-- `Text::signed` goes by the sign: a minus and the size, or the number.
use mathlib.Core.Bool.{true}
use mathlib.Core.Path.{◌≡◌, ap, ◌∙◌}
use Prim.Native.Nat.{ℕ}
use lib.IntN.{ℤ, pos, nat_abs}
use lib.Signed.{lt_z}
use mir.Syntax.{w64}
use mir.ValLaws.{to_z-of_z}
use Rattle.text.specs.declared.output.Text.{Text}
use Rattle.text.specs.Ascii.{ascii}
use Rattle.text.specs.Decimal.{decimal, signed_decimal}
use Rattle.text.specs.code.Output.{appended}
use Rattle.integers.proofs.Order.{lt_z-true, lt_z-false}
use Rattle.text.proofs.DecimalLaws.{signed_below, signed_above}
use Rattle.text.proofs.OutputLaws.{appended-append}
use Rattle.text.proofs.output.Text.signed.Goals as goal

with-minus : (t : Text) {u r : Text} {n : ℕ} (z : ℤ) → lt_z z (pos 0) ≡ true
    → u ≡ appended t (ascii "-") → n ≡ nat_abs z → r ≡ appended u (decimal n) → r ≡ appended t (signed_decimal z)
with-minus t z below minus size rest = rw (rest, minus, size, appended-append, signed_below z (lt_z-true below))

pub returns-then-n-lt0 : goal.returns-then-n-lt0
returns-then-n-lt0 c =
    let z = c.args.n in
    let below = rw (to_z-of_z w64 z c.ranges.n) at c.if-n-lt0.true in
    let sized = c.unsigned_abs.ensures.value ∙ ap nat_abs (to_z-of_z w64 z c.ranges.n) in
    with-minus _ z below c.bytes.ensures sized c.natural.ensures

pub returns-else-n-lt0 : goal.returns-else-n-lt0
returns-else-n-lt0 c =
    let z = c.args.n in
    let f = c.ranges.n in
    let above = rw (to_z-of_z w64 z f) at c.if-n-lt0.false in
    c.natural-else-n-lt0.ensures ∙ rw (to_z-of_z w64 z f, signed_above z (lt_z-false above))

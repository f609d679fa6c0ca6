-- `fit_text::parsing::numbers` reads the numbers one after the other.
use Rattle.std.proofs.Common.{sym, ◌∙◌, arith}
use mir.Facts.{to_z-of_z}
use mir.Syntax.{w32}
use mir.Val.{SFits}
use borrow.Author.Rules.{sfits_of}
use Rattle.fit_text.proofs.InputLaws.{one-read, all_read, not-read}
use Rattle.fit_text.proofs.parsing.numbers.Goals as goal

pub returns-in_err-place : goal.returns-in_err-place
returns-in_err-place c =
    let first = sym c.next_number-number.ensures.number ∙ c.in_err-place.was in
    rw c.from_residual.ensures (not-read c.loop-place.invariant c.loop-place-test.true first)

pub loop-place-preserved : goal.loop-place-preserved
loop-place-preserved c =
    let z-fits : SFits w32 c.in_ok-place.field-0 = search sfits_of in
    let first = sym c.next_number-number.ensures.number ∙ c.in_ok-place.was in
    rw (to_z-of_z z-fits)
    (one-read c.loop-place.invariant c.loop-place-test.true _ first c.next_number-number.ensures.end)

pub returns : goal.returns
returns c = all_read c.loop-place.invariant (omega arith)

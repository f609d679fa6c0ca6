-- `calls::mismatch` goes by what the checks of the lists find, and then by the sum.
use mathlib.Core.Path.{refl, sym}
use Rattle.std.proofs.lemmas.Result.{err_from_is_err_and}
use Rattle.mismatch.proofs.CallLaws.{call-refused, call-summed, call-promises}
use Rattle.calls.proofs.mismatch.Goals as goal

pub returns-in_err-outlines-clause-rules : goal.returns-in_err-outlines-clause-rules
returns-in_err-outlines-clause-rules c =
    let p = err_from_is_err_and c.from_residual.result c.from_residual.ensures.1 in
    let refuses = rw c.in_err-outlines.was at c.accept_pair.ensures in
    rw (p.1, p.2) (call-promises _ _ (call-refused _ _ (sym refuses) refl)).1

pub returns-clause-rules : goal.returns-clause-rules
returns-clause-rules c =
    let (is-a, is_b, takes) = (rw c.in_ok-outlines.was at c.accept_pair.ensures) in
    (call-promises _ _ (call-summed _ _ (sym takes) refl (rw (is-a, is_b) at c.mismatch_sum.ensures))).1

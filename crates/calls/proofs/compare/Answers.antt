-- `calls::compare` goes by what the checks of the lists find, and then by the report of the steps.
use mathlib.Core.Path.{refl, sym}
use Rattle.std.proofs.lemmas.Result.{err_from_is_err_and}
use Rattle.hausdorff.proofs.CallLaws.{call-refused, call-reported, call-promises}
use Rattle.calls.proofs.compare.Goals as goal

pub returns-in_err-outlines-clause-rules : goal.returns-in_err-outlines-clause-rules
returns-in_err-outlines-clause-rules c =
    let p = err_from_is_err_and c.from_residual.result c.from_residual.ensures.1 in
    let refuses = rw c.in_err-outlines.was at c.accept_pair.ensures in
    rw (p.1, p.2) (call-promises _ _ _ (call-refused _ _ _ (sym refuses) refl)).1

pub returns : goal.returns
returns c =
    let (is-a, is_b, takes) = (rw c.in_ok-outlines.was at c.accept_pair.ensures) in
    let promised = call-promises _ _ _ (call-reported _ _ _ (sym takes) refl (rw (is-a, is_b) at c.compare.ensures)) in
    record { answer = promised.0; rules = promised.1 }

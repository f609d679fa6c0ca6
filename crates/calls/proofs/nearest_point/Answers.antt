-- `calls::nearest_point` goes by what the checks of the list give and then by the point's range.
use mathlib.Core.Path.{ap, refl, ◌∙◌}
use mathlib.Core.Bool.{not}
use Rattle.std.proofs.lemmas.Result.{err_from_is_err_and}
use Rattle.plane.proofs.Tests.{in_range-true}
use Rattle.outline.proofs.OrientationLaws.{held-length}
use Rattle.nearest.proofs.CallLaws.{call-refused, call-out-of-range, call_below, call-found, call-promises}
use Rattle.calls.proofs.nearest_point.Goals as goal

pub returns-in_err-outline : goal.returns-in_err-outline
returns-in_err-outline c =
    let p = err_from_is_err_and c.from_residual.result c.from_residual.ensures.1 in
    let refuses = rw c.in_err-outline.was at c.accept.ensures in
    let promised = call-promises _ _ (call-refused _ _ refl refuses) in
    rw (p.1, p.2) (record { answer = promised.0; rules = promised.1 })

pub returns-then-not-in_range : goal.returns-then-not-in_range
returns-then-not-in_range c =
    let takes = rw c.in_ok-outline.was at c.accept.ensures in
    let promised =
    call-promises _ _ (c.refuse.ensures ∙ call-out-of-range _ _ refl takes.taken
    (ap not (rw c.in_range.ensures at c.if-not-in_range.true))) in
    record { answer = promised.0; rules = promised.1 }

pub nearest-nearest-requires : goal.nearest-nearest-requires
nearest-nearest-requires c = (in_range-true _).0 (rw c.in_range.ensures at c.if-not-in_range.false)

pub given_nearest-requires : goal.given_nearest-requires
given_nearest-requires c =
    let takes = rw c.in_ok-outline.was at c.accept.ensures in
    call_below _ _ refl takes.taken takes.orientation (rw takes.numbers at c.nearest-nearest.ensures)
    (c.count.ensures ∙ rw takes.numbers (held-length _ _))

pub returns : goal.returns
returns c =
    let takes = rw c.in_ok-outline.was at c.accept.ensures in
    let promised =
    call-promises _ _ (call-found _ _ refl takes.taken takes.orientation
    (ap not (rw c.in_range.ensures at c.if-not-in_range.false)) (rw takes.numbers at c.nearest-nearest.ensures)
    (c.count.ensures ∙ rw takes.numbers (held-length _ _)) c.given_nearest.ensures) in
    record { answer = promised.0; rules = promised.1 }

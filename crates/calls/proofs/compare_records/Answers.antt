-- `calls::compare_records` goes by what reading the chains finds, and then compares the lists of their corners.
use mathlib.Core.Path.{sym, ◌∙◌}
use native.Mathlib.Omega.{arith}
use lib.ListN.{length-take}
use mir.Facts.{to_z-of_z}
use Rattle.std.proofs.lemmas.Result.{err_from_is_err_and}
use Rattle.records.proofs.CallLaws.{records-refuses, call-promises, chains-compared}
use Rattle.calls.proofs.compare_records.Goals as goal

pub slice_bounds-a-end : goal.slice_bounds-a-end
slice_bounds-a-end c =
    let (_, in-a, _) = (rw (to_z-of_z c.ranges.a_start, to_z-of_z c.ranges.b_start) at c.in_ok-n.ensures) in
    omega (arith, in-a.at_most, c.read_chains.auto.a)

pub slice_bounds-compare-end : goal.slice_bounds-compare-end
slice_bounds-compare-end c = rw length-take (omega (arith, slice_bounds-a-end c.before))

pub slice_bounds-b-end : goal.slice_bounds-b-end
slice_bounds-b-end c =
    let (_, _, in_b) = (rw (to_z-of_z c.ranges.a_start, to_z-of_z c.ranges.b_start) at c.in_ok-n.ensures) in
    omega (arith, in_b.at_most, c.read_chains.auto.b)

pub slice_bounds-compare-end-2 : goal.slice_bounds-compare-end-2
slice_bounds-compare-end-2 c = rw length-take (omega (arith, slice_bounds-b-end c.before))

pub returns-in_err-n : goal.returns-in_err-n
returns-in_err-n c =
    let p = err_from_is_err_and c.from_residual.result c.from_residual.ensures.1 in
    let promised =
    call-promises _ _ _ _ (sym ((records-refuses _ _ _ _ _).1
    (rw (to_z-of_z c.ranges.a_start, to_z-of_z c.ranges.b_start) at c.in_err-n.ensures))) in
    rw (p.1, p.2) (record { answer = promised.0; rules = promised.1 })

pub returns : goal.returns
returns c =
    let promised =
    call-promises _ _ _ _ (c.compare.ensures.answer
    ∙ chains-compared _ _ _ _ (rw (to_z-of_z c.ranges.a_start, to_z-of_z c.ranges.b_start) at c.in_ok-n.ensures)) in
    record { answer = promised.0; rules = promised.1 }

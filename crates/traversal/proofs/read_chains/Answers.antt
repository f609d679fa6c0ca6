-- `traversal::read_chains` goes by the length of the store, by A's chain, by B's, and then by the corners of A's.
use mathlib.Core.Path.{refl, sym, ◌∙◌}
use native.Mathlib.Omega.{arith}
use lib.ListN.{length-take}
use mir.Facts.{to_z-of_z}
use Rattle.std.proofs.lemmas.Result.{err_from_is_err_and}
use Rattle.std.specs.Prelude.{Some}
use Rattle.outline.specs.declared.Side.TheVariants.{A, B}
use Rattle.outline.proofs.EitherLaws.{either-refused, checked-accepted}
use Rattle.records.proofs.CallLaws.{partial-fault, index-fault, corners-fault, fault-a, fault-b}
use Rattle.traversal.proofs.read_chains.Goals as goal

pub returns-then-store-ne0 : goal.returns-then-store-ne0
returns-then-store-ne0 c = rw c.refuse.ensures (partial-fault _ _ _ c.if-store-ne0.true)

pub returns-in_err-n : goal.returns-in_err-n
returns-in_err-n c =
    let p = err_from_is_err_and c.from_residual.result c.from_residual.ensures.1 in
    let fault = rw (to_z-of_z c.ranges.a_start) at c.in_err-n.ensures in
    rw (p.1, p.2) (fault-a _ _ _ c.if-store-ne0.false (index-fault (Some A) _ _ fault))

pub slice_bounds-check_either-end : goal.slice_bounds-check_either-end
slice_bounds-check_either-end c =
    let ended = rw (to_z-of_z c.ranges.a_start) at c.in_ok-n.ensures in
    omega (arith, ended.at_most, c.requires.most_in_bounds, c.read_chain.auto.out)

pub slice_bounds-check_either-end-in-Err : goal.slice_bounds-check_either-end-in-Err
slice_bounds-check_either-end-in-Err c =
    let ended = rw (to_z-of_z c.ranges.a_start) at c.in_ok-n.ensures in
    rw length-take (omega (arith, ended.at_most, c.requires.most_in_bounds, c.read_chain.auto.out))

pub returns-in-Ok : goal.returns-in-Ok
returns-in-Ok c = (
  c.if-store-ne0.false,
  rw (to_z-of_z c.ranges.a_start) at c.in_ok-n.ensures,
  rw (to_z-of_z c.ranges.b_start) at c.in-Ok.ensures,
)

pub returns-in_err-check_either-in-Err : goal.returns-in_err-check_either-in-Err
returns-in_err-check_either-in-Err c =
    let ended = rw (to_z-of_z c.ranges.a_start) at c.in_ok-n.ensures in
    let judged = rw ended.written at c.check_either.ensures in
    let last = c.from_residual-in_err-check_either-in-Err in
    let p = err_from_is_err_and last.result last.ensures.1 in
    rw (p.1, p.2) (fault-a _ _ _ c.if-store-ne0.false (corners-fault (Some A) _ _ ended.ends
    ((either-refused (Some A) _ _).0 (sym judged ∙ c.in_err-check_either-in-Err.was))))

pub returns-in_ok-check_either-in-Err : goal.returns-in_ok-check_either-in-Err
returns-in_ok-check_either-in-Err c =
    let ended = rw (to_z-of_z c.ranges.a_start) at c.in_ok-n.ensures in
    let judged = rw ended.written at c.check_either.ensures in
    fault-b _ _ _ c.if-store-ne0.false _ ended.ends
    (checked-accepted (Some A) _ judged c.in_ok-check_either-in-Err.was refl)
    (index-fault (Some B) _ _ (rw (to_z-of_z c.ranges.b_start) at c.in-Err.ensures))

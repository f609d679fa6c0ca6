-- `calls::accept_pair` goes by what the checks of A's list give, and then by those of B's.
use mathlib.Core.Path.{refl, sym}
use Rattle.std.proofs.lemmas.Result.{err_from_is_err_and}
use Rattle.hausdorff.proofs.CallLaws.{check_pair-refused-a, check_pair-refused-b, check_pair-taken}
use Rattle.calls.proofs.accept_pair.Goals as goal

pub returns-in_err-accept : goal.returns-in_err-accept
returns-in_err-accept c =
    let p = err_from_is_err_and c.from_residual.result c.from_residual.ensures.1 in
    rw (p.1, p.2) (sym (check_pair-refused-a _ _ refl (rw c.in_err-accept.was at c.accept.ensures)))

pub returns-in_err-accept-2 : goal.returns-in_err-accept-2
returns-in_err-accept-2 c =
    let p = err_from_is_err_and c.from_residual-in_err-accept-2.result c.from_residual-in_err-accept-2.ensures.1 in
    let of_a = rw c.in_ok-accept.was at c.accept.ensures in
    rw (p.1, p.2) (sym (check_pair-refused-b _ _ refl of_a.taken refl (rw c.in_err-accept-2.was at c.accept-2.ensures)))

pub returns : goal.returns
returns c =
    let of_a = rw c.in_ok-accept.was at c.accept.ensures in
    let of_b = rw c.in_ok-accept-2.was at c.accept-2.ensures in (
      of_a.numbers,
      of_b.numbers,
      sym (check_pair-taken _ _ refl of_a.taken refl of_b.taken of_a.orientation of_b.orientation),
    )

-- `summing::mismatch_sum` adds A's corners and B's, whose sum fits.
use native.Mathlib.Omega.{arith}
use Rattle.outline.proofs.EitherLaws.{accepted-held}
use Rattle.mismatch.proofs.MismatchLaws.{mismatch_sum-fits}
use Rattle.summing.proofs.mismatch_sum.Goals as goal

pub overflow_add-result : goal.overflow_add-result
overflow_add-result c =
    let fits = mismatch_sum-fits (accepted-held c.args.a.now.accepted) (accepted-held c.args.b.now.accepted) in
    omega (arith, fits, c.side_sum.ensures, c.side_sum-2.ensures)

-- `timing::greatest_digest` keeps the greatest so far, one point a turn.
use mathlib.Core.Path.{◌≡◌}
use native.Mathlib.Omega.{arith}
use Rattle.std.specs.Prelude.{max}
use Rattle.lists.proofs.FoldLaws.{fold_start, fold_on}
use Rattle.timing.proofs.greatest_digest.Goals as goal

pub loop-i-init : goal.loop-i-init
loop-i-init c = fold_start _ _ _ _

pub loop-i-preserved : goal.loop-i-preserved
loop-i-preserved c =
    let kept : c.max-greatest.result ≡ max c.loop-i.greatest c.digest_at.result = grind arith in
    rw (kept, c.digest_at.ensures, c.corner.ensures) (fold_on c.loop-i.invariant (omega arith))

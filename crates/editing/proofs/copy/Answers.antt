-- `editing::copy` copies a number a turn.
use Rattle.std.proofs.Common.{arith, pos}
use lib.Seq.{ext_get_or}
use Rattle.editing.proofs.copy.Goals as goal

pub returns : goal.returns
returns c =
    ext_get_or (pos 0) c.loop-i.to c.args.from.now (omega arith)
    (λ k below. c.loop-i.invariant k (omega arith))

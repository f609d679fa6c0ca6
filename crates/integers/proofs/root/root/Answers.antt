-- `integers::root::root` answers `root n`: its loop goes from guess to guess. The measure is the guess.
use native.Mathlib.Omega.{arith}
use mathlib.Core.Path.{refl}
use Rattle.integers.specs.code.Root.{root_by}
use Rattle.integers.proofs.Newton.{guess-first, guess-next, guess-root}
use Rattle.integers.proofs.root.root.Goals as goal

pub returns-then-n-eq0 : goal.returns-then-n-eq0
unfolding root_by
returns-then-n-eq0 c = rw c.if-n-eq0.true

pub loop-q-init : goal.loop-q-init
loop-q-init c = (guess-first c.ilog2.ensures.next_power_gt c.ilog2.ensures.bound, refl)

pub loop-q-preserved : goal.loop-q-preserved
loop-q-preserved c = let inv = c.loop-q.invariant in (guess-next (omega arith) inv.0 inv.1 (omega arith), refl)

pub returns : goal.returns
returns c = let inv = c.loop-q.invariant in guess-root inv.0 inv.1 (omega arith)

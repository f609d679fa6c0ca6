-- `integers::root::root` answers `root n`: its loop goes from guess to guess. The measure is the guess.
use mathlib.Core.Path.{◌≡◌}
use Prim.Native.Nat.{◌/◌}
use Rattle.integers.proofs.Newton.{Guess}
use Rattle.integers.proofs.root.root.Given as goal

abbrev pub invariant-loop-q : goal.invariant-loop-q
invariant-loop-q l = Guess l.n l.r × (l.q ≡ l.n / l.r)

abbrev pub decreases-loop-q : goal.decreases-loop-q
decreases-loop-q l = l.r

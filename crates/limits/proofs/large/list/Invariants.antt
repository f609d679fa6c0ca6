-- `limits::large::list` is safe: y is i (i - 1) / 2, which is below 8002; that it is at most 127 i keeps y + i in
-- range.
use Prim.Native.Nat.{◌+◌, ◌*◌, ◌-◌, ◌≤◌}
use mathlib.Core.Path.{◌≡◌}
use Rattle.limits.proofs.large.list.Given as goal

abbrev pub invariant-loop-i : goal.invariant-loop-i
invariant-loop-i l = (2 * l.y + l.i ≡ l.i * l.i) × (l.y ≤ 127 * l.i)

abbrev pub decreases-loop-i : goal.decreases-loop-i
decreases-loop-i l = 128 - l.i

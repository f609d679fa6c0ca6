-- `limits::large::list` is safe: y is i (i - 1) / 2, which is below 8002; that it is at most 127 i keeps y + i in
-- range.
use native.Mathlib.Nat.{mul-le-mul_right}
use native.Mathlib.Omega.{arith}
use Rattle.limits.proofs.large.list.Goals as goal

pub put_corners-requires : goal.put_corners-requires
put_corners-requires c =
    let i = c.loop-i.i in omega (arith, mul-le-mul_right {m = i} {n = 127} i (omega arith))

-- `reading::corners::previous` goes by whether the corner is corner 0, as the definition does.
use mathlib.Core.Path.{◌≡◌, refl, sym, ap}
use mathlib.Core.Logic.{◌≢◌}
use native.Mathlib.Omega.{arith}
use Prim.Native.Nat.{ℕ, zero, suc, ◌-◌}
use Rattle.outline.specs.Corners.{previous}
use Rattle.reading.proofs.corners.previous.Goals as goal

later : (n i : ℕ) → i ≢ 0 → i - 1 ≡ previous n i
later n zero other = absurd (other refl)
later n (suc i) other = omega arith

pub returns-then-i-eq0 : goal.returns-then-i-eq0
returns-then-i-eq0 c = sym (ap (previous _) c.if-i-eq0.true)

pub returns-else-i-eq0 : goal.returns-else-i-eq0
returns-else-i-eq0 c = later _ _ c.if-i-eq0.false

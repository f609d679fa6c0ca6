-- `reading::corners::given_corner` goes by the orientation, and clockwise by whether the corner is corner 0.
use mathlib.Core.Logic.{◌≢◌}
use mathlib.Core.Path.{◌≡◌, refl, sym}
use native.Mathlib.Omega.{arith}
use Prim.Native.Nat.{ℕ, zero, suc, ◌-◌, ◌<◌}
use Rattle.outline.specs.declared.Orientation.{Orientation}
use Rattle.outline.specs.declared.Orientation.TheVariants.{Clockwise}
use Rattle.outline.specs.Orientation.{given_corner}
use Rattle.outline.proofs.OrientationLaws.{given-first, given-rest}
use Rattle.reading.proofs.corners.given_corner.Goals as goal

first : (o : Orientation) (n : ℕ) {j : ℕ} → j ≡ 0 → j < n → 0 ≡ given_corner o n j
first o n is below = rw is (sym (given-first o n (omega arith)))

later : {o : Orientation} (n : ℕ) → o ≡ Clockwise → (j : ℕ) → j ≢ 0 → j < n → n - j ≡ given_corner o n j
later n clockwise zero other below = absurd (other refl)
later n clockwise (suc j) other below = rw clockwise (sym (given-rest n j (omega arith)))

pub returns-in-Counterclockwise : goal.returns-in-Counterclockwise
unfolding given_corner
returns-in-Counterclockwise c = rw c.in-Counterclockwise.is

pub returns-then-j-eq0 : goal.returns-then-j-eq0
returns-then-j-eq0 c = first _ _ c.if-j-eq0.true (omega arith)

pub returns-else-j-eq0 : goal.returns-else-j-eq0
returns-else-j-eq0 c = later _ c.in-Clockwise.is _ c.if-j-eq0.false (omega arith)

-- How large differences and products are.
--     span-⇀, span-difference     the vector between two points in range is within reach
--     at_most-side                 rule 1.8: a side number of points in range is at most 2,048,000,000 in size
--     square-fits                 so its square fits 64 bits
use mathlib.Core.Path.{◌≡◌}
use lib.IntN.{◌*ℤ◌}
use mir.Syntax.{w64}
use mir.Val.{SFits}
use Rattle.integers.specs.Size.{AtMost}
use Rattle.integers.proofs.Machine.{at_most--, value, times, fits}
use Rattle.plane.proofs.Arithmetic.{cross-is}
use Rattle.plane.specs.Range.{InRange}
use Rattle.plane.specs.code.Range.{Span, reach, product_limit}
use Rattle.plane.specs.Vector.{◌⇀◌, side}
use Rattle.plane.specs.declared.Corner.{Corner}
use Rattle.plane.specs.declared.Vector.{Vector}

pub span-⇀ : {p q : Corner} → InRange p → InRange q → Span reach (p ⇀ q)
unfolding ◌⇀◌
span-⇀ h k = record { x_size = at_most-- k.x_size h.x_size; y_size = at_most-- k.y_size h.y_size }

-- as a caller of `difference` has it
pub span-difference : {p q : Corner} {v : Vector} → v ≡ p ⇀ q → InRange p → InRange q → Span reach v
span-difference e h k = rw e (span-⇀ h k)

pub at_most-side : {p q v : Corner} → InRange p → InRange q → InRange v → AtMost product_limit (side p q v)
at_most-side h k l = (cross-is (span-⇀ h k) (span-⇀ h l)).bound

pub square-fits : {p q v : Corner} → InRange p → InRange q → InRange v → SFits w64 (side p q v *ℤ side p q v)
square-fits h k l = let z = value (at_most-side h k l) in fits (times z z) tt

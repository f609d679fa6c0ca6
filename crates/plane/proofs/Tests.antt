-- The tests of points and their meanings.
--     in_range-true    `in_range` holds exactly of points in range
--     same_true       `same` holds exactly of equal points
--     same-is         `==` on points answers `same`
--     is_left-true, is_right-true    these hold exactly where the side number is positive, and negative
use mathlib.Core.Path.{◌≡◌, ap}
use mathlib.Core.Logic.{◌↔◌}
use mathlib.Core.Bool.{true, ◌&&◌}
use Rattle.std.specs.Ordering.{int_eq}
use lib.IntN.{ℤ, pos, nat_abs}
use lib.Signed.{◌<ℤ◌}
use Rattle.integers.specs.Equal.{eq_z}
use Rattle.integers.specs.Size.{AtMost}
use Rattle.integers.proofs.Order.{lt_z-true, <ℤ-lt_z}
use Rattle.integers.proofs.Reflect.{test-and, test-leb, test-eq_z, int_eq-is}
use Rattle.plane.specs.declared.Corner.{Corner}
use Rattle.plane.specs.declared.Vector.{Vector}
use Rattle.plane.specs.Range.{InRange, limit}
use Rattle.plane.specs.code.Range.{is_coordinate, in_range}
use Rattle.plane.specs.Vector.{◌⇀◌, cross}
use Rattle.plane.specs.code.Tests.{is_left, is_right, same}

in-limit : (z : ℤ) → (is_coordinate z ≡ true) ↔ AtMost limit z
in-limit z = (λ e. record { size = (test-leb (nat_abs z) limit).0 e }, λ h. (test-leb (nat_abs z) limit).1 h.size)

pub in_range-true : (p : Corner) → (in_range p ≡ true) ↔ InRange p
unfolding in_range
in_range-true p =
    let both = test-and (is_coordinate p.x) (is_coordinate p.y) (in-limit p.x) (in-limit p.y) in
    (λ e. record { x_size = (both.0 e).0; y_size = (both.0 e).1 }, λ h. both.1 (h.x_size, h.y_size))

pub same_true : (p q : Corner) → (same p q ≡ true) ↔ (p ≡ q)
unfolding same
same_true p q =
    let both = test-and (eq_z p.x q.x) (eq_z p.y q.y) (test-eq_z p.x q.x) (test-eq_z p.y q.y) in
    (λ e. λ i. record { x = (both.0 e).0 i; y = (both.0 e).1 i }, λ e. both.1 (ap (λ (r : Corner). r.x) e, ap (λ (r : Corner). r.y) e))

pub same-is : (p q : Corner) → (int_eq p.x q.x && int_eq p.y q.y) ≡ same p q
unfolding same
same-is p q = rw (int_eq-is p.x q.x, int_eq-is p.y q.y)

module _ (from : Corner) (run : Vector) (v : Corner) where
  pub is_left-true : (is_left from run v ≡ true) ↔ (pos 0 <ℤ cross run (from ⇀ v))
  is_left-true = (lt_z-true, <ℤ-lt_z)

  pub is_right-true : (is_right from run v ≡ true) ↔ (cross run (from ⇀ v) <ℤ pos 0)
  is_right-true = (lt_z-true, <ℤ-lt_z)

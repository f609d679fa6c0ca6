-- All points of the plane that rule 1.6 speaks of: those at X/D and Y/D with whole numbers X, Y and D, D at least
-- 1. Here these numbers are unbounded, whatever types the code has for them. Lengths are squared, and all stays in
-- whole numbers.
use Rattle.std.specs.Prelude.{◌*◌, ◌≡◌, pos, nat_abs, ◌-ℤ◌, ◌*ℤ◌, ◌<ℤ◌}
use Rattle.integers.specs.declared.fraction.Fraction.{Fraction}
use Rattle.plane.specs.Vector.{dot}
use Rattle.plane.specs.declared.Corner.{Corner}
use Rattle.plane.specs.declared.Point.{Point}
use Rattle.plane.specs.declared.Vector.{Vector}

-- the lower number D is at least 1
abbrev pub Proper : Point → Type 0
Proper z = pos 0 <ℤ pos z.lower

-- a point with whole coordinates: D is 1
abbrev pub whole : Corner → Point
whole p = record { x = p.x; y = p.y; lower = 1 }

infix 60 ◌⇢◌
-- the vector from p to q, times both lower numbers
unfoldable pub ◌⇢◌ : Point → Point → Vector
p ⇢ q = record {
  x = q.x *ℤ pos p.lower -ℤ p.x *ℤ pos q.lower;
  y = q.y *ℤ pos p.lower -ℤ p.y *ℤ pos q.lower;
}

-- two proper points are the same point, whatever their lower numbers
pub record Same (y z : Point) : Type 0 where
  pub same_x : y.x *ℤ pos z.lower ≡ z.x *ℤ pos y.lower
  pub same_y : y.y *ℤ pos z.lower ≡ z.y *ℤ pos y.lower

-- |p - q|², for proper points
abbrev pub squared_distance : Point → Point → Fraction
squared_distance p q = record {
  upper = nat_abs (dot (q ⇢ p) (q ⇢ p));
  lower = (q.lower * p.lower) * (q.lower * p.lower);
}

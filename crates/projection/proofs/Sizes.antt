-- The numbers of an answer, computed in 64 bits. z is what a call of `side` or of `squared_length` gave.
--     length-cast, length-exact     a squared length, cast to u64: it is not negative and fits, and keeps its size
--     side-square-fits                   the square of a side number fits an i64
--     square-cast, square-exact     the square, cast to u64
use mathlib.Core.Path.{◌≡◌, ap}
use Prim.Native.Nat.{◌*◌}
use lib.Dec.{T}
use lib.IntN.{ℤ, nat_abs, ◌*ℤ◌}
use lib.Signed.{non_neg, yes_non_neg}
use mir.Syntax.{w64}
use mir.Val.{Fits, SFits}
use Rattle.integers.proofs.Machine.{i64, Exact, stored, times, fits, size_fits}
use Rattle.integers.proofs.Order.{square-nonneg}
use Rattle.plane.specs.declared.Vector.{Vector}
use Rattle.plane.specs.code.Range.{Span, reach, product_limit}
use Rattle.plane.specs.Vector.{cross, dot}
use Rattle.plane.proofs.Algebra.{dot-self}
use Rattle.plane.proofs.Arithmetic.{cross-local, dot-local}

module _ {a : Vector} {z : ℤ} (is : z ≡ dot a a) (h : Span reach a) where
  pub length-cast : T (non_neg (i64 z)) × Fits w64 (nat_abs (i64 z))
  length-cast = size_fits (dot-local h h is) (yes_non_neg (dot-self a)) tt

  pub length-exact : nat_abs (i64 z) ≡ nat_abs (dot a a)
  length-exact = ap nat_abs (dot-local h h is).exact

module _ {a b : Vector} {z : ℤ} (is : z ≡ cross a b) (h : Span reach a) (k : Span reach b) where
  square-is : Exact (product_limit * product_limit) (cross a b *ℤ cross a b) (i64 z *ℤ i64 z)
  square-is = times (cross-local h k is) (cross-local h k is)

  pub side-square-fits : SFits w64 (i64 z *ℤ i64 z)
  side-square-fits = fits square-is tt

  pub square-cast : T (non_neg (i64 (i64 z *ℤ i64 z))) × Fits w64 (nat_abs (i64 (i64 z *ℤ i64 z)))
  square-cast = size_fits (stored w64 square-is tt) (yes_non_neg (square-nonneg (cross a b))) tt

  pub square-exact : nat_abs (i64 (i64 z *ℤ i64 z)) ≡ nat_abs (cross a b *ℤ cross a b)
  square-exact = ap nat_abs (stored w64 square-is tt).exact

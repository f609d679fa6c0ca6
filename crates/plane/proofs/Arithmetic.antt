-- The functions of `plane` compute exactly in 64 bits. For an expression of the code, as a goal shows it, `-fits`
-- says that its result fits an i64, and `-is` that the result, read back, is the number that a contract names, with a
-- bound.
--     minus-fits, plus-fits                 of two products of components within reach
--     cross-is, dot-is                      the products of two vectors within reach
--     cross-local, dot-local                the same as a caller of `cross`, `dot`, `squared_length` has it in a local
-- Every hypothesis shows its numbers, so that `search` finds it in what a need is handed.
use mathlib.Core.Path.{◌≡◌}
use Prim.Native.Nat.{◌*◌}
use lib.IntN.{ℤ, ◌+ℤ◌, ◌-ℤ◌, ◌*ℤ◌}
use mir.Syntax.{w64}
use mir.Val.{SFits}
use Rattle.integers.specs.Size.{AtMost}
use Rattle.integers.proofs.Machine.{i64, Exact, value, stored, plus, minus, times, fits}
use Rattle.plane.specs.code.Range.{Span, reach, product_limit}
use Rattle.plane.specs.Vector.{cross, dot}
use Rattle.plane.specs.declared.Vector.{Vector}

abbrev pub product64 : ℤ → ℤ → ℤ
product64 y z = i64 (i64 y *ℤ i64 z)

product_is : {y z : ℤ} → AtMost reach y → AtMost reach z → Exact (reach * reach) (y *ℤ z) (i64 y *ℤ i64 z)
product_is h k = times (stored w64 (value h) tt) (stored w64 (value k) tt)

product : {y z : ℤ} → AtMost reach y → AtMost reach z → Exact (reach * reach) (y *ℤ z) (product64 y z)
product h k = stored w64 (product_is h k) tt

module _ {u v y z : ℤ} (hu : AtMost reach u) (hv : AtMost reach v) (hy : AtMost reach y) (hz : AtMost reach z) where
  minus_is : Exact product_limit ((u *ℤ v) -ℤ (y *ℤ z)) (product64 u v -ℤ product64 y z)
  minus_is = minus (product hu hv) (product hy hz)

  plus-is : Exact product_limit ((u *ℤ v) +ℤ (y *ℤ z)) (product64 u v +ℤ product64 y z)
  plus-is = plus (product hu hv) (product hy hz)

  pub minus-fits : SFits w64 (product64 u v -ℤ product64 y z)
  minus-fits = fits minus_is tt

  pub plus-fits : SFits w64 (product64 u v +ℤ product64 y z)
  plus-fits = fits plus-is tt

module _ {a b : Vector} (h : Span reach a) (k : Span reach b) where
  pub cross-is : Exact product_limit (cross a b) (product64 a.x b.y -ℤ product64 a.y b.x)
  unfolding cross
  cross-is = minus_is h.x_size k.y_size h.y_size k.x_size

  pub dot-is : Exact product_limit (dot a b) (product64 a.x b.x +ℤ product64 a.y b.y)
  unfolding dot
  dot-is = plus-is h.x_size k.x_size h.y_size k.y_size

  module _ {z : ℤ} where
    pub cross-local : z ≡ cross a b → Exact product_limit (cross a b) (i64 z)
    cross-local e = stored w64 (record { bound = cross-is.bound; exact = e }) tt

    pub dot-local : z ≡ dot a b → Exact product_limit (dot a b) (i64 z)
    dot-local e = stored w64 (record { bound = dot-is.bound; exact = e }) tt

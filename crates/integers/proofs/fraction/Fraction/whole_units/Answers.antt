-- `Fraction::whole_units` adds the whole part and the remainder, each in units. Neither is above their sum, which
-- fits.
use native.Mathlib.Omega.{arith}
use Rattle.integers.proofs.UnitsLaws.{units-by-parts}
use Rattle.integers.proofs.fraction.Fraction.whole_units.Goals as goal

pub overflow_mul-result : goal.overflow_mul-result
overflow_mul-result c =
    omega (arith, units-by-parts c.args.units c.args.self c.requires.bounded.lower_positive, c.requires.fits)

pub overflow_add-result : goal.overflow_add-result
overflow_add-result c =
    omega (arith, units-by-parts c.args.units c.args.self c.requires.bounded.lower_positive, c.requires.fits)

pub returns : goal.returns
returns c = units-by-parts _ _ c.requires.bounded.lower_positive

-- `Fraction::ceiling_root` answers `ceiling_root self`, which is not above its upper number, and so fits.
use native.Mathlib.Omega.{arith}
use Rattle.integers.proofs.RootLaws.{ceiling-suc, ceiling-root, ceiling-small}
use Rattle.integers.proofs.fraction.Fraction.ceiling_root.Goals as goal

pub overflow_add-result : goal.overflow_add-result
overflow_add-result c =
    let g = c.args.self in
    let is = ceiling-suc g.upper g.lower c.root.ensures (omega arith) in
    record { fits = omega (arith, is, ceiling-small c.requires (ceiling-root g c.requires)) }

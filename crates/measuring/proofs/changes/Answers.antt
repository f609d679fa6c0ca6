-- `measuring::changes` makes the definition's tests in order.
use Rattle.std.proofs.iter.Serving.{serving}
use Rattle.integers.specs.code.Fraction.{Bounded}
use Rattle.plane.specs.Range.{InRange}
use Rattle.measuring.specs.LocalFeature.{local_values}
use Rattle.measuring.proofs.GapSizes.{local_values-bounded}
use Rattle.measuring.proofs.WindowLaws.{window-range}
use Rattle.measuring.proofs.changes.Goals as goal

-- the new gap is a window's, and the old one is asked to be bounded
pub is_none_or-requires : goal.is_none_or-requires
is_none_or-requires c = λ o is.
    let near : InRange c.args.own.corner = (window-range c.requires.window).corner in
    let new : Bounded (local_values c.args.own.corner c.args.w c.in-Some.f).gap =
    local_values-bounded c.requires.window_2 c.args.own.corner c.in-Some.f in
    let old : Bounded o.gap = rw is at c.requires.bounded_worst in
    grind serving

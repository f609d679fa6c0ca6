-- `summing::gap_units` rounds the gap of the nearest point, which is bounded, and in units fits.
use native.Mathlib.Nat.{lt_of_le_of_lt}
use lib.Dec.{lit<}
use Rattle.outline.proofs.EitherLaws.{accepted-held}
use Rattle.nearest.proofs.GapLimit.{nearest-bounded}
use Rattle.mismatch.proofs.MismatchLaws.{gap-units-at-most}
use Rattle.summing.proofs.gap_units.Goals as goal

pub whole_units-requires : goal.whole_units-requires
whole_units-requires c =
    let ok = accepted-held c.args.outline.now.accepted in
    rw c.nearest.ensures
    (record {
      bounded = nearest-bounded ok _;
      units_bound = lit< tt;
      fits = lt_of_le_of_lt (gap-units-at-most ok c.requires) (lit< tt);
    })

-- `AcceptedOutline::accept` takes a list that the checks take, with the orientation of its first three corners.
use mathlib.Core.Path.{refl}
use Rattle.outline.proofs.EitherLaws.{checked-accepted}
use Rattle.reading.proofs.accepted.AcceptedOutline.accept.Goals as goal

pub orientation-requires : goal.orientation-requires
orientation-requires c =
    let ok = checked-accepted _ _ c.check_either.ensures c.in_ok-check_either.was refl in
    record { fewest_in_bounds = ok.at_least; all_in_range = ok.all_in_range }

pub invariant_of-result : goal.invariant_of-result
invariant_of-result c =
    record { accepted = checked-accepted _ _ c.check_either.ensures c.in_ok-check_either.was c.orientation.ensures }

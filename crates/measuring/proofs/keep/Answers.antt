-- `measuring::keep` keeps the old worst so far, or puts together what takes its place.
use Rattle.measuring.proofs.WindowLaws.{local_values-below}
use Rattle.measuring.proofs.keep.Goals as goal

pub given_nearest-given-requires : goal.given_nearest-given-requires
given_nearest-given-requires c =
    rw c.local_values-nearest.ensures (local_values-below c.requires.window_2 c.args.own.corner c.in-Some.found)

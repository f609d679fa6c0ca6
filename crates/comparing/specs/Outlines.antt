-- Two accepted outlines as a pair. For the code alone.
use Rattle.reading.specs.declared.accepted.AcceptedOutline.{AcceptedOutline}
use Rattle.reading.specs.Accepted.{accepted_corners}
use Rattle.hausdorff.specs.declared.Sides.{Sides}
use Rattle.hausdorff.specs.Pair.{Pair, both, Orientations, both_orientations}

-- the corners of each as they are held
abbrev pub accepted_pair : Sides AcceptedOutline → Pair
accepted_pair outlines = both (accepted_corners outlines.a) (accepted_corners outlines.b)

-- the orientation of each
abbrev pub accepted_orientations : Sides AcceptedOutline → Orientations
accepted_orientations outlines = both_orientations outlines.a.orientation outlines.b.orientation

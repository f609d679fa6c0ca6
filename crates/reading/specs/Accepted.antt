-- The corners of an accepted outline. For the code alone.
use Rattle.std.specs.Prelude.{List}
use Rattle.plane.specs.declared.Corner.{Corner}
use Rattle.outline.specs.Corners.{corners}
use Rattle.outline.specs.Orientation.{as_held}
use Rattle.reading.specs.declared.accepted.AcceptedOutline.{AcceptedOutline}

-- as they are held
abbrev pub accepted_corners : AcceptedOutline → List Corner
accepted_corners outline = as_held outline.orientation (corners outline.numbers.now)

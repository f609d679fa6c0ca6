-- A corner's gap, computed.
use Rattle.std.specs.Prelude.{ℕ}
use Rattle.outline.specs.Corners.{corner}
use Rattle.nearest.specs.code.Local.{nearest}
use Rattle.outline.specs.declared.Side.{Side}
use Rattle.hausdorff.specs.declared.CornerGap.{CornerGap}
use Rattle.hausdorff.specs.Pair.{Pair, other}
use Rattle.hausdorff.specs.CornerGap.{with_corner}

-- corner i of a side, with what the nearest point of the other outline to it gives
abbrev pub corner_gap : Pair → Side → ℕ → CornerGap
corner_gap pair s i = with_corner s i (nearest (pair (other s)) (corner (pair s) i))

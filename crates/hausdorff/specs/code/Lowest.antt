-- Where the sweep begins: `proofs/LowestLaws.antt` shows that the start of an outline's first edge in the angular
-- order is this corner.
use Rattle.std.specs.Prelude.{ℕ, ◌<◌, List, length}
use Rattle.plane.specs.declared.Corner.{Corner}
use Rattle.plane.specs.Height.{NotAfter}
use Rattle.outline.specs.Corners.{corner}

-- a corner is the lowest of its outline, of several the leftmost
pub record LowestLeftmost (cs : List Corner) (i : ℕ) : Type 0 where
  pub known : i < length cs
  pub lowest : (j : ℕ) → j < length cs → NotAfter (corner cs i) (corner cs j)

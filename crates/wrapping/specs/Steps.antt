-- What the steps of wrapping promise of the lists that they change.
use Rattle.std.specs.Prelude.{ℕ, ◌*◌, ◌≡◌, List, ℤ, length, take}
use Rattle.plane.specs.declared.Corner.{Corner}
use Rattle.plane.specs.Vector.{coordinates}
use Rattle.outline.specs.Corners.{corners}
use Rattle.hull.specs.code.Wrapping.{is_candidate, kept}

-- the candidates from p among the points of a list stand first in it, and r is how many there are
pub record KeepsCandidates (s p : Corner) (before : List ℤ) (r : ℕ) (after : List ℤ) : Type 0 where
  pub long : length after ≡ length before
  pub count : r ≡ length (kept (is_candidate s p) (corners before))
  pub first : take (2 * r) after ≡ coordinates (kept (is_candidate s p) (corners before))

-- some corners stand first in a list, and r is how many there are
pub record Wraps (hs : List Corner) (r : ℕ) (after : List ℤ) : Type 0 where
  pub count : r ≡ length hs
  pub first : take (2 * r) after ≡ coordinates hs

-- What a step sees of an outline. For the code alone: `proofs/WindowLaws.antt` shows what a window says of its corners.
use Rattle.std.specs.Prelude.{ℕ, ◌<◌, ◌≡◌, List, length}
use Rattle.plane.specs.declared.Corner.{Corner}
use Rattle.outline.specs.declared.Orientation.{Orientation}
use Rattle.outline.specs.Convex.{Accepted}
use Rattle.outline.specs.Corners.{corner, next, previous}
use Rattle.outline.specs.Orientation.{given_corner}
use Rattle.measuring.specs.declared.Window.{Window}

-- the support corner b of an outline and the two corners on either side, counted round the outline
abbrev pub window_at : List Corner → ℕ → Window
window_at cs b = record {
  count = length cs;
  number = b;
  earlier = corner cs (previous (length cs) (previous (length cs) b));
  before = corner cs (previous (length cs) b);
  corner = corner cs b;
  after = corner cs (next (length cs) b);
  later = corner cs (next (length cs) (next (length cs) b));
}

-- the number of the support corner in the list as given, which has the orientation o
abbrev pub given_number : Orientation → Window → ℕ
given_number o w = given_corner o w.count w.number

-- a window is that of an accepted outline at one of its corners
pub record IsWindow (w : Window) : Type 0 where
  pub outline : List Corner
  pub accepted : Accepted outline
  pub known : w.number < length outline
  pub equal : w ≡ window_at outline w.number

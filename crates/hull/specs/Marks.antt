-- Rule 1.12: the mark of every point, given the corners of the hull.
use Rattle.std.specs.Prelude.{ℕ, ◌<◌, ◌≡◌, ◌≢◌, List, ℤ, pos, negsuc, length, get_or}
use Rattle.plane.specs.declared.Corner.{Corner}
use Rattle.outline.specs.Corners.{corner}

-- point i repeats an earlier point
abbrev pub Repeats : List Corner → ℕ → Type 0
Repeats ps i = (j : ℕ) × (j < i) × (corner ps j ≡ corner ps i)

-- m is the mark of point i of ps, where the hull has the corners hs
pub data IsMark (ps hs : List Corner) (i : ℕ) (m : ℤ) : Type 0 where
  -- -1 if it repeats an earlier point,
  repeats : Repeats ps i → m ≡ negsuc 0 → IsMark ps hs i m
  -- else its corner number,
  numbered : ¬ Repeats ps i → (k : ℕ) → k < length hs → corner hs k ≡ corner ps i → m ≡ pos k → IsMark ps hs i m
  -- else -2
  unnumbered : ¬ Repeats ps i → ((k : ℕ) → k < length hs → corner hs k ≢ corner ps i) → m ≡ negsuc 1 → IsMark ps hs i m

-- ms are the marks of the points, one for each
pub record AreMarks (ps hs : List Corner) (ms : List ℤ) : Type 0 where
  pub long : length ms ≡ length ps
  pub each : (i : ℕ) → i < length ps → IsMark ps hs i (get_or ms i (pos 0))

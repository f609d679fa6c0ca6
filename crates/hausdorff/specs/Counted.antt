-- Which corners the sweep counts, and the worst so far.
use Rattle.std.specs.Prelude.{ℕ, ◌<◌, ◌≡◌, ◌⊎◌, List, pos, length, ◌≤ℤ◌, Option, None, Some}
use Rattle.plane.specs.declared.Corner.{Corner}
use Rattle.plane.specs.declared.Point.{Point}
use Rattle.plane.specs.Point.{whole, ◌⇢◌, Same}
use Rattle.plane.specs.Vector.{dot}
use Rattle.outline.specs.Corners.{corner, next, previous, edge}
use Rattle.outline.specs.declared.Side.{Side}
use Rattle.nearest.specs.Nearest.{Nearest}
use Rattle.nearest.specs.Piece.{side_of, Outside}
use Rattle.hausdorff.specs.declared.CornerGap.{CornerGap}
use Rattle.hausdorff.specs.Pair.{Pair, Orientations, other}
use Rattle.hausdorff.specs.Answer.{Leads}
use Rattle.hausdorff.specs.Support.{support_after}

-- y lies on edge i, its ends included: on the edge's line, not before its start and not after its end
pub record LiesOn (cs : List Corner) (i : ℕ) (y : Point) : Type 0 where
  pub on_line : side_of cs i y ≡ pos 0
  pub from_start : pos 0 ≤ℤ dot (edge cs i) (whole (corner cs i) ⇢ y)
  pub to_end : pos 0 ≤ℤ dot (edge cs i) (y ⇢ whole (corner cs (next (length cs) i)))

-- y is corner b or lies on one of the two edges that meet there, ends included
abbrev pub LiesAt : List Corner → ℕ → Point → Type 0
LiesAt cs b y = (Same y (whole (corner cs b)) ⊎ LiesOn cs (previous (length cs) b) y) ⊎ LiesOn cs b y

-- rule 5.6: v counts, where b is the support corner of the other piece: it is not within that piece, and its
-- nearest point there is corner b or lies on one of the two edges that meet there
pub record Counts (cs : List Corner) (b : ℕ) (v : Corner) : Type 0 where
  pub outside : Outside cs (whole v)
  pub lies_at : (y : Point) × Nearest cs (whole v) y × LiesAt cs b y

-- corner i of side s counts in the step after j steps, which measures at the support corners after these
abbrev pub CountsAfter : Pair → ℕ → Side → ℕ → Type 0
CountsAfter pair j s i =
    (support_after pair j s ≡ i) × Counts (pair (other s)) (support_after pair j (other s)) (corner (pair s) i)

-- it counts in one of the first k steps; k is at most N
abbrev pub Counted : Pair → ℕ → Side → ℕ → Type 0
Counted pair k s i = (j : ℕ) × (j < k) × CountsAfter pair j s i

-- the greatest of some gaps, of equals the first; or none, if there are none of these
abbrev pub LeadsOrNone : Pair → Orientations → (CornerGap → Type 0) → Option CornerGap → Type 0
LeadsOrNone pair os Among None = (z : CornerGap) → ¬ Among z
LeadsOrNone pair os Among (Some w) = Leads pair os Among w

-- rule 5.7, the worst so far after k steps: the greatest gap that counts in them, of equals the first; or none, if
-- none counts
abbrev pub IsWorst : Pair → Orientations → ℕ → Option CornerGap → Type 0
IsWorst pair os k x = LeadsOrNone pair os (λ z. Counted pair k z.side z.corner) x

-- rule 5.8, the worst so far of a side: the same, of what counts of that side
abbrev pub IsSideWorst : Pair → Orientations → ℕ → Side → Option CornerGap → Type 0
IsSideWorst pair os k s x = LeadsOrNone pair os (λ z. (z.side ≡ s) × Counted pair k s z.corner) x

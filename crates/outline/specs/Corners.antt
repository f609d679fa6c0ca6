-- The corners of an outline.
use Rattle.std.specs.Prelude.{ℕ, zero, suc, ◌-◌, cond, List, [], ◌∷◌, ◌++◌, ltb, ℤ, pos, length, get_or, replicate}
use Rattle.plane.specs.declared.Corner.{Corner}
use Rattle.plane.specs.declared.Vector.{Vector}
use Rattle.plane.specs.Vector.{◌⇀◌}
use Rattle.outline.specs.declared.Outline.{Outline}

-- rule 1.1: x and y of corner 0, then of corner 1, and so on. A number left over at the end gives no corner
unfoldable pub corners : List ℤ → List Corner
corners [] = []
corners (x ∷ []) = []
corners (x ∷ (y ∷ s)) = record { x = x; y = y } ∷ corners s

-- the point (0, 0)
abbrev pub origin : Corner
origin = record { x = pos 0; y = pos 0 }

-- the corner with number i, for i below their count
abbrev pub corner : List Corner → ℕ → Corner
corner cs i = get_or cs i origin

-- of n corners the number of the one that follows corner i, for i below n; after the last comes corner 0
unfoldable pub next : ℕ → ℕ → ℕ
next n i = cond (ltb (suc i) n) (suc i) 0

-- of n corners the number of the one before corner i; before corner 0 comes the last
abbrev pub previous : ℕ → ℕ → ℕ
previous n zero = n - 1
previous n (suc i) = i

-- rule 1.2: edge i runs from corner i to the following one; its differences
abbrev pub edge : List Corner → ℕ → Vector
edge cs i = corner cs i ⇀ corner cs (next (length cs) i)

-- the fewest corners of an outline
abbrev pub fewest : ℕ
fewest = 3

-- the most corners of an outline
abbrev pub most : ℕ
most = 256

-- rule 1.7, an outline as one value: its count and places for 256 corners, the unused ones zero
unfoldable pub held : List Corner → Outline
held cs = record { count = length cs; corners = cs ++ replicate (most - length cs) origin }

-- Parts of a list.
use Rattle.std.specs.Prelude.{Bool, cond, List, [], ◌∷◌}

-- the first of a list, or z
abbrev pub head_or : {X : Type 0} → X → List X → X
head_or z [] = z
head_or z (x ∷ xs) = x

-- of x and the elements of a list the one that comes before all others: a later one takes the place of the first so far
-- where it comes before it
unfoldable pub first_by : {X : Type 0} → (X → X → Bool) → X → List X → X
first_by before x [] = x
first_by before x (y ∷ ys) = first_by before (cond (before y x) y x) ys

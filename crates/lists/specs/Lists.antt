-- Sorting a list by insertion.
use Rattle.std.specs.Prelude.{Bool, cond, List, [], ◌∷◌}

-- x before the first element that it is to come before, or at the end
unfoldable pub insert : {X : Type 0} → (X → X → Bool) → X → List X → List X
insert before x [] = x ∷ []
insert before x (y ∷ ys) = cond (before x y) (x ∷ y ∷ ys) (y ∷ insert before x ys)

-- a list in order, by inserting each element; `before` is to be a strict order, and total on the elements
unfoldable pub sort : {X : Type 0} → (X → X → Bool) → List X → List X
sort before [] = []
sort before (x ∷ xs) = insert before x (sort before xs)

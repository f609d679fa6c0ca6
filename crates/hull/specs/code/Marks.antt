-- The marks, computed: `proofs/MarksLaws.antt` shows that this is what `AreMarks` says and nothing else.
use Rattle.std.specs.Prelude.{ℕ, suc, Bool, false, cond, ◌||◌, List, [], ◌∷◌, ℤ, pos, negsuc, length, take}
use Rattle.lists.specs.Fold.{joined}
use Rattle.plane.specs.declared.Corner.{Corner}
use Rattle.plane.specs.code.Tests.{same}
use Rattle.outline.specs.Corners.{corner}

-- v is one of some points
unfoldable pub is_among : Corner → List Corner → Bool
is_among v [] = false
is_among v (c ∷ cs) = same c v || is_among v cs

-- point i repeats an earlier point
abbrev pub is_repeat : List Corner → ℕ → Bool
is_repeat ps i = is_among (corner ps i) (take i ps)

-- the number of v among some corners, of which the first has number k; or -2
unfoldable pub number_from : ℕ → List Corner → Corner → ℤ
number_from k [] v = negsuc 1
number_from k (c ∷ cs) v = cond (same c v) (pos k) (number_from (suc k) cs v)

-- the mark of point i
abbrev pub mark : List Corner → List Corner → ℕ → ℤ
mark ps hs i = cond (is_repeat ps i) (negsuc 0) (number_from 0 hs (corner ps i))

-- the marks of all points
unfoldable pub marks : List Corner → List Corner → List ℤ
marks ps hs = joined (λ i. mark ps hs i ∷ []) (length ps)

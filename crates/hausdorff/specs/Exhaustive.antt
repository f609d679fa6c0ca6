-- Rule 4.7: the exhaustive search. It takes the corners of A and B, and nothing from the sweep.
use Rattle.std.specs.Prelude.{ℕ, length}
use Rattle.lists.specs.Fold.{fold}
use Rattle.outline.specs.Corners.{corner}
use Rattle.nearest.specs.Search.{search}
use Rattle.outline.specs.declared.Side.{Side}
use Rattle.outline.specs.declared.Side.TheVariants.{A, B}
use Rattle.hausdorff.specs.declared.CornerGap.{CornerGap}
use Rattle.hausdorff.specs.Pair.{Pair, Orientations, given, other}
use Rattle.hausdorff.specs.CornerGap.{with_corner, worse}

-- what is found for corner i of a side, by trying every corner and edge of the other outline
abbrev pub searched : Pair → Side → ℕ → CornerGap
searched pair s i = with_corner s i (search (pair (other s)) (corner (pair s) i))

-- the worst of a side: its corner 0 at first, and then its corners by number as given, each of which takes the place only
-- if its gap is greater as a value. The corner with the number i as given is held as corner given i, since `given` taken
-- twice is the number itself (`given-twice` in `outline/proofs/OrientationLaws.antt`)
abbrev pub exhaustive_of : Pair → Orientations → Side → CornerGap
exhaustive_of pair os s = fold worse (searched pair s 0) (λ i. searched pair s (given pair os s i)) (length (pair s))

-- the worse of A's and B's; A's where the gaps are equal
abbrev pub exhaustive : Pair → Orientations → CornerGap
exhaustive pair os = worse (exhaustive_of pair os A) (exhaustive_of pair os B)

-- The mismatch sum, computed: `proofs/MismatchLaws.antt` shows that it is the one that `IsMismatchSum` admits.
use Rattle.std.specs.Prelude.{ℕ, ◌+◌, List, length}
use Rattle.integers.specs.code.Units.{whole_units}
use Rattle.lists.specs.Fold.{sum}
use Rattle.plane.specs.declared.Corner.{Corner}
use Rattle.outline.specs.Corners.{corner}
use Rattle.outline.specs.declared.Side.TheVariants.{A, B}
use Rattle.nearest.specs.code.Local.{nearest}
use Rattle.hausdorff.specs.Pair.{Pair}
use Rattle.mismatch.specs.MismatchSum.{units}

-- the gap of a point to an outline, in whole units
abbrev pub gap_units : List Corner → Corner → ℕ
gap_units cs v = whole_units units (nearest cs v).gap

-- those of the corners of one outline, vs, to another, added
abbrev pub side_sum : List Corner → List Corner → ℕ
side_sum vs cs = sum (λ i. gap_units cs (corner vs i)) (length vs)

-- A's corners and B's
abbrev pub mismatch_sum : Pair → ℕ
mismatch_sum pair = side_sum (pair A) (pair B) + side_sum (pair B) (pair A)

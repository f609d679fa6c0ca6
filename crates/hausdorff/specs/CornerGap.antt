-- A corner of one outline with its nearest point in the other.
use Rattle.std.specs.Prelude.{ℕ, cond, Option, None, Some}
use Rattle.integers.specs.Fraction.{is_less}
use Rattle.nearest.specs.declared.NearestPoint.{NearestPoint}
use Rattle.outline.specs.declared.Side.{Side}
use Rattle.hausdorff.specs.declared.CornerGap.{CornerGap}

-- a nearest point with the side and the corner that it is for
abbrev pub with_corner : Side → ℕ → NearestPoint → CornerGap
with_corner s i a = record { side = s; corner = i; feature = a.feature; gap = a.gap; point = a.point }

-- the nearest point alone
abbrev pub nearest_of : CornerGap → NearestPoint
nearest_of w = record { feature = w.feature; gap = w.gap; point = w.point }

-- of two, the one with the greater gap as a value; the first of equals
abbrev pub worse : CornerGap → CornerGap → CornerGap
worse w z = cond (is_less w.gap z.gap) z w

-- rule 5.8, the worse of A's worst so far and B's: A's where the gaps are equal, and the one that there is, if any
abbrev pub overall : Option CornerGap → Option CornerGap → Option CornerGap
overall None b = b
overall (Some a) None = Some a
overall (Some a) (Some b) = Some (worse a b)

-- The answer, from the nearest relation alone. It cites neither the steps nor the exhaustive search.
-- `proofs/AnswerLaws.antt` shows that there is one, and one of each side, and `leads-unique` that there is only one; and
-- that it is A's corner 0, within, if every gap is zero (rule 4.3), and of a side the side's corner 0, within, if every
-- gap of the side is zero (rule 4.8).
use Rattle.std.specs.Prelude.{ℕ, ◌<◌, ◌≤◌, ◌≡◌, length}
use Rattle.integers.specs.declared.fraction.Fraction.{Fraction}
use Rattle.integers.specs.Fraction.{NotGreater}
use Rattle.outline.specs.Corners.{corner}
use Rattle.nearest.specs.Nearest.{Answers}
use Rattle.outline.specs.declared.Side.{Side}
use Rattle.outline.specs.declared.Side.TheVariants.{A, B}
use Rattle.hausdorff.specs.declared.CornerGap.{CornerGap}
use Rattle.hausdorff.specs.Pair.{Pair, Orientations, given, other}
use Rattle.hausdorff.specs.CornerGap.{nearest_of}

-- rule 4.1: w is a corner of one outline with its feature, gap and nearest point in the other
pub record IsGap (pair : Pair) (w : CornerGap) : Type 0 where
  pub known : w.corner < length (pair w.side)
  pub answers : Answers (pair (other w.side)) (corner (pair w.side) w.corner) (nearest_of w)

-- A's corners come before B's, and then lower numbers
abbrev pub NotLater : Side → ℕ → Side → ℕ → Type 0
NotLater A i A j = i ≤ j
NotLater A i B j = Unit {0}
NotLater B i A j = ⊥
NotLater B i B j = i ≤ j

-- w is one of some gaps, the greatest of these as a value, and the first of equals by the numbers as given
pub record Leads (pair : Pair) (os : Orientations) (Among : CornerGap → Type 0) (w : CornerGap) : Type 0 where
  pub is_gap : IsGap pair w
  pub among : Among w
  pub greatest : (z : CornerGap) → IsGap pair z → Among z → NotGreater z.gap w.gap
  pub first_of_equals : (z : CornerGap) → IsGap pair z → Among z → NotGreater w.gap z.gap
      → NotLater w.side (given pair os w.side w.corner) z.side (given pair os z.side z.corner)

-- rule 4.2, the answer: it leads among all corners of both
abbrev pub IsAnswer : Pair → Orientations → CornerGap → Type 0
IsAnswer pair os w = Leads pair os (λ z. Unit {0}) w

-- rule 4.8, the answer of a side: it leads among the corners of that side
abbrev pub IsSideAnswer : Pair → Orientations → Side → CornerGap → Type 0
IsSideAnswer pair os s w = Leads pair os (λ z. z.side ≡ s) w

-- rule 4.4: the greatest gap over all corners of both
pub record TrueFigure (pair : Pair) (g : Fraction) : Type 0 where
  pub reached : (z : CornerGap) × IsGap pair z × (z.gap ≡ g)
  pub greatest : (z : CornerGap) → IsGap pair z → NotGreater z.gap g

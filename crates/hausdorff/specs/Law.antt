-- Rule 6.4: the one law about what comparing returns for two accepted outlines (`IsComparison` asks that they are) and
-- any allowance. It determines the report (`law-unique` in `proofs/Law.antt`).
use Rattle.std.specs.Prelude.{ℕ, ◌<◌, ◌≤◌, ◌≡◌, Option, None, Some}
use Rattle.integers.specs.declared.fraction.Fraction.{Fraction}
use Rattle.integers.specs.Fraction.{NotGreater}
use Rattle.integers.specs.Root.{CeilingRoot}
use Rattle.plane.specs.declared.Corner.{Corner}
use Rattle.outline.specs.Corners.{corner}
use Rattle.outline.specs.declared.Side.{Side}
use Rattle.outline.specs.declared.Side.TheVariants.{A, B}
use Rattle.nearest.specs.Feature.{within_values}
use Rattle.hausdorff.specs.declared.CornerGap.{CornerGap}
use Rattle.hausdorff.specs.declared.Spent.{Spent}
use Rattle.hausdorff.specs.declared.Done.{Done}
use Rattle.hausdorff.specs.declared.Report.{Report}
use Rattle.hausdorff.specs.Pair.{Pair, Orientations, other, step_count}
use Rattle.hausdorff.specs.CornerGap.{with_corner, worse, overall}
use Rattle.hausdorff.specs.Answer.{IsAnswer, IsSideAnswer, TrueFigure}
use Rattle.hausdorff.specs.Hausdorff.{Directed, Hausdorff}
use Rattle.hausdorff.specs.Exhaustive.{exhaustive_of, exhaustive}
use Rattle.hausdorff.specs.Support.{support_after}
use Rattle.hausdorff.specs.Counted.{IsWorst, IsSideWorst}

-- rule 6.3, the worst so far or, if it is none, corner 0 of a side, which is at `first`, within
abbrev pub or_within : Side → Corner → Option CornerGap → CornerGap
or_within s first None = with_corner s 0 (within_values first)
or_within s first (Some w) = w

-- rule 4.6, the clearance of a gap: the smallest whole number whose square is not below it
abbrev pub IsClearance : Fraction → ℕ → Type 0
IsClearance g m = CeilingRoot g m

-- rule 6.2, what holds of the worst so far of a side in a spent report
pub record OfSpentSide (pair : Pair) (os : Orientations) (allowance : ℕ) (s : Side) (x : Option CornerGap) : Type 0 where
  -- it is the worst so far of the side after the allowance of steps
  pub worst : IsSideWorst pair os allowance s x
  -- the side has an answer, which the exhaustive search finds; its gap is the side's true figure, and the gap of the
  -- worst so far is never above it
  pub figure : IsSideAnswer pair os s (exhaustive_of pair os s)
  pub worst_not_above : (w z : CornerGap) → x ≡ Some w → IsSideAnswer pair os s z → NotGreater w.gap z.gap

-- rule 6.2, what holds of a spent report
pub record OfSpent (pair : Pair) (os : Orientations) (allowance : ℕ) (p : Spent) : Type 0 where
  -- the steps made are the allowance, and these are the support corners and the worst so far after them
  pub steps : p.steps ≡ allowance
  pub support_a : p.support.a ≡ support_after pair allowance A
  pub support_b : p.support.b ≡ support_after pair allowance B
  pub worst : IsWorst pair os allowance p.worst
  -- there is a true figure, the gap that the exhaustive search finds, and the gap of the worst so far is never above it
  pub figure : TrueFigure pair (exhaustive pair os).gap
  pub worst_not_above : (w : CornerGap) (g : Fraction) → p.worst ≡ Some w → TrueFigure pair g → NotGreater w.gap g
  -- the worst so far of each side; and the worst so far is the worse of the two
  pub side_a : OfSpentSide pair os allowance A p.sides.a
  pub side_b : OfSpentSide pair os allowance B p.sides.b
  pub worse_of_both : p.worst ≡ overall p.sides.a p.sides.b

-- rule 6.3, what holds of the answer of a side in a done report
pub record OfDoneSide (pair : Pair) (os : Orientations) (s : Side) (w : CornerGap) : Type 0 where
  -- it is the worst so far of the side after N steps, or the side's corner 0, within, if that is none
  pub from_steps : (x : Option CornerGap) × IsSideWorst pair os (step_count pair) s x × (w ≡ or_within s (corner (pair s) 0) x)
  -- it is the answer of the side as defined, and the one that the exhaustive search finds for the side
  pub as_defined : IsSideAnswer pair os s w
  pub as_searched : w ≡ exhaustive_of pair os s
  -- its gap is the squared directed Hausdorff distance from the side's piece to the other
  pub distance : Directed (pair s) (pair (other s)) w.gap

-- rule 6.3, what holds of a done report
pub record OfDone (pair : Pair) (os : Orientations) (d : Done) : Type 0 where
  -- the steps made are N, and the answer is the worst so far after them, or A's corner 0, within, if that is none
  pub steps : d.steps ≡ step_count pair
  pub from_steps : (x : Option CornerGap) × IsWorst pair os (step_count pair) x × (d.answer ≡ or_within A (corner (pair A) 0) x)
  -- it is the answer as defined, with the true nearest point of its corner, and the one that the exhaustive search
  -- finds
  pub as_defined : IsAnswer pair os d.answer
  pub as_searched : d.answer ≡ exhaustive pair os
  -- its gap is the true figure, and that is the squared Hausdorff distance, the greater of the two ways
  pub figure : TrueFigure pair d.answer.gap
  pub distance : Hausdorff pair d.answer.gap
  pub clearance : IsClearance d.answer.gap d.clearance
  -- the answer of each side; and the answer is the worse of the two
  pub side_a : OfDoneSide pair os A d.sides.a
  pub side_b : OfDoneSide pair os B d.sides.b
  pub worse_of_both : d.answer ≡ worse d.sides.a d.sides.b

-- spent exactly below N, and else done
pub record Law (pair : Pair) (os : Orientations) (allowance : ℕ) (result : Report) : Type 0 where
  pub spent_below : allowance < step_count pair → (p : Spent) × (result ≡ Report.Spent p) × OfSpent pair os allowance p
  pub else_done : step_count pair ≤ allowance → (d : Done) × (result ≡ Report.Done d) × OfDone pair os d

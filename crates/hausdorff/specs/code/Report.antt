-- What a comparison of two accepted outlines gives for a step allowance, computed: `proofs/Law.antt` shows that it
-- obeys the law.
use Rattle.std.specs.Prelude.{ℕ, cond, ltb}
use Rattle.integers.specs.declared.fraction.Fraction.{Fraction}
use Rattle.integers.specs.code.Root.{ceiling_root}
use Rattle.outline.specs.Corners.{corner}
use Rattle.outline.specs.declared.Side.{Side}
use Rattle.outline.specs.declared.Side.TheVariants.{A, B}
use Rattle.hausdorff.specs.declared.CornerGap.{CornerGap}
use Rattle.hausdorff.specs.declared.Spent.{Spent}
use Rattle.hausdorff.specs.declared.Done.{Done}
use Rattle.hausdorff.specs.declared.Report.{Report}
use Rattle.hausdorff.specs.Pair.{Pair, Orientations, step_count}
use Rattle.hausdorff.specs.CornerGap.{worse}
use Rattle.hausdorff.specs.Law.{or_within}
use Rattle.hausdorff.specs.code.Sweep.{worst_after, worst_so_far}
use Rattle.hausdorff.specs.Support.{support_after}

-- the clearance of a gap
abbrev pub clearance : Fraction → ℕ
clearance g = ceiling_root g

-- the answer of a side: its worst so far after step N, or its corner 0, within, if that is none
abbrev pub side_answer : Pair → Orientations → Side → CornerGap
side_answer pair os s = or_within s (corner (pair s) 0) (worst_after pair os (step_count pair) s)

-- the worse of A's and B's
abbrev pub answer : Pair → Orientations → CornerGap
answer pair os = worse (side_answer pair os A) (side_answer pair os B)

-- the steps made (equal to the allowance), both support corners, and the worst so far or none, overall and of each side
abbrev pub spent : Pair → Orientations → ℕ → Spent
spent pair os allowance = record {
  steps = allowance;
  support = record { a = support_after pair allowance A; b = support_after pair allowance B };
  worst = worst_so_far pair os allowance;
  sides = record { a = worst_after pair os allowance A; b = worst_after pair os allowance B };
}

-- the steps made (equal to N), the answer, its clearance and the answer of each side
abbrev pub done : Pair → Orientations → Done
done pair os = record {
  steps = step_count pair;
  answer = answer pair os;
  clearance = clearance (answer pair os).gap;
  sides = record { a = side_answer pair os A; b = side_answer pair os B };
}

-- spent if the allowance is below N, otherwise done
unfoldable pub report : Pair → Orientations → ℕ → Report
report pair os allowance =
    cond (ltb allowance (step_count pair)) (Report.Spent (spent pair os allowance)) (Report.Done (done pair os))

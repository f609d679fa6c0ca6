-- The worst so far, computed step by step.
use Rattle.std.specs.Prelude.{ℕ, zero, suc, cond, Option, None, Some}
use Rattle.outline.specs.Corners.{corner}
use Rattle.outline.specs.declared.Side.{Side}
use Rattle.outline.specs.declared.Side.TheVariants.{A, B}
use Rattle.hausdorff.specs.declared.CornerGap.{CornerGap}
use Rattle.hausdorff.specs.Pair.{Pair, Orientations, given, other}
use Rattle.hausdorff.specs.Support.{support_after}
use Rattle.hausdorff.specs.code.Counting.{is_counted}
use Rattle.hausdorff.specs.code.CornerGap.{corner_gap}
use Rattle.hausdorff.specs.CornerGap.{overall}
use Rattle.hausdorff.specs.code.Worst.{keep}

-- what measuring finds of a side: its support corner if it counts, or none
unfoldable pub measured : Pair → (Side → ℕ) → Side → Option CornerGap
measured pair support s =
    cond (is_counted (pair (other s)) (support (other s)) (corner (pair s) (support s)))
    (Some (corner_gap pair s (support s))) None

-- the worst so far of a side after k steps, each of which measures before it passes its edge
unfoldable pub worst_after : Pair → Orientations → ℕ → Side → Option CornerGap
worst_after pair os zero s = None
worst_after pair os (suc k) s = keep (given pair os s) (worst_after pair os k s) (measured pair (support_after pair k) s)

-- the worst of both sides after k steps
abbrev pub worst_so_far : Pair → Orientations → ℕ → Option CornerGap
worst_so_far pair os k = overall (worst_after pair os k A) (worst_after pair os k B)

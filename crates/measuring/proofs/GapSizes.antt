-- The gaps that a sweep compares have lower numbers above 0 and below 2^32, so that they are compared exactly in 64
-- bits.
--     local_values-bounded    the gap of a local feature of a window
--     worst-bounded          the worst so far of a side after k steps
use Prim.Native.Nat.{ℕ, ◌<◌}
use mathlib.Core.Path.{sym, subst}
use mathlib.Core.List.{List}
use lib.ListN.{length}
use Rattle.std.specs.Prelude.{Option, None, Some}
use Rattle.integers.specs.code.Fraction.{Bounded}
use Rattle.plane.specs.declared.Corner.{Corner}
use Rattle.plane.specs.Vector.{◌⇀◌}
use Rattle.outline.specs.Convex.{Accepted}
use Rattle.outline.specs.Corners.{corner, previous}
use Rattle.outline.proofs.EdgeLaws.{accepted-polygon}
use Rattle.outline.proofs.CornersLaws.{previous-below, next-previous}
use Rattle.nearest.proofs.GapLimit.{whole-bounded, edge-bounded, nearest-bounded}
use Rattle.outline.specs.declared.Side.{Side}
use Rattle.hausdorff.specs.declared.CornerGap.{CornerGap}
use Rattle.hausdorff.specs.Pair.{Pair, Orientations, other}
use Rattle.hausdorff.specs.code.Pair.{AcceptedPair}
use Rattle.hausdorff.specs.Counted.{Counted}
use Rattle.hausdorff.specs.code.Sweep.{worst_after}
use Rattle.hausdorff.proofs.WorstLaws.{WorstOf, worst-after}
use Rattle.measuring.specs.declared.Window.{Window}
use Rattle.measuring.specs.declared.LocalFeature.{LocalFeature}
use Rattle.measuring.specs.Window.{window_at, IsWindow}
use Rattle.measuring.specs.LocalFeature.{local_values}
use Rattle.measuring.specs.Changes.{BoundedWorst}

module _ {cs : List Corner} (ok : Accepted cs) where
  -- the gap to what a window shows: the edge before the support corner ends there
  window-bounded : (b : ℕ) → b < length cs → (v : Corner) (f : LocalFeature)
      → Bounded (local_values v (window_at cs b) f).gap
  window-bounded b below v LocalFeature.Corner = whole-bounded _
  window-bounded b below v LocalFeature.EdgeAfter = edge-bounded ok b below _
  window-bounded b below v LocalFeature.EdgeBefore =
      let n = length cs in
      rw (next-previous n b below) at (edge-bounded ok (previous n b) (previous-below n b below) (corner cs (previous n b) ⇀ v))
  window-bounded b below v LocalFeature.CornerAfter = whole-bounded _
  window-bounded b below v LocalFeature.CornerBefore = whole-bounded _

pub local_values-bounded : {w : Window} → IsWindow w → (v : Corner) (f : LocalFeature) → Bounded (local_values v w f).gap
local_values-bounded {w} window v f =
    subst (λ (x : Window). Bounded (local_values v x f).gap) (sym window.equal)
    (window-bounded window.accepted w.number window.known v f)

-- the worst so far is the gap of a corner to the other outline
pub worst-bounded : (pair : Pair) (os : Orientations) → AcceptedPair pair → (k : ℕ) (s : Side)
    → BoundedWorst (worst_after pair os k s)
worst-bounded pair os ok k s =
    go (worst_after pair os k s) (worst-after pair (λ t. accepted-polygon (ok t)) s os k)
  where
    go : (x : Option CornerGap) → WorstOf pair os s (Counted pair k s) x → BoundedWorst x
    go None none = tt
    go (Some w) best =
        subst (λ (x : CornerGap). Bounded x.gap) (sym best.equal)
        (nearest-bounded (ok (other s)) (corner (pair s) w.corner))

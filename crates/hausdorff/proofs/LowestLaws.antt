-- Where the sweep begins.
--     begins-lowest    before step 1 the support corner of an outline is its lowest, then leftmost corner
use Prim.Native.Nat.{ℕ, ◌<◌}
use mathlib.Core.Path.{refl, sym, ◌∙◌}
use mathlib.Core.Logic.{inl, inr, ◌↔◌, ◌≢◌}
use mathlib.Core.Bool.{false}
use mathlib.Core.List.Memᴰ
use mathlib.Core.List.{List, [], ◌∷◌, Memᴰ, Pairwise}
use mathlib.Core.List.{rel_of_Pairwise-cons}
use native.Mathlib.Omega.{arith}
use lib.IntN.{pos}
use lib.ListN.{length}
use lib.Signed.{◌≤ℤ◌, ◌<ℤ◌}
use Rattle.integers.proofs.Order.{<ℤ-≤ℤ}
use Rattle.plane.specs.declared.Corner.{Corner}
use Rattle.plane.specs.declared.Vector.{Vector}
use Rattle.plane.specs.Vector.{cross}
use Rattle.plane.proofs.Algebra.{cross-back}
use Rattle.outline.specs.code.Polygon.{Polygon}
use Rattle.outline.specs.Corners.{next, previous, edge}
use Rattle.outline.proofs.CornersLaws.{next-below, next-other, previous-below, next-previous}
use Rattle.nearest.proofs.Support.{not_right, turns-on}
use Rattle.outline.specs.declared.Side.{Side}
use Rattle.hausdorff.specs.Pair.{Pair}
use Rattle.hausdorff.specs.code.Pair.{Polygons}
use Rattle.lists.specs.code.Lists.{head_or}
use Rattle.hausdorff.specs.AngularOrder.{angular_order}
use Rattle.hausdorff.specs.code.Own.{own}
use Rattle.hausdorff.specs.Support.{pass_all, support_after}
use Rattle.hausdorff.specs.code.Lowest.{LowestLeftmost}
use Rattle.plane.proofs.Halves.{Half, half, first-up}
use Rattle.plane.proofs.Height.{level-falls, lowest-between}
use Rattle.plane.proofs.DirectionLaws.{Before, across}
use Rattle.hausdorff.proofs.OrderLaws.{first-own, polygons-go-round, own-members, own-rising}

-- a turn left to a direction that comes before leads from the second half to the first: e falls and f does not
falls : (e f : Vector) → pos 0 <ℤ cross e f → Before f e → (e.y <ℤ pos 0) × (pos 0 ≤ℤ f.y)
falls e f turn before =
    let (first, second) = across f e before ((cross-back e f).0 (<ℤ-≤ℤ turn)) in
    let up = first-up f (rw first at (half f)) in
    (falling up (rw second at (half e)), up)
  where
    falling : pos 0 ≤ℤ f.y → Half false e → e.y <ℤ pos 0
    falling up (inl down) = down
    falling up (inr (level, left)) = level-falls e f turn up level left

-- so it is at the corner between an edge and a next one that comes before it
first-lowest : {cs : List Corner} → Polygon cs → (i : ℕ) → i < length cs → Before (edge cs (next (length cs) i)) (edge cs i)
    → LowestLeftmost cs (next (length cs) i)
first-lowest {cs} polygon i below before =
    let n = length cs in
    let known = next-below n i (omega arith) in
    let (down, up) = falls _ _ (turns-on polygon i below) before in
    record {
      known = known;
      lowest = λ j j-known. lowest-between _ _ _ _ (turns-on polygon i below) down up
          (not_right polygon i j below j-known) (not_right polygon (next n i) j known j-known);
    }

-- the first of the numbers below n, arranged by R, has R to each of the others
head_first : (n : ℕ) (R : ℕ → ℕ → Type 0) (l : List ℕ) → 0 < n → ((i : ℕ) → Memᴰ i l ↔ (i < n)) → Pairwise R l
    → (head_or 0 l < n) × ((i : ℕ) → i < n → i ≢ head_or 0 l → R (head_or 0 l) i)
head_first n R [] some members rising = absurd (Memᴰ.not-nil ((members 0).1 some))
head_first n R (z ∷ l) some members rising = (
  (members z).0 (Memᴰ.head refl),
  λ i below other. elim (Memᴰ.cases_cons ((members i).1 below)) [
    | inl e ↦ absurd (other e)
    | inr later ↦ rel_of_Pairwise-cons rising ∣ later ∣₁
  ],
)

-- the first edge comes before the one that ends where it starts
pub begins-lowest : (pair : Pair) → Polygons pair → (s : Side) → LowestLeftmost (pair s) (support_after pair 0 s)
unfolding pass_all
begins-lowest pair polygons s =
    let n = length (pair s) in
    let three = (polygons s).at_least in
    let (below, first) = head_first n _ _ (omega arith) (own-members pair s) (own-rising pair (polygons-go-round polygons) s) in
    let w = previous n (head_or 0 (own s (angular_order pair))) in
    let known = previous-below n _ below in
    let into = next-previous n _ below in
    let before = first w known (λ e. next-other n w (omega arith) (into ∙ sym e)) in
    rw (first-own (angular_order pair) s) (rw into at (first-lowest (polygons s) w known (rw into (rw into at before))))

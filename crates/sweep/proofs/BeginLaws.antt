-- Where the code begins is where the sweep of rule 5.4 does.
--     lowest-unique    an outline has one lowest, then leftmost corner
--     begins-after     a state with these support corners, all edges to come and no worst is the sweep after no steps
-- The search for such a corner that `lowest` makes:
--     Searching        the invariant: of the corners numbered below i, `found` is the lowest, of several the leftmost
--     search-lower, search-on     a turn that finds a lower corner; one that does not
use Prim.Native.Nat.{ℕ, ◌+◌, ◌<◌, ◌≤◌}
use borrow.Author.Count.{below_more}
use mathlib.Core.Path.{◌≡◌, sym, ◌∙◌}
use mathlib.Core.Bool.{true, false}
use mathlib.Core.List.{List}
use native.Mathlib.Omega.{arith}
use lib.ListN.{length}
use Rattle.std.specs.Prelude.{None}
use Rattle.plane.specs.declared.Corner.{Corner}
use Rattle.plane.specs.Height.{NotAfter}
use Rattle.plane.specs.code.Tests.{is_lower}
use Rattle.plane.proofs.Height.{not-after-refl, not-after-trans, not-after-both, lower-test}
use Rattle.outline.specs.code.Polygon.{Polygon}
use Rattle.outline.specs.Corners.{corner}
use Rattle.outline.proofs.EdgeLaws.{corner-number}
use Rattle.outline.specs.declared.Side.{Side}
use Rattle.hausdorff.specs.Pair.{Pair, Orientations}
use Rattle.hausdorff.specs.code.Pair.{Polygons}
use Rattle.hausdorff.specs.code.Sweep.{worst_after}
use Rattle.hausdorff.specs.code.Lowest.{LowestLeftmost}
use Rattle.hausdorff.proofs.LowestLaws.{begins-lowest}
use Rattle.sweep.specs.declared.State.{State}
use Rattle.sweep.specs.State.{side_state, IsAfter}
use Rattle.sweep.proofs.NextEdge.{begin-to-come}

module _ {cs : List Corner} (polygon : Polygon cs) where
  -- neither is after the other, so they are at one point
  pub lowest-unique : (i j : ℕ) → LowestLeftmost cs i → LowestLeftmost cs j → i ≡ j
  lowest-unique i j a b =
      corner-number polygon i j a.known b.known (not-after-both _ _ (a.lowest j b.known) (b.lowest i a.known))

-- the sweep too begins at the lowest, then leftmost corners
pub begins-after : (pair : Pair) (os : Orientations) → Polygons pair → (state : State)
    → ((s : Side) → LowestLeftmost (pair s) (side_state state s).support)
    → ((s : Side) → (side_state state s).remaining ≡ length (pair s)) → ((s : Side) → (side_state state s).worst ≡ None)
    → IsAfter pair os 0 state
unfolding worst_after
begins-after pair os polygons state lowest all none = record {
  support = λ s. lowest-unique (polygons s) _ _ (lowest s) (begins-lowest pair polygons s);
  remaining = λ s. all s ∙ sym (begin-to-come pair polygons s);
  worst = none;
}

pub record Searching (cs : List Corner) (found i : ℕ) : Type 0 where
  pub turn : i ≤ length cs
  pub known : found < i
  pub lowest : (j : ℕ) → j < i → NotAfter (corner cs found) (corner cs j)

module _ {cs : List Corner} {found i : ℕ} (below : i < length cs) (searching : Searching cs found i) where
  -- corner i is not after `found`, so it is after none of those that `found` is not after
  pub search-lower : is_lower (corner cs i) (corner cs found) ≡ true → Searching cs i (i + 1)
  search-lower holds = record {
    turn = omega arith;
    known = omega arith;
    lowest = below_more _ i (λ j passed. not-after-trans _ _ _ (lower-test _ _ true holds) (searching.lowest j passed))
        (not-after-refl _);
  }

  -- `found` is not after corner i either
  pub search-on : is_lower (corner cs i) (corner cs found) ≡ false → Searching cs found (i + 1)
  search-on fails = record {
    turn = omega arith;
    known = omega arith;
    lowest = below_more _ i searching.lowest (lower-test _ _ false fails);
  }

-- Each side's own worst corner is counted.
--     SideWorst        none if every corner of the side is within, else the preferred corner of the side, which is
--                      outside
--     side-worst       that is what the sweep finds
--     corner-reaches   Lemma 2 of report 83-442, for every position: a corner reaches the squared directed Hausdorff
--                      distance from that side's piece to the other
use Prim.Native.Nat.{ℕ, ◌<◌}
use mathlib.Core.Path.{◌≡◌, refl}
use mathlib.Core.Bool.{Bool, true, false}
use lib.ListN.{length}
use Rattle.std.specs.Prelude.{Option, None, Some}
use Rattle.integers.specs.Fraction.{NotGreater}
use Rattle.integers.proofs.Greatest.{Greatest}
use Rattle.plane.specs.Point.{whole}
use Rattle.outline.specs.Corners.{corner}
use Rattle.nearest.specs.Piece.{InPiece, Outside, is_outside}
use Rattle.nearest.specs.code.Local.{feature}
use Rattle.nearest.proofs.PieceLaws.{outside-test, inside-test}
use Rattle.outline.specs.declared.Side.{Side}
use Rattle.hausdorff.specs.declared.CornerGap.{CornerGap}
use Rattle.hausdorff.specs.Pair.{Pair, Orientations, given, other, step_count}
use Rattle.hausdorff.specs.code.Pair.{Polygons}
use Rattle.hausdorff.specs.code.CornerGap.{corner_gap}
use Rattle.hausdorff.specs.code.Sweep.{worst_after}
use Rattle.hausdorff.specs.Hausdorff.{Directed}
use Rattle.hausdorff.proofs.OrderLaws.{polygons-go-round}
use Rattle.hausdorff.proofs.SweepLaws.{meets-corner}
use Rattle.hausdorff.proofs.DistanceLaws.{outward, greatest-extreme, greatest-directed}
use Rattle.hausdorff.proofs.Preference.{Preferred, side-trans, foremost, farthest, PreferredOf}
use Rattle.hausdorff.proofs.WorstLaws.{WorstOf, worst-after, counted-outside, met-counted}
use Rattle.hausdorff.proofs.GapLaws.{least_iff}
use Rattle.hausdorff.specs.Counted.{Counted}

abbrev pub SideWorst : Pair → Orientations → Side → Option CornerGap → Type 0
SideWorst pair os s None = (i : ℕ) → i < length (pair s) → InPiece (pair (other s)) (whole (corner (pair s) i))
SideWorst pair os s (Some w) =
    PreferredOf pair os s (λ j. j < length (pair s)) w × Outside (pair (other s)) (whole (corner (pair s) w.corner))

module _ (pair : Pair) (os : Orientations) (polygons : Polygons pair) (s : Side) where
  -- a corner with the greatest gap of its side, if it is outside, is extreme, so it is met in the sweep and counts
  greatest-counted : (i : ℕ) → i < length (pair s) → Outside (pair (other s)) (whole (corner (pair s) i))
      → ((j : ℕ) → j < length (pair s) → NotGreater (corner_gap pair s j).gap (corner_gap pair s i).gap)
      → Counted pair (step_count pair) s i
  greatest-counted i below outside greatest =
      let extremes = greatest-extreme pair polygons s i below outside greatest in
      met-counted pair polygons s i (meets-corner pair (polygons-go-round polygons) (outward pair polygons s i)
      extremes.nonzero s i (feature (pair (other s)) (corner (pair s) i)) extremes.corner-extreme extremes.feature-extreme)

  -- the preferred corner of the side is outside, so what is stored is preferred over it and over all; or it is
  -- within, and so are all
  pub side-worst : SideWorst pair os s (worst_after pair os (step_count pair) s)
  side-worst =
      go (is_outside (pair (other s)) (corner (pair s) best.place)) refl (worst_after pair os (step_count pair) s)
      (worst-after pair polygons s os (step_count pair))
    where
      best : Greatest (λ i j. Preferred (given pair os s) (corner_gap pair s i) (corner_gap pair s j)) (length (pair s))
      best = foremost pair os polygons s

      best-counted : is_outside (pair (other s)) (corner (pair s) best.place) ≡ true
          → Counted pair (step_count pair) s best.place
      best-counted holds = greatest-counted best.place best.below
          ((outside-test (pair (other s)) (corner (pair s) best.place)).0 holds) (λ j below. (best.over j below).not_less)

      all-within : is_outside (pair (other s)) (corner (pair s) best.place) ≡ false → SideWorst pair os s None
      all-within fails i below = (least_iff pair polygons s s i best.place
          ((inside-test (pair (other s)) (corner (pair s) best.place)).0 fails)).0 (best.over i below).not_less

      go : (t : Bool) → is_outside (pair (other s)) (corner (pair s) best.place) ≡ t
          → (x : Option CornerGap) → WorstOf pair os s (Counted pair (step_count pair) s) x → SideWorst pair os s x
      go true holds None none = absurd (none best.place (best-counted holds))
      go true holds (Some w) most =
          let is-outside = counted-outside pair polygons s w.corner (step_count pair) most.holds in (
            record {
              equal = most.equal;
              holds = is-outside.known;
              preferred = λ j below. side-trans pair os polygons s w (corner_gap pair s best.place) j most.equal refl
                  (most.preferred best.place (best-counted holds)) (best.over j below);
            },
            is-outside.outside,
          )
      go false fails None none = all-within fails
      go false fails (Some w) most =
          let is-outside = counted-outside pair polygons s w.corner (step_count pair) most.holds in
          absurd (is-outside.outside (all-within fails w.corner is-outside.known))

pub corner-reaches : (pair : Pair) → Polygons pair → (s : Side)
    → (i : ℕ) × (i < length (pair s)) × Directed (pair s) (pair (other s)) (corner_gap pair s i).gap
corner-reaches pair polygons s =
    let best = farthest pair polygons s in
    (best.place, best.below, greatest-directed pair polygons s best.place best.below best.over)

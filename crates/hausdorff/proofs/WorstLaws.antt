-- The worst so far of each side is the greatest gap that has been counted, under the rule for equals, or none.
--     WorstOf            a side's worst is the preferred one of the corners that have a property, or none where
--                        none has it
--     IsOutsideCorner    a corner of the side that is not within the other piece
--     support-known      a support corner after k steps is a corner of its outline
--     worst-after        a side's worst so far after k steps is that of the corners that count in the steps up to
--                        k, and a true gap
--     counted-outside    what counts is an outside corner
--     AtNearest          corner i is the support corner, and its nearest feature is at the other one
--     met-counted        where that is met it counts
use Prim.Native.Nat.{ℕ, zero, suc, ◌<◌}
use native.Mathlib.Nat.{eq-or-lt_of_le, le_of_suc-le-suc}
use mathlib.Core.Path.{◌≡◌, refl, sym, subst}
use mathlib.Core.Logic.{◌↔◌, ◌⊎◌, inl, inr, ⊎_elim}
use mathlib.Core.Bool.{Bool, true, false, cond}
use mathlib.Core.List.{List, [], ◌∷◌}
use native.Mathlib.Omega.{arith}
use lib.ListN.{length, take}
use Rattle.std.specs.Prelude.{Option, None, Some}
use Rattle.integers.proofs.Reflect.{test-false}
use Rattle.plane.specs.declared.Corner.{Corner}
use Rattle.plane.specs.Point.{whole}
use Rattle.outline.specs.Corners.{corner, next}
use Rattle.outline.proofs.CornersLaws.{next-below}
use Rattle.nearest.specs.Piece.{Outside}
use Rattle.nearest.specs.code.Local.{feature}
use Rattle.outline.specs.declared.Side.{Side}
use Rattle.hausdorff.specs.declared.CornerGap.{CornerGap}
use Rattle.hausdorff.specs.Pair.{Pair, Orientations, given, other, same_side, step_count}
use Rattle.hausdorff.specs.code.Pair.{Polygons}
use Rattle.hausdorff.specs.AngularOrder.{PairEdge, angular_order}
use Rattle.hausdorff.specs.code.Counting.{is_counted}
use Rattle.hausdorff.specs.code.CornerGap.{corner_gap}
use Rattle.hausdorff.specs.code.Worst.{takes_place, keep}
use Rattle.hausdorff.specs.Counted.{Counts, CountsAfter, Counted}
use Rattle.hausdorff.specs.Support.{first_start, pass, pass_all, support_after}
use Rattle.hausdorff.specs.code.Sweep.{measured, worst_after}
use Rattle.hausdorff.proofs.Extreme.{AtSupport}
use Rattle.hausdorff.proofs.LowestLaws.{begins-lowest}
use Rattle.hausdorff.proofs.CountingLaws.{counted-iff, counts-iff}
use Rattle.hausdorff.proofs.SweepLaws.{Met}
use Rattle.hausdorff.proofs.Preference.{Preferred, preferred-refl, taken-preferred, side-trans, PreferredOf}

-- a side's worst is the preferred one of the corners that have a property, or none where none has it
abbrev pub WorstOf : Pair → Orientations → Side → (ℕ → Type 0) → Option CornerGap → Type 0
WorstOf pair os s Q None = (i : ℕ) → ¬ Q i
WorstOf pair os s Q (Some w) = PreferredOf pair os s Q w

-- a corner of the side that is not within the other piece
pub record IsOutsideCorner (pair : Pair) (s : Side) (i : ℕ) : Type 0 where
  pub known : i < length (pair s)
  pub outside : Outside (pair (other s)) (whole (corner (pair s) i))

module _ (pair : Pair) (os : Orientations) (s : Side) where
  -- only which corners it is the worst of matters, not how that is said
  worst-map : {Q R : ℕ → Type 0} → ((i : ℕ) → Q i ↔ R i) → (x : Option CornerGap) → WorstOf pair os s Q x → WorstOf pair os s R x
  worst-map same None none = λ i r. none i ((same i).1 r)
  worst-map same (Some w) best = record {
    equal = best.equal;
    holds = (same w.corner).0 best.holds;
    preferred = λ j r. best.preferred j ((same j).1 r);
  }

module _ (pair : Pair) (os : Orientations) (polygons : Polygons pair) (s : Side) where
  -- what is kept of the worst of some corners and the worst of others is the worst of all of these
  keep-worst : (Q R : ℕ → Type 0) (old new : Option CornerGap) → WorstOf pair os s Q old → WorstOf pair os s R new
      → WorstOf pair os s (λ i. Q i ⊎ R i) (keep (given pair os s) old new)
  keep-worst Q R None new none q = worst-map pair os s (λ i. (inr, ⊎_elim (λ h. absurd (none i h)) (λ h. h))) new q
  keep-worst Q R (Some old) None p none =
      worst-map pair os s (λ i. (inl, ⊎_elim (λ h. h) (λ h. absurd (none i h)))) (Some old) p
  keep-worst Q R (Some old) (Some new) p q =
      go (takes_place (given pair os s) new old) (taken-preferred (given pair os s) new old)
    where
      go : (t : Bool) → Preferred (given pair os s) (cond t new old) (cond t old new)
          → PreferredOf pair os s (λ i. Q i ⊎ R i) (cond t new old)
      go true better = record {
        equal = q.equal;
        holds = inr q.holds;
        preferred = λ j. ⊎_elim
            (λ h. side-trans pair os polygons s new old j q.equal p.equal better (p.preferred j h)) (q.preferred j);
      }
      go false better = record {
        equal = p.equal;
        holds = inl p.holds;
        preferred = λ j. ⊎_elim
            (p.preferred j) (λ h. side-trans pair os polygons s old new j p.equal q.equal better (q.preferred j h));
      }

-- both support corners are corners of their outlines
abbrev Supported : Pair → (Side → ℕ) → Type 0
Supported pair support = (s : Side) → support s < length (pair s)

module _ (pair : Pair) (polygons : Polygons pair) where
  -- passing an edge leads to a corner of its outline
  pass_below : (support : Side → ℕ) → Supported pair support → (e : PairEdge) → Supported pair (pass pair e support)
  pass_below support known e s = go (same_side s e.side)
    where
      go : (t : Bool) → cond t (next (length (pair s)) e.number) (support s) < length (pair s)
      go true = next-below (length (pair s)) e.number (omega (arith, known s))
      go false = known s

  pass_all-below : (es : List PairEdge) (support : Side → ℕ)
      → Supported pair support → Supported pair (pass_all pair es support)
  unfolding pass_all
  pass_all-below [] support known = known
  pass_all-below (e ∷ es) support known = pass_all-below es (pass pair e support) (pass_below support known e)

  -- and before step 1 they are the lowest
  pub support-known : (k : ℕ) → Supported pair (support_after pair k)
  unfolding pass_all
  support-known k = pass_all-below (take k (angular_order pair)) (first_start (angular_order pair))
      (λ s. (begins-lowest pair polygons s).known)

  module _ (s : Side) where
    -- what is measured is the support corner, if it counts
    measured-worst : (os : Orientations) (j : ℕ)
        → WorstOf pair os s (CountsAfter pair j s) (measured pair (support_after pair j) s)
    unfolding measured
    measured-worst os j = go (is_counted (pair (other s)) b v) refl
      where
        b : ℕ
        b = support_after pair j (other s)

        i : ℕ
        i = support_after pair j s

        v : Corner
        v = corner (pair s) i

        means : (is_counted (pair (other s)) b v ≡ true) ↔ Counts (pair (other s)) b v
        means = counts-iff (polygons (other s)) b (support-known j (other s)) v

        go : (t : Bool) → is_counted (pair (other s)) b v ≡ t
            → WorstOf pair os s (CountsAfter pair j s) (cond t (Some (corner_gap pair s i)) None)
        go true holds = record {
          equal = refl;
          holds = (refl, means.0 holds);
          preferred = λ k (here, _). rw (← here) (preferred-refl (given pair os s) (corner_gap pair s i));
        }
        go false fails = λ k (here, counts).
            (test-false _ means).0 fails
            (subst (λ (x : ℕ). Counts (pair (other s)) b (corner (pair s) x)) (sym here) counts)

    -- before step 1 it is none, and each step adds what counts in it
    pub worst-after : (os : Orientations) (k : ℕ) → WorstOf pair os s (Counted pair k s) (worst_after pair os k s)
    unfolding worst_after
    worst-after os zero = λ i (j, below, _). absurd (omega arith)
    worst-after os (suc k) =
        worst-map pair os s (λ i. (
          ⊎_elim (λ (j, below, counts). (j, omega arith, counts)) (λ counts. (k, omega arith, counts)),
          λ (j, below, counts). ⊎_elim
              (λ last. inr (subst (λ (x : ℕ). CountsAfter pair x s i) last counts)) (λ less. inl (j, less, counts))
              (eq-or-lt_of_le (le_of_suc-le-suc below)),
        ))
        (keep (given pair os s) (worst_after pair os k s) (measured pair (support_after pair k) s))
        (keep-worst pair os polygons s (Counted pair k s) (CountsAfter pair k s) (worst_after pair os k s)
        (measured pair (support_after pair k) s) (worst-after os k) (measured-worst os k))

    module _ (i : ℕ) where
      pub counted-outside : (k : ℕ) → Counted pair k s i → IsOutsideCorner pair s i
      counted-outside k (j, below, (here, counts)) =
          record { known = rw here at (support-known j s); outside = counts.outside }

      -- corner i is the support corner, and its nearest feature is at the other one
      abbrev pub AtNearest : (Side → ℕ) → Type 0
      AtNearest support = (support s ≡ i)
          × AtSupport (length (pair (other s))) (support (other s)) (feature (pair (other s)) (corner (pair s) i))

      pub met-counted : Met pair AtNearest → Counted pair (step_count pair) s i
      met-counted met =
          let j = met.steps in let (here, near) = met.holds in
          let polygon = polygons (other s) in let b = support_after pair j (other s) in
          let known = support-known j (other s) in let v = corner (pair s) i in
          (j, met.below, (here, (counts-iff polygon b known v).0 ((counted-iff polygon b known v).1 near)))

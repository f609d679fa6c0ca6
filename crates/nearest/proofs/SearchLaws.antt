-- The exhaustive search finds the nearest point, in whatever order it tries.
--     least-strict          of a list in which one member has a gap less than every other's, `least` gives that member
--     TriedFeature          the features that are tried: every corner, and every edge whose test holds
--     tried-is, tried-has   what is tried is the answers with these features
--     Candidate             an answer whose point is in the piece, is what its feature says, and lies at the stated
--                           distance
--     candidate             whatever is tried is one
--     no-better             every candidate other than the nearest has a greater gap
--     least-any-order       the least of any list of what is tried, in any order and with repeats, is the nearest
--     search-nearest        the search finds the nearest
use Prim.Native.Nat.{◌<◌, ◌*◌}
use native.Mathlib.Nat.{le_of_lt}
use native.Mathlib.Omega.{arith}
use mathlib.Core.Path.{◌≡◌, refl, sym, ap}
use mathlib.Core.Logic.{◌↔◌, ◌⊎◌, inl, inr, ⊎_elim}
use mathlib.Core.Bool.{Bool, true, false, cond}
use mathlib.Core.List.Memᴰ
use mathlib.Core.List.{List, [], ◌∷◌, Memᴰ}
use borrow.Author.Tests.{lt-ltb, le-ltb}
use lib.ListN.{length}
use Rattle.lists.proofs.FoldLaws.{joined-member}
use Rattle.plane.specs.declared.Corner.{Corner}
use Rattle.plane.specs.Point.{whole}
use Rattle.plane.proofs.Points.{whole-proper, same_refl, same?}
use Rattle.outline.specs.code.Polygon.{Polygon}
use Rattle.outline.specs.Corners.{corner}
use Rattle.nearest.specs.declared.Feature.{Feature}
use Rattle.nearest.specs.declared.NearestPoint.{NearestPoint}
use Rattle.nearest.specs.Piece.{InPiece, Outside, is_outside}
use Rattle.nearest.specs.Feature.{values, within_values}
use Rattle.nearest.specs.Nearest.{Fits}
use Rattle.nearest.specs.code.Local.{is_edge, Tested, feature, nearest}
use Rattle.integers.specs.Fraction.{is_less}
use Rattle.nearest.specs.Search.{tried_corners, tried_edges, tried, least, search}
use Rattle.nearest.proofs.Support.{corner-in-piece}
use Rattle.nearest.proofs.NearestLaws.{others-farther}
use Rattle.nearest.proofs.LocalLaws.{edge-nearest}
use Rattle.nearest.proofs.FitsLaws.{fits-unique}
use Rattle.nearest.proofs.DistanceLaws.{IsSquaredDistance, values-distance, gap-order-strict}
use Rattle.nearest.proofs.AnswerLaws.{feature-tested, tested-answers, within-iff}
use Rattle.nearest.proofs.PieceLaws.{outside-test, inside-test}

-- What holds of b and of a holds of the one that a test picks.
picked : (P : NearestPoint → Type 0) (t : Bool) (b a : NearestPoint) → P b → P a → P (cond t b a)
picked P true b a here there = here
picked P false b a here there = there

-- a's gap is less than b's, as values
abbrev Less : NearestPoint → NearestPoint → Type 0
Less a b = a.gap.upper * b.gap.lower < b.gap.upper * a.gap.lower

module _ (m : NearestPoint) where
  -- b is m, or m has the lesser gap
  abbrev NoBetter : NearestPoint → Type 0
  NoBetter b = (b ≡ m) ⊎ Less m b

  abbrev AllNoBetter : List NearestPoint → Type 0
  AllNoBetter bs = (b : NearestPoint) → Memᴰ b bs → NoBetter b

  -- Of two of which one is m, the lesser is m.
  lesser-strict : (a b : NearestPoint) → NoBetter a → NoBetter b → (m ≡ a) ⊎ (m ≡ b)
      → cond (is_less b.gap a.gap) b a ≡ m
  lesser-strict a b known (inl also) (inl is) = picked (λ c. c ≡ m) (is_less b.gap a.gap) b a also (sym is)
  lesser-strict a b known (inr less) (inl is) =
      let lesser : Less a b = rw is at less in rw (le-ltb _ _ (le_of_lt lesser)) (sym is)
  lesser-strict a b (inl also) known (inr is) = picked (λ c. c ≡ m) (is_less b.gap a.gap) b a (sym is) also
  lesser-strict a b (inr less) known (inr is) = let lesser : Less b a = rw is at less in rw (lt-ltb _ _ lesser) (sym is)

  least-strict : (a : NearestPoint) (bs : List NearestPoint) → NoBetter a → AllNoBetter bs → (m ≡ a) ⊎ Memᴰ m bs → least a bs ≡ m
  unfolding least
  least-strict a [] known all among = ⊎_elim sym (λ there. absurd (Memᴰ.not-nil there)) among
  least-strict a (b ∷ bs) known all among =
      least-strict (cond (is_less b.gap a.gap) b a) bs (picked NoBetter (is_less b.gap a.gap) b a second known)
      (λ c there. all c (Memᴰ.tail there))
      (⊎_elim (λ is. stays (inl is)) (λ there. ⊎_elim (λ is. stays (inr is)) inr (Memᴰ.cases_cons there)) among)
    where
      second : NoBetter b
      second = all b (Memᴰ.head refl)

      stays : (m ≡ a) ⊎ (m ≡ b) → (m ≡ cond (is_less b.gap a.gap) b a) ⊎ Memᴰ m bs
      stays one = inl (sym (lesser-strict a b known second one))

-- a list that has one member where a test holds, and none where it fails
from-test : (t : Bool) {a b : NearestPoint} → Memᴰ a (cond t (b ∷ []) []) → (t ≡ true) × (a ≡ b)
from-test true there = (refl, Memᴰ.eq_of_singleton there)
from-test false there = absurd (Memᴰ.not-nil there)

-- the features that are tried: every corner, and every edge whose test holds
abbrev TriedFeature : List Corner → Corner → Feature → Type 0
TriedFeature cs v Feature.Within = ⊥
TriedFeature cs v (Feature.Corner i) = i < length cs
TriedFeature cs v (Feature.Edge i) = (i < length cs) × (is_edge cs v i ≡ true)

module _ (cs : List Corner) (v : Corner) where
  -- a member of `tried` is one of its two parts (`is_tried` unfolds to `is_edge`)
  tried-is : (a : NearestPoint) → Memᴰ a (tried cs v) → (g : Feature) × TriedFeature cs v g × (a ≡ values cs v g)
  unfolding tried
  tried-is a there =
      ⊎_elim
      (λ among. let (i, below, here) = (joined-member _ (length cs) a).0 among in
      (Feature.Corner i, below, Memᴰ.eq_of_singleton here))
      (λ among. let (i, below, here) = (joined-member _ (length cs) a).0 among in
      let (holds, is) = from-test (is_edge cs v i) here in (Feature.Edge i, (below, holds), is))
      (Memᴰ.append_cases (tried_corners cs v) there)

  tried-has : (g : Feature) → TriedFeature cs v g → Memᴰ (values cs v g) (tried cs v)
  unfolding tried
  tried-has Feature.Within none = absurd none
  tried-has (Feature.Corner i) below =
      Memᴰ.append_left (tried_edges cs v) ((joined-member _ (length cs) _).1 (i, below, Memᴰ.head refl))
  tried-has (Feature.Edge i) (below, holds) =
      Memᴰ.append_right (tried_corners cs v)
      ((joined-member _ (length cs) _).1 (i, below, rw holds (Memᴰ.head refl)))

-- an answer whose point is in the piece, is what its feature says, and lies at the stated distance
record Candidate (cs : List Corner) (v : Corner) (g : Feature) : Type 0 where
  in_piece : InPiece cs (values cs v g).point
  fits : Fits cs (whole v) (values cs v g).point g
  measured : IsSquaredDistance (whole v) (values cs v g).point (values cs v g).gap

module _ {cs : List Corner} (polygon : Polygon cs) (v : Corner) where
  candidate : Outside cs (whole v) → (g : Feature) → TriedFeature cs v g → Candidate cs v g
  candidate outside Feature.Within none = absurd none
  candidate outside (Feature.Corner i) below = record {
    in_piece = corner-in-piece polygon i below;
    fits = (outside, below, same_refl (whole (corner cs i)));
    measured = values-distance polygon v (Feature.Corner i) below;
  }
  candidate outside (Feature.Edge i) (below, holds) =
      let (nearest, between, _) = edge-nearest polygon v i below holds in
      record {
        in_piece = nearest.in_piece;
        fits = (outside, below, between);
        measured = values-distance polygon v (Feature.Edge i) below;
      }

  -- One point is one feature only, so another candidate is another point, and that is strictly farther.
  no-better : (f g : Feature) → Tested cs v f → Candidate cs v f → Candidate cs v g → NoBetter (values cs v f) (values cs v g)
  no-better f g holds c d =
      elim (same? (values cs v f).point (values cs v g).point) [
        | yes same ↦ inl (ap (values cs v)
            (sym (fits-unique polygon (whole v) f g c.in_piece.proper d.in_piece.proper same c.fits d.fits)))
        | no other ↦ inr ((gap-order-strict c.measured d.measured).1
            (others-farther polygon (whole-proper v) (tested-answers polygon v f holds).nearest d.in_piece other))
      ]

  -- Outside the piece the feature found is one that is tried.
  found-tried : Outside cs (whole v) → (f : Feature) → Tested cs v f → TriedFeature cs v f
  found-tried outside Feature.Within holds = absurd (outside (tested-answers polygon v Feature.Within holds).fits.0)
  found-tried outside (Feature.Corner i) holds = holds.0
  found-tried outside (Feature.Edge i) holds = holds

  -- any list of what is tried, in any order and with repeats, by its first member and the others
  pub least-any-order : Outside cs (whole v) → (a : NearestPoint) (more : List NearestPoint)
      → ((b : NearestPoint) → Memᴰ b (a ∷ more) ↔ Memᴰ b (tried cs v)) → least a more ≡ nearest cs v
  least-any-order outside a more same =
      least-strict (nearest cs v) a more (known a (Memᴰ.head refl)) (λ b there. known b (Memᴰ.tail there))
      (Memᴰ.cases_cons
      ((same (nearest cs v)).1 (tried-has cs v (feature cs v) (found-tried outside (feature cs v) holds))))
    where
      holds : Tested cs v (feature cs v)
      holds = feature-tested cs v

      found : Candidate cs v (feature cs v)
      found = candidate outside (feature cs v) (found-tried outside (feature cs v) holds)

      known : (b : NearestPoint) → Memᴰ b (a ∷ more) → NoBetter (nearest cs v) b
      known b there =
          let (g, tried, is) = tried-is cs v b ((same b).0 there) in
          rw is (no-better (feature cs v) g holds found (candidate outside g tried))

  pub search-nearest : search cs v ≡ nearest cs v
  search-nearest = by-test (is_outside cs v) refl
    where
      first : NearestPoint
      first = values cs v (Feature.Corner 0)

      -- corner 0 is one of those that are tried
      with_first : (b : NearestPoint) → Memᴰ b (first ∷ tried cs v) ↔ Memᴰ b (tried cs v)
      with_first b = (
        λ there. ⊎_elim (λ is. rw is (tried-has cs v (Feature.Corner 0) (omega (arith, polygon.at_least))))
            (λ among. among) (Memᴰ.cases_cons there),
        Memᴰ.tail,
      )

      by-test : (t : Bool) → is_outside cs v ≡ t → cond t (least first (tried cs v)) (within_values v) ≡ nearest cs v
      by-test true holds = least-any-order ((outside-test cs v).0 holds) first (tried cs v) with_first
      by-test false fails = ap (values cs v) (sym ((within-iff polygon v).1 ((inside-test cs v).0 fails)))

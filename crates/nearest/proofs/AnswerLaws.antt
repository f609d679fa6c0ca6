-- The answer that the local tests find is the one that rules 3.1 to 3.4 lay down, for every polygon and every whole
-- point.
--     values-feature               what is written for a feature names it
--     feature-tested               the feature found is one whose test holds
--     tested-answers, nearest-is   such a feature gives an answer as laid down, so there is one: `nearest`
--     answers-iff                  there is no other
--     nearest-distance             its gap is the squared distance of its point
--     feature-iff                  so there is only one feature whose test holds
--     within-iff, gap-zero-iff     it is Within, and the gap is 0, exactly where v is in the piece
--     local-agrees                 so a feature is the one laid down exactly where its local test holds
--     foot-at-start, foot-at-end   a foot that falls on an end is a corner
use Prim.Native.Nat.{ℕ, ◌<◌}
use mathlib.Core.Path.{◌≡◌, refl, sym, ap, subst, ◌∙◌}
use mathlib.Core.Logic.{◌↔◌, ⊎_elim, ◌≢◌, ◌⊎◌, inl, inr}
use mathlib.Core.Bool.{Bool, true, false, cond}
use mathlib.Core.List.{List, [], ◌∷◌}
use native.Mathlib.Omega.{arith}
use lib.IntN.{ℤ, pos, ◌*ℤ◌}
use lib.ListN.{length}
use lib.Signed.{◌<ℤ◌, ≤ℤ_refl}
use Rattle.integers.proofs.Polynomial.{var, lit, ◌⊗◌}
use Rattle.integers.proofs.Certificate.{◌≺◌, ◌≗◌, hyp, eqn, ◌⊞◌, ◌⊠◌, refute}
use Rattle.integers.proofs.Order.{nat_abs-nonneg, square-nonneg}
use Rattle.lists.proofs.FirstLaws.{Priority, fold-found}
use Rattle.plane.specs.declared.Corner.{Corner}
use Rattle.plane.specs.Point.{whole}
use Rattle.plane.proofs.Points.{same_refl, whole-proper}
use Rattle.plane.specs.Vector.{◌⇀◌, side}
use Rattle.plane.proofs.Algebra.{O, dot-self, apart-0}
use Rattle.outline.specs.code.Polygon.{Polygon}
use Rattle.outline.specs.Corners.{corner, next}
use Rattle.outline.proofs.CornersLaws.{next-below, previous-next}
use Rattle.nearest.specs.declared.Feature.{Feature}
use Rattle.nearest.specs.declared.NearestPoint.{NearestPoint}
use Rattle.nearest.specs.Piece.{InPiece}
use Rattle.nearest.specs.Feature.{values}
use Rattle.nearest.specs.Nearest.{Nearest, Fits, Answers}
use Rattle.nearest.specs.code.Local.{squared_length, along, is_corner, is_edge, Tested}
use Rattle.nearest.specs.code.Local.{feature_at, ◌or_next◌, feature, nearest}
use Rattle.nearest.proofs.DistanceLaws.{IsSquaredDistance, Known, values-distance, gap-order}
use Rattle.nearest.proofs.DistanceLaws.{squared_distance-is, distance-same}
use Rattle.nearest.proofs.FitsLaws.{fits-unique}
use Rattle.nearest.proofs.LocalLaws.{corner-nearest, edge-nearest, none-holds}
use Rattle.nearest.proofs.Walk.{corner-test, edge_test, square-at-start, square-at-end}
use Rattle.nearest.proofs.Support.{turns-left, turns-on}
use Rattle.nearest.proofs.NearestLaws.{nearest-self, none_nearer, nearest-unique}

-- the first that is not Within
priority : Priority ◌or_next◌ Feature.Within
priority = record { decide = decide; stops = stops; goes_on = λ g. refl }
  where
    decide : (f : Feature) → (f ≡ Feature.Within) ⊎ (f ≢ Feature.Within)
    decide Feature.Within = inl refl
    decide (Feature.Corner i) = inr λ e. let z : ◌≡◌ {A = ℕ} 0 1 = cc in omega arith
    decide (Feature.Edge i) = inr λ e. let z : ◌≡◌ {A = ℕ} 0 1 = cc in omega arith

    stops : (f g : Feature) → f ≢ Feature.Within → f or_next g ≡ f
    stops Feature.Within g some = absurd (some refl)
    stops (Feature.Corner i) g some = refl
    stops (Feature.Edge i) g some = refl

-- what is found at corner i, by the answers of its two tests
abbrev found : ℕ → Bool → Bool → Feature
found i c e = cond c (Feature.Corner i) (cond e (Feature.Edge i) Feature.Within)

module _ (cs : List Corner) (v : Corner) where
  found_none : (i : ℕ) (c e : Bool) → found i c e ≡ Feature.Within → (c ≡ false) × (e ≡ false)
  found_none i true e none = (cc, cc)
  found_none i false true none = (refl, cc)
  found_none i false false none = (refl, refl)

  found_some : (i : ℕ) → i < length cs → (c e : Bool) → is_corner cs v i ≡ c → is_edge cs v i ≡ e
      → ¬ (found i c e ≡ Feature.Within) → Tested cs v (found i c e)
  found_some i below true e corner edge some = (below, corner)
  found_some i below false true corner edge some = (below, edge)
  found_some i below false false corner edge some = absurd (some refl)

  pub feature-tested : Tested cs v (feature cs v)
  unfolding feature
  feature-tested = ⊎_elim
      (λ (none, fails). subst (Tested cs v) (sym none) (λ i below. found_none i (is_corner cs v i) (is_edge cs v i) (fails i below)))
      (λ (some, first). (let i = first.place in subst (Tested cs v) first.here
      (found_some i first.below (is_corner cs v i) (is_edge cs v i) refl refl
      (λ none. some (sym first.here ∙ none)))))
      (fold-found priority (feature_at cs v) (length cs))

-- what is written for a feature names it
pub values-feature : (cs : List Corner) (v : Corner) (f : Feature) → (values cs v f).feature ≡ f
values-feature cs v Feature.Within = refl
values-feature cs v (Feature.Corner i) = refl
values-feature cs v (Feature.Edge i) = refl

tested-known : (cs : List Corner) (v : Corner) (f : Feature) → Tested cs v f → Known cs f
tested-known cs v Feature.Within holds = tt
tested-known cs v (Feature.Corner i) holds = holds.0
tested-known cs v (Feature.Edge i) holds = holds.0

-- a number below 0 has a square above 0
no-square : (s : ℤ) → s <ℤ pos 0 → s *ℤ s ≡ pos 0 → ⊥
no-square s = refute (s ∷ []) (var 0 ≺ O ∷ var 0 ⊗ var 0 ≗ O ∷ []) (hyp 0 ⊠ hyp 0 ⊞ eqn 1 (lit (pos 1))) tt

module _ {cs : List Corner} (polygon : Polygon cs) (v : Corner) where
  -- what is written for a feature whose point is the nearest
  written-answers : (f : Feature) → Known cs f → Nearest cs (whole v) (values cs v f).point
      → Fits cs (whole v) (values cs v f).point f → Answers cs v (values cs v f)
  written-answers f known nearest fits =
      let from = whole-proper v in
      let at_y = squared_distance-is (whole v) (values cs v f).point from nearest.in_piece.proper in
      record {
        nearest = nearest;
        unique = λ z also. nearest-unique polygon from also nearest;
        none_nearer = λ z inside. (gap-order at_y (squared_distance-is (whole v) z from inside.proper)).1
            (none_nearer polygon from nearest inside);
        fits = rw (values-feature cs v f) fits;
        distance = distance-same (values-distance polygon v f known) at_y;
        written = ap (values cs v) (sym (values-feature cs v f));
      }

  pub tested-answers : (f : Feature) → Tested cs v f → Answers cs v (values cs v f)
  tested-answers Feature.Within none =
      let inside = none-holds polygon v (λ i below. (none i below).0) (λ i below. (none i below).1) in
      written-answers Feature.Within tt (nearest-self inside) (inside, same_refl (whole v))
  tested-answers (Feature.Corner i) (below, holds) =
      let (nearest, outside) = corner-nearest polygon v i below holds in
      written-answers (Feature.Corner i) below nearest (outside, below, same_refl (whole (corner cs i)))
  tested-answers (Feature.Edge i) (below, holds) =
      let (nearest, between, outside) = edge-nearest polygon v i below holds in
      written-answers (Feature.Edge i) below nearest (outside, below, between)

  pub nearest-is : Answers cs v (nearest cs v)
  nearest-is = tested-answers (feature cs v) (feature-tested cs v)

  pub answers-iff : (a : NearestPoint) → Answers cs v a ↔ (a ≡ nearest cs v)
  answers-iff a = (only, λ is. subst (Answers cs v) (sym is) nearest-is)
    where
      only : Answers cs v a → a ≡ nearest cs v
      only other =
          other.written
          ∙ ap (values cs v)
          (fits-unique polygon (whole v) a.feature (nearest cs v).feature other.nearest.in_piece.proper
          nearest-is.nearest.in_piece.proper
          (nearest-unique polygon (whole-proper v) other.nearest nearest-is.nearest) other.fits nearest-is.fits
          ∙ values-feature cs v (feature cs v))

  pub nearest-distance : IsSquaredDistance (whole v) (nearest cs v).point (nearest cs v).gap
  nearest-distance = values-distance polygon v (feature cs v) (tested-known cs v (feature cs v) (feature-tested cs v))

  answers-feature : (f : Feature) → Answers cs v (values cs v f) → feature cs v ≡ f
  answers-feature f is =
      sym (values-feature cs v (feature cs v)) ∙ ap (λ (a : NearestPoint). a.feature) (sym ((answers-iff (values cs v f)).0 is))
      ∙ values-feature cs v f

  pub feature-iff : (f : Feature) → (feature cs v ≡ f) ↔ Tested cs v f
  feature-iff f = (λ is. subst (Tested cs v) is (feature-tested cs v), λ holds. answers-feature f (tested-answers f holds))

  pub local-agrees : (f : Feature) → Tested cs v f ↔ Answers cs v (values cs v f)
  local-agrees f = (tested-answers f, λ is. (feature-iff f).0 (answers-feature f is))

  pub within-iff : (feature cs v ≡ Feature.Within) ↔ InPiece cs (whole v)
  within-iff = (
    λ is. (tested-answers Feature.Within ((feature-iff Feature.Within).0 is)).fits.0,
    λ inside. is_within inside (feature cs v) (feature-tested cs v),
  )
    where
      is_within : InPiece cs (whole v) → (f : Feature) → Tested cs v f → f ≡ Feature.Within
      is_within inside Feature.Within holds = refl
      is_within inside (Feature.Corner i) holds = absurd ((tested-answers (Feature.Corner i) holds).fits.0 inside)
      is_within inside (Feature.Edge i) holds = absurd ((tested-answers (Feature.Edge i) holds).fits.0 inside)

  pub gap-zero-iff : ((nearest cs v).gap.upper ≡ 0) ↔ InPiece cs (whole v)
  gap-zero-iff = (
    λ none. within-iff.0 (is_within (feature cs v) (feature-tested cs v) none),
    λ inside. ap (λ (f : Feature). (values cs v f).gap.upper) (within-iff.1 inside),
  )
    where
      is_within : (f : Feature) → Tested cs v f → (values cs v f).gap.upper ≡ 0 → f ≡ Feature.Within
      is_within Feature.Within holds none = refl
      is_within (Feature.Corner i) (below, holds) none =
          let c = corner cs i in
          absurd (((corner-test v _ c _).0 holds).0.0
          (apart-0 c v (rw (sym (nat_abs-nonneg (dot-self (c ⇀ v))) ∙ ap pos none) (≤ℤ_refl (pos 0)))))
      is_within (Feature.Edge i) (below, holds) none =
          let s = side (corner cs i) (corner cs (next (length cs) i)) v in
          absurd (no-square s ((edge_test v _ _).0 holds).0 (sym (nat_abs-nonneg (square-nonneg s)) ∙ ap pos none))

  module _ (i : ℕ) (below : i < length cs) where
    abbrev p : Corner
    p = corner cs i

    abbrev q : Corner
    q = corner cs (next (length cs) i)

    pub foot-at-start : side p q v <ℤ pos 0 → along p q v ≡ pos 0 → feature cs v ≡ Feature.Corner i
    foot-at-start visible at-start =
        let (other, before, after) = square-at-start v _ p q (turns-left polygon i below) visible at-start in
        (feature-iff (Feature.Corner i)).1 (below, (corner-test v _ p q).1 ((other, before), after))

    pub foot-at-end : side p q v <ℤ pos 0 → along p q v ≡ squared_length p q
        → feature cs v ≡ Feature.Corner (next (length cs) i)
    foot-at-end visible at-end =
        let n = length cs in let j = next n i in let known = next-below n i (omega arith) in
        let (other, before, after) = square-at-end v p q (corner cs (next n j)) (turns-on polygon i below) visible at-end in
        (feature-iff (Feature.Corner j)).1
        (known, (corner-test v _ q _).1 ((other, rw (previous-next n i below) before), after))

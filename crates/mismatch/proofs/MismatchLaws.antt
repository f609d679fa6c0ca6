-- The mismatch sum of two outlines as held, which are polygons.
--     mismatch_sum-is       `mismatch_sum` is the mismatch sum
--     near-unique          a corner has one nearest point
--     mismatch_sum-unique   so no other number is the mismatch sum
--     mismatch_sum-zero-iff    it is 0 exactly where every gap is less than one unit
--     same-piece-zero      so it is 0 where the pieces are the same
--     mismatch_sum-swap     it is the same with the outlines exchanged
--     mismatch_sum-cycle    and where the lists of corners start elsewhere
-- Where the outlines are accepted:
--     gap-units-at-most    a gap in units is at most 1024 · 2,048,000,000
--     side-sum-at-most     those of the first corners of a side are together at most 256 times as much
--     mismatch_sum-at-most, mismatch_sum-fits    the mismatch sum is at most twice that, and fits 63 bits
use Prim.Native.Nat.{ℕ, ◌+◌, ◌*◌, ◌^◌, ◌<◌, ◌≤◌}
use mathlib.Core.Path.{◌≡◌, refl, sym, ap, subst, ◌∙◌}
use mathlib.Core.Logic.Iff
use mathlib.Core.Logic.{◌↔◌}
use mathlib.Core.List.{List}
use native.Mathlib.Nat.{add_comm, add-le-add, le_of_lt, le_refl, le_trans, lt_of_le_of_lt, lt_of_lt_of_le}
use native.Mathlib.Nat.{mul-le-mul_right}
use native.Mathlib.Omega.{arith}
use lib.Dec.{lit<}
use lib.ListN.{length}
use Rattle.integers.specs.declared.fraction.Fraction.{Fraction}
use Rattle.integers.specs.Fraction.{NotGreater, LessThan}
use Rattle.integers.specs.Units.{of_units, WholeUnits}
use Rattle.integers.specs.code.Units.{whole_units}
use Rattle.integers.proofs.UnitsLaws.{units-is, units-unique, units-zero-iff, units-at-most, plus-not-above}
use Rattle.integers.proofs.UnitsLaws.{plus-above}
use Rattle.lists.specs.Fold.{sum}
use Rattle.lists.proofs.FoldLaws.{sum_same, sum-zero-iff, sum-at-most}
use Rattle.plane.specs.declared.Corner.{Corner}
use Rattle.plane.specs.Range.{InRange}
use Rattle.plane.specs.code.Range.{product_limit}
use Rattle.outline.specs.Convex.{Accepted}
use Rattle.outline.specs.Corners.{corner, most}
use Rattle.outline.specs.code.Polygon.{Polygon}
use Rattle.outline.specs.declared.Side.{Side}
use Rattle.outline.specs.declared.Side.TheVariants.{A, B}
use Rattle.outline.proofs.EdgeLaws.{accepted-polygon}
use Rattle.nearest.specs.declared.NearestPoint.{NearestPoint}
use Rattle.nearest.specs.code.Local.{nearest}
use Rattle.nearest.proofs.AnswerLaws.{answers-iff, gap-zero-iff}
use Rattle.nearest.proofs.GapLimit.{gap-at-most, nearest-bounded}
use Rattle.nearest.proofs.Rotation.{rotated, RotationInvariant, SamePiece, rotated-length, rotated-corner}
use Rattle.nearest.proofs.RotationNearest.{rotated-polygon, rotated-nearest}
use Rattle.nearest.proofs.Reversal.{SameCycle}
use Rattle.nearest.proofs.Support.{corner-in-piece}
use Rattle.hausdorff.specs.declared.CornerGap.{CornerGap}
use Rattle.hausdorff.specs.Pair.{Pair, both, other}
use Rattle.hausdorff.specs.Answer.{IsGap}
use Rattle.hausdorff.specs.CornerGap.{with_corner, nearest_of}
use Rattle.hausdorff.specs.code.Pair.{Polygons}
use Rattle.hausdorff.specs.code.CornerGap.{corner_gap}
use Rattle.hausdorff.proofs.GapLaws.{gap-iff, gap_is, gap-positive}
use Rattle.mismatch.specs.MismatchSum.{units, fraction_sum, IsMismatchSum}
use Rattle.mismatch.specs.code.MismatchSum.{gap_units, side_sum, mismatch_sum}
use Rattle.mismatch.proofs.SumLaws.{fraction_sum-positive, fraction_sum-not-above, fraction_sum-less, sum-next}

module _ (pair : Pair) (polygons : Polygons pair) where
  -- the nearest point to a corner, its gap, and this in units
  abbrev near_at : Side → ℕ → NearestPoint
  near_at s i = nearest (pair (other s)) (corner (pair s) i)

  abbrev gap_at : Side → ℕ → Fraction
  gap_at s i = (near_at s i).gap

  abbrev term_at : Side → ℕ → ℕ
  term_at s i = gap_units (pair (other s)) (corner (pair s) i)

  term_is : (s : Side) (i : ℕ) → WholeUnits units (gap_at s i) (term_at s i)
  term_is s i = units-is units (gap_at s i) (gap-positive pair polygons s i)

  -- those of a side are together not above the exact sum of its gaps, and short of it by less than their number
  side-not-above : (s : Side)
      → NotGreater (of_units units (sum (term_at s) (length (pair s)))) (fraction_sum (gap_at s) (length (pair s)))
  side-not-above s = fraction_sum-not-above (gap_at s) (gap-positive pair polygons s) units (term_at s) (term_is s) (length (pair s))

  side-less : (s : Side)
      → LessThan (fraction_sum (gap_at s) (length (pair s))) (of_units units (sum (term_at s) (length (pair s)) + length (pair s)))
  side-less s =
      fraction_sum-less (gap_at s) (gap-positive pair polygons s) units (term_at s) (term_is s) (length (pair s))
      (omega (arith, (polygons s).at_least))

  -- every corner has its gap, and the bounds of the two sides add up
  pub mismatch_sum-is : IsMismatchSum pair (mismatch_sum pair)
  mismatch_sum-is = record {
    near = near_at;
    is_gap = gap_is pair polygons;
    term = term_at;
    brought_down = λ s i below. term_is s i;
    added = refl;
    not_above = plus-not-above units _ _ _ _ (side-not-above A) (side-not-above B);
    short_by_less = rw together at (plus-above units _ _ _ _ positive (le_of_lt (side-less A)) (side-less B));
  }
    where
      positive : 0 < (fraction_sum (gap_at A) (length (pair A))).lower
      positive = fraction_sum-positive (gap_at A) (gap-positive pair polygons A) (length (pair A))

      together : sum (term_at A) (length (pair A)) + length (pair A) + (sum (term_at B) (length (pair B)) + length (pair B))
          ≡ sum (term_at A) (length (pair A)) + sum (term_at B) (length (pair B)) + (length (pair A) + length (pair B))
      together = omega arith

  -- a corner has one nearest point,
  pub near-unique : {s : Side} {i : ℕ} {a : NearestPoint} → IsGap pair (with_corner s i a) → a ≡ near_at s i
  near-unique is = ap nearest_of ((gap-iff pair polygons _).0 is).1

  -- whose gap is one number of whole units
  term-at : {m : ℕ} (is : IsMismatchSum pair m) (s : Side) (i : ℕ) → i < length (pair s) → is.term s i ≡ term_at s i
  term-at is s i below =
      units-unique (is.brought_down s i below) (rw (near-unique (is.is_gap s i below)) (term_is s i))

  pub mismatch_sum-unique : {m : ℕ} → IsMismatchSum pair m → m ≡ mismatch_sum pair
  mismatch_sum-unique is = is.added ∙ rw (sum_same (length (pair A)) (term-at is A), sum_same (length (pair B)) (term-at is B))

  -- a sum is 0 exactly where every term is, and a term where its gap is less than one unit
  pub mismatch_sum-zero-iff : (mismatch_sum pair ≡ 0) ↔ ((w : CornerGap) → IsGap pair w → LessThan w.gap (of_units units 1))
  mismatch_sum-zero-iff = (there, back)
    where
      side-zero : mismatch_sum pair ≡ 0 → (s : Side) → sum (term_at s) (length (pair s)) ≡ 0
      side-zero none A = omega (arith, none)
      side-zero none B = omega (arith, none)

      there : mismatch_sum pair ≡ 0 → (w : CornerGap) → IsGap pair w → LessThan w.gap (of_units units 1)
      there none w is =
          let (below, e) = (gap-iff pair polygons w).0 is in
          let here = (sum-zero-iff (term_at w.side) (length (pair w.side))).0 (side-zero none w.side) w.corner below in
          subst (λ (x : CornerGap). LessThan x.gap (of_units units 1)) (sym e)
          ((units-zero-iff (term_is w.side w.corner)).0 here)

      small : ((w : CornerGap) → IsGap pair w → LessThan w.gap (of_units units 1))
          → (s : Side) → sum (term_at s) (length (pair s)) ≡ 0
      small less s = (sum-zero-iff (term_at s) (length (pair s))).1
          (λ i below. (units-zero-iff (term_is s i)).1 (less (corner_gap pair s i) (gap_is pair polygons s i below)))

      back : ((w : CornerGap) → IsGap pair w → LessThan w.gap (of_units units 1)) → mismatch_sum pair ≡ 0
      back less = rw (small less A, small less B)

  -- the corners of each are in the other, and the gap of such a corner is 0
  pub same-piece-zero : SamePiece (pair A) (pair B) → mismatch_sum pair ≡ 0
  same-piece-zero same = mismatch_sum-zero-iff.1 (λ w is.
      let (below, e) = (gap-iff pair polygons w).0 is in
      let s = w.side in let i = w.corner in
      let inside = (both_ways s _).0 (corner-in-piece (polygons s) i below) in
      let none = (gap-zero-iff (polygons (other s)) (corner (pair s) i)).1 inside in
      subst (λ (x : CornerGap). LessThan x.gap (of_units units 1)) (sym e)
      (rw none (omega (arith, gap-positive pair polygons s i))))
    where
      both_ways : (s : Side) → SamePiece (pair s) (pair (other s))
      both_ways A = same
      both_ways B = λ z. Iff.symm (same z)

-- the two sums change places
pub mismatch_sum-swap : (ps qs : List Corner) → mismatch_sum (both qs ps) ≡ mismatch_sum (both ps qs)
mismatch_sum-swap ps qs = add_comm (side_sum qs ps) (side_sum ps qs)

-- a sum over the corners does not depend on where they start
first-cycle : (vs ws cs : List Corner) → SameCycle vs ws → side_sum ws cs ≡ side_sum vs cs
first-cycle vs ws cs same = (same Q invariant).0 refl
  where
    Q : List Corner → Type 0
    Q es = side_sum es cs ≡ side_sum vs cs

    once : (es : List Corner) → side_sum (rotated es) cs ≡ side_sum es cs
    once es = rw (rotated-length es)
        (sum_same (length es) (λ i below. ap (gap_units cs) (rotated-corner es i below))
        ∙ sum-next (λ i. gap_units cs (corner es i)) (length es))

    invariant : RotationInvariant Q
    invariant es = (λ is. once es ∙ is, λ is. sym (once es) ∙ is)

-- and neither do the gaps
second-cycle : (vs cs ds : List Corner) → Polygon cs → SameCycle cs ds → side_sum vs ds ≡ side_sum vs cs
second-cycle vs cs ds polygon same = ((same Q invariant).0 (polygon, refl)).1
  where
    Q : List Corner → Type 0
    Q es = Polygon es × (side_sum vs es ≡ side_sum vs cs)

    once : (es : List Corner) → Polygon es → side_sum vs (rotated es) ≡ side_sum vs es
    once es known = sum_same (length vs) (λ i below. ap (whole_units units) (rotated-nearest known (corner vs i)).0)

    invariant : RotationInvariant Q
    invariant es = (
      λ (known, is). ((rotated-polygon es).0 known, once es known ∙ is),
      λ (known, is). let before = (rotated-polygon es).1 known in (before, sym (once es before) ∙ is),
    )

-- so the mismatch sum does not
pub mismatch_sum-cycle : {ps qs ps' qs' : List Corner} → Polygons (both ps qs) → SameCycle ps ps' → SameCycle qs qs'
    → mismatch_sum (both ps' qs') ≡ mismatch_sum (both ps qs)
mismatch_sum-cycle {ps} {qs} {ps'} {qs'} polygons same-p same-q =
    rw (
      first-cycle ps ps' qs' same-p,
      second-cycle ps qs qs' (polygons B) same-q,
      first-cycle qs qs' ps' same-q,
      second-cycle qs ps ps' (polygons A) same-p,
    )

-- no gap is above 2,048,000,000
pub gap-units-at-most : {cs : List Corner} {v : Corner} → Accepted cs → InRange v → gap_units cs v ≤ product_limit * units
gap-units-at-most {cs} {v} ok all_in_range =
    let polygon = accepted-polygon ok in
    let positive = (nearest-bounded ok v).lower_positive in
    units-at-most product_limit positive (gap-at-most ok all_in_range ((answers-iff polygon v (nearest cs v)).1 refl))
    (units-is units (nearest cs v).gap positive)

-- so those of some corners of a side, in their order, are together at most 256 times as much
pub side-sum-at-most : {vs cs : List Corner} (i : ℕ) → i ≤ length vs → Accepted vs → Accepted cs
    → sum (λ k. gap_units cs (corner vs k)) i ≤ most * (product_limit * units)
side-sum-at-most i few ok-v ok-c =
    le_trans (sum-at-most i (λ k below. gap-units-at-most ok-c (ok-v.all_in_range k (lt_of_lt_of_le below few))))
    (mul-le-mul_right (product_limit * units) (le_trans few ok-v.at_most))

-- and both sides
pub mismatch_sum-at-most : {ps qs : List Corner} → Accepted ps → Accepted qs
    → mismatch_sum (both ps qs) ≤ most * (product_limit * units) + most * (product_limit * units)
mismatch_sum-at-most {ps} {qs} ok-p ok-q =
    add-le-add (side-sum-at-most (length ps) (le_refl _) ok-p ok-q) (side-sum-at-most (length qs) (le_refl _) ok-q ok-p)

pub mismatch_sum-fits : {ps qs : List Corner} → Accepted ps → Accepted qs → mismatch_sum (both ps qs) < 2 ^ 63
mismatch_sum-fits ok-p ok-q = lt_of_le_of_lt (mismatch_sum-at-most ok-p ok-q) (lit< tt)

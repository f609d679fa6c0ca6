-- How great a gap can be.
--     gap-at-most         as a value it is at most 2,048,000,000
--     whole-bounded, edge-bounded    a gap over 1, or over an edge's squared length, has a lower number above 0 and below
--                         2^32, so that 64 bits are enough to compare it exactly
--     nearest-bounded     so has the gap that is computed
use Prim.Native.Nat.{ℕ, ◌<◌}
use mathlib.Core.List.{List}
use native.Mathlib.Nat.{le_of_eq, lt_of_le_of_lt, lt_of_lt_of_le, mul-one}
use native.Mathlib.Omega.{arith}
use lib.Dec.{lit<, ltb→lt}
use lib.ListN.{length}
use Rattle.integers.specs.declared.fraction.Fraction.{Fraction}
use Rattle.integers.specs.Fraction.{NotGreater}
use Rattle.integers.specs.code.Fraction.{Bounded}
use Rattle.integers.proofs.FractionOrder.{not_greater-trans}
use Rattle.plane.specs.declared.Corner.{Corner}
use Rattle.plane.specs.declared.Vector.{Vector}
use Rattle.plane.specs.Point.{whole, squared_distance}
use Rattle.plane.specs.Range.{InRange}
use Rattle.plane.specs.code.Range.{product_limit}
use Rattle.plane.proofs.Arithmetic.{dot-is}
use Rattle.plane.proofs.Points.{whole-⇢, whole-proper}
use Rattle.plane.proofs.Range.{span-⇀}
use Rattle.outline.specs.Convex.{Accepted}
use Rattle.outline.specs.Corners.{corner, edge}
use Rattle.outline.proofs.EdgeLaws.{accepted-polygon, lower-above-0, length-size}
use Rattle.nearest.specs.declared.Feature.{Feature}
use Rattle.nearest.specs.declared.NearestPoint.{NearestPoint}
use Rattle.nearest.specs.Feature.{edge_gap, values}
use Rattle.nearest.specs.Nearest.{Answers}
use Rattle.nearest.specs.code.Local.{Tested, feature, nearest}
use Rattle.nearest.proofs.AnswerLaws.{feature-tested}
use Rattle.nearest.proofs.DistanceLaws.{squared_distance-is}
use Rattle.nearest.proofs.Support.{corner-in-piece}

-- the most that a gap can be: 2 · 32,000² = 2,048,000,000
abbrev pub most_gap : Fraction
most_gap = record { upper = product_limit; lower = 1 }

-- No point of the piece is nearer, so corner 0 is not, and each of its two differences to v is at most 32,000.
pub gap-at-most : {cs : List Corner} {v : Corner} {a : NearestPoint} → Accepted cs → InRange v → Answers cs v a
    → NotGreater a.gap most_gap
gap-at-most {cs} {v} {a} ok all_in_range is =
    let c = corner cs 0 in
    let known : 0 < length cs = lt_of_lt_of_le (lit< tt) ok.at_least in
    let span = span-⇀ (ok.all_in_range 0 known) all_in_range in
    let here = squared_distance (whole v) a.point in
    let there = squared_distance (whole v) (whole c) in
    let proper = squared_distance-is (whole v) a.point (whole-proper v) is.nearest.in_piece.proper in
    let inside = corner-in-piece (accepted-polygon ok) 0 known in
    let not-nearer : NotGreater here there = is.none_nearer (whole c) inside in
    let small : NotGreater there most_gap = rw (whole-⇢ c v, mul-one) (dot-is span span).bound.size in
    not_greater-trans a.gap here most_gap (ltb→lt 0 _ proper.lower_positive.lt) (le_of_eq is.distance)
    (not_greater-trans here there most_gap (lit< tt) not-nearer small)

pub whole-bounded : (n : ℕ) → Bounded (record { upper = n; lower = 1 })
whole-bounded n = record { lower_positive = omega arith; lower_fits = lit< tt }

module _ {cs : List Corner} (ok : Accepted cs) where
  -- an edge's squared length is above 0, as consecutive corners differ, and at most 2,048,000,000
  pub edge-bounded : (i : ℕ) → i < length cs → (to : Vector) → Bounded (edge_gap (edge cs i) to)
  edge-bounded i below to =
      record {
        lower_positive = ltb→lt 0 _ (lower-above-0 (accepted-polygon ok) i below).lt;
        lower_fits = lt_of_le_of_lt (length-size ok i below).size (lit< tt);
      }

  -- the gap to a feature whose test holds is over one of the two
  tested-bounded : (v : Corner) (f : Feature) → Tested cs v f → Bounded (values cs v f).gap
  tested-bounded v Feature.Within none = whole-bounded _
  tested-bounded v (Feature.Corner i) holds = whole-bounded _
  tested-bounded v (Feature.Edge i) (below, holds) = edge-bounded i below _

  pub nearest-bounded : (v : Corner) → Bounded (nearest cs v).gap
  nearest-bounded v = tested-bounded v (feature cs v) (feature-tested cs v)

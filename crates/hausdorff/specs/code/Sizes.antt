-- The natural numbers of an answer fit 63 bits, so that they can be cast to i64: `proofs/Fitting.antt` shows that
-- all do.
use Rattle.std.specs.Prelude.{ℕ, ◌^◌, ◌<◌, Option, None, Some}
use Rattle.nearest.specs.declared.Feature.{Feature}
use Rattle.nearest.specs.declared.Feature.TheVariants.{Within, Corner, Edge}
use Rattle.nearest.specs.declared.NearestPoint.{NearestPoint}
use Rattle.hausdorff.specs.declared.CornerGap.{CornerGap}
use Rattle.hausdorff.specs.declared.Spent.{Spent}
use Rattle.hausdorff.specs.declared.Done.{Done}
use Rattle.hausdorff.specs.declared.Report.{Report}
use Rattle.hausdorff.specs.CornerGap.{nearest_of}

-- a number does
abbrev pub FitsI64 : ℕ → Type 0
FitsI64 n = n < 2 ^ 63

-- a feature's number
abbrev pub FeatureFits : Feature → Type 0
FeatureFits Within = Unit {0}
FeatureFits (Corner i) = FitsI64 i
FeatureFits (Edge i) = FitsI64 i

-- the numbers of a nearest point
pub record NearestFits (a : NearestPoint) : Type 0 where
  pub feature : FeatureFits a.feature
  pub upper : FitsI64 a.gap.upper
  pub lower : FitsI64 a.gap.lower
  pub point_lower : FitsI64 a.point.lower

-- of a corner with its gap
pub record CornerFits (w : CornerGap) : Type 0 where
  pub corner : FitsI64 w.corner
  pub nearest : NearestFits (nearest_of w)

-- of the worst so far
abbrev pub WorstFits : Option CornerGap → Type 0
WorstFits None = Unit {0}
WorstFits (Some w) = CornerFits w

-- of a done report
pub record DoneFits (d : Done) : Type 0 where
  pub answer : CornerFits d.answer
  pub clearance : FitsI64 d.clearance
  pub side_a : CornerFits d.sides.a
  pub side_b : CornerFits d.sides.b

-- of a spent report
pub record SpentFits (p : Spent) : Type 0 where
  pub support_a : FitsI64 p.support.a
  pub support_b : FitsI64 p.support.b
  pub worst : WorstFits p.worst
  pub side_a : WorstFits p.sides.a
  pub side_b : WorstFits p.sides.b

-- of a report
abbrev pub ReportFits : Report → Type 0
ReportFits (Report.Spent p) = SpentFits p
ReportFits (Report.Done d) = DoneFits d

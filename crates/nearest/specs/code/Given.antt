-- Features whose numbers are those of corners or edges of a list.
use Rattle.std.specs.Prelude.{ℕ, ◌<◌}
use Rattle.nearest.specs.declared.Feature.{Feature}
use Rattle.nearest.specs.declared.Feature.TheVariants.{Within, Corner, Edge}

-- the feature's number, if it has one, is below n
abbrev pub FeatureBelow : ℕ → Feature → Type 0
FeatureBelow n Within = Unit {0}
FeatureBelow n (Corner i) = i < n
FeatureBelow n (Edge i) = i < n

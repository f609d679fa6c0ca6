-- When measuring changes the worst so far of a side. For the code alone: `proofs/ChangesLaws.antt` shows that these
-- tests say so, and `proofs/GapSizes.antt` that every worst so far is bounded.
use Rattle.std.specs.Prelude.{ℕ, Bool, true, false, not, ◌&&◌, ◌||◌, ltb, Option, None, Some}
use Rattle.integers.specs.declared.fraction.Fraction.{Fraction}
use Rattle.integers.specs.Fraction.{is_less}
use Rattle.integers.specs.code.Fraction.{Bounded}
use Rattle.plane.specs.declared.Corner.{Corner}
use Rattle.hausdorff.specs.declared.CornerGap.{CornerGap}
use Rattle.measuring.specs.declared.Window.{Window}
use Rattle.measuring.specs.declared.LocalFeature.{LocalFeature}
use Rattle.measuring.specs.LocalFeature.{local_values}

-- the gap of the worst so far, if there is one, can be compared exactly
abbrev pub BoundedWorst : Option CornerGap → Type 0
BoundedWorst None = Unit {0}
BoundedWorst (Some w) = Bounded w.gap

-- corner i, with this gap, takes the place of another of its side: `takes_place` of `hausdorff`, where the corners have
-- their numbers as given
abbrev pub is_worse : Fraction → ℕ → CornerGap → Bool
is_worse gap i old = is_less old.gap gap || (not (is_less gap old.gap) && ltb i old.corner)

-- corner i, with this gap, changes the worst so far
abbrev pub changes_on : Fraction → ℕ → Option CornerGap → Bool
changes_on gap i None = true
changes_on gap i (Some old) = is_worse gap i old

-- measuring corner i, at v, changes the worst so far; a corner that does not count changes nothing
abbrev pub changes : ℕ → Corner → Window → Option LocalFeature → Option CornerGap → Bool
changes i v w None old = false
changes i v w (Some f) old = changes_on (local_values v w f).gap i old

-- Measuring changes the worst so far of a side exactly where the test says so.
--     keeps-old    where it changes nothing, the old worst stays
use Prim.Native.Nat.{ℕ}
use mathlib.Core.Path.{◌≡◌, refl}
use mathlib.Core.Bool.{Bool, true, false, cond}
use Rattle.std.specs.Prelude.{Option, None, Some}
use Rattle.plane.specs.declared.Corner.{Corner}
use Rattle.outline.specs.declared.Orientation.{Orientation}
use Rattle.outline.specs.declared.Side.{Side}
use Rattle.nearest.specs.Given.{given_nearest}
use Rattle.hausdorff.specs.declared.CornerGap.{CornerGap}
use Rattle.hausdorff.specs.CornerGap.{with_corner}
use Rattle.hausdorff.specs.code.Worst.{keep}
use Rattle.measuring.specs.declared.Window.{Window}
use Rattle.measuring.specs.declared.LocalFeature.{LocalFeature}
use Rattle.measuring.specs.LocalFeature.{local_values, local_given}
use Rattle.measuring.specs.Changes.{is_worse, changes_on, changes}

-- What is kept goes by the test: where `new` is not worse, the old stays.
keep-by-test : (new : CornerGap) (old : Option CornerGap)
    → keep (λ (j : ℕ). j) old (Some new) ≡ cond (changes_on new.gap new.corner old) (Some new) old
keep-by-test new None = refl
keep-by-test new (Some old) = go (is_worse new.gap new.corner old)
  where
    go : (t : Bool) → Some (cond t new old) ≡ cond t (Some new) (Some old)
    go true = refl
    go false = refl

module _ (s : Side) (i : ℕ) (v : Corner) (o : Orientation) (w : Window) where
  pub keeps-old : (f : Option LocalFeature) (old : Option CornerGap)
      → changes i v w f old ≡ false → keep (λ (j : ℕ). j) old (local_given s i v o w f) ≡ old
  keeps-old None None fails = refl
  keeps-old None (Some old) fails = refl
  -- what is measured, by the lists as given, has the gap of the values
  keeps-old (Some f) old fails =
      rw (keep-by-test (with_corner s i (given_nearest o w.count (local_values v w f))) old, fails)

-- What a window of an accepted outline shows.
--     window-count, window-below     its count is the outline's, and its number is below it
--     WindowInRange, window-range    its corners are in range
--     local_values-below              a local feature has the number of a corner or an edge of the outline
use Prim.Native.Nat.{◌<◌}
use mathlib.Core.Path.{◌≡◌, refl, sym, ap, subst}
use lib.ListN.{length}
use Rattle.plane.specs.declared.Corner.{Corner}
use Rattle.plane.specs.Range.{InRange}
use Rattle.outline.proofs.CornersLaws.{before-below, after-below}
use Rattle.nearest.specs.code.Given.{FeatureBelow}
use Rattle.measuring.specs.declared.Window.{Window}
use Rattle.measuring.specs.Window.{IsWindow}
use Rattle.measuring.specs.declared.LocalFeature.{LocalFeature}
use Rattle.measuring.specs.LocalFeature.{local_values}

pub record WindowInRange (w : Window) : Type 0 where
  pub earlier : InRange w.earlier
  pub before : InRange w.before
  pub corner : InRange w.corner
  pub after : InRange w.after
  pub later : InRange w.later

module _ {w : Window} (window : IsWindow w) where
  pub window-count : w.count ≡ length window.outline
  window-count = ap (λ (u : Window). u.count) window.equal

  pub window-below : w.number < w.count
  window-below = rw window-count window.known

  -- each corner of the window is one of the outline's
  pub window-range : WindowInRange w
  window-range =
      let known = window.known in let all = window.accepted.all_in_range in
      subst WindowInRange (sym window.equal) (record {
        earlier = all _ (before-below refl (before-below refl known));
        before = all _ (before-below refl known);
        corner = all _ known;
        after = all _ (after-below refl known);
        later = all _ (after-below refl (after-below refl known));
      })

  pub local_values-below : (v : Corner) (f : LocalFeature) → FeatureBelow w.count (local_values v w f).feature
  local_values-below v LocalFeature.Corner = window-below
  local_values-below v LocalFeature.EdgeAfter = window-below
  local_values-below v LocalFeature.EdgeBefore = before-below refl window-below
  local_values-below v LocalFeature.CornerAfter = after-below refl window-below
  local_values-below v LocalFeature.CornerBefore = before-below refl window-below

-- for what a function asks of the corners of a window
pub ruleset ranges = (window-range)

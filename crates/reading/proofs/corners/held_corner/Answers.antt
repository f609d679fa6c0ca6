-- `reading::corners::held_corner` takes the corner with its number as given.
use mathlib.Core.List.{List}
use mathlib.Core.Path.{◌≡◌, sym}
use Prim.Native.Nat.{ℕ, ◌<◌}
use lib.ListN.{length}
use Rattle.plane.specs.declared.Corner.{Corner}
use Rattle.outline.specs.declared.Orientation.{Orientation}
use Rattle.outline.specs.Corners.{corner}
use Rattle.outline.specs.Orientation.{as_held, given_corner}
use Rattle.outline.proofs.OrientationLaws.{given_below, held-corner-given}
use Rattle.reading.proofs.corners.held_corner.Goals as goal

module _ (o : Orientation) (cs : List Corner) (j : ℕ) {n i : ℕ} (below : j < length cs) (counted : n ≡ length cs)
    (given : i ≡ given_corner o n j) where
  known : i < length cs
  known = rw (given, counted) (given_below o (length cs) j below)

  is_held : {c : Corner} → c ≡ corner cs i → c ≡ corner (as_held o cs) j
  is_held is = rw (is, given, counted) (sym (held-corner-given o cs j below))

ruleset as-given = (known, is_held)

pub corner-requires : goal.corner-requires
corner-requires c = search as-given

pub returns : goal.returns
returns c = search as-given

-- A list is accepted with an orientation in one way at most, so a struct may keep that it is in a ghost field.
use mathlib.Core.List.{List}
use lib.IntN.{ℤ}
use Rattle.std.proofs.Props.{props}
use Rattle.plane.specs.declared.Corner.{Corner}
use Rattle.outline.specs.declared.Orientation.{Orientation}
use Rattle.outline.specs.declared.Orientation.TheVariants.{Counterclockwise, Clockwise}
use Rattle.outline.specs.Orientation.{HasOrientation, AcceptedAs}

HasOrientation-prop : (o : Orientation) (cs : List Corner) → IsProp (HasOrientation o cs)
HasOrientation-prop Counterclockwise cs = hlevel props
HasOrientation-prop Clockwise cs = hlevel props

pub AcceptedAs-prop : (o : Orientation) (s : List ℤ) → IsProp (AcceptedAs o s)
AcceptedAs-prop o s = hlevel (props, HasOrientation-prop)

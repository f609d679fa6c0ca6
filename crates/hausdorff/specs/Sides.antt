-- What there is of each side.
use Rattle.outline.specs.declared.Side.{Side}
use Rattle.outline.specs.declared.Side.TheVariants.{A, B}
use Rattle.hausdorff.specs.declared.Sides.{Sides}

-- what there is of one side
abbrev pub at_side : {T : Type 0} → Sides T → Side → T
at_side sides A = sides.a
at_side sides B = sides.b

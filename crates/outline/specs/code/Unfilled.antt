-- The value for an outline before its corners are put into the places.
use Rattle.std.specs.Prelude.{ℕ, replicate}
use Rattle.outline.specs.declared.Outline.{Outline}
use Rattle.outline.specs.Corners.{origin, most}

-- a value for an outline of n corners, all places zero
abbrev pub unfilled : ℕ → Outline
unfilled n = record { count = n; corners = replicate most origin }

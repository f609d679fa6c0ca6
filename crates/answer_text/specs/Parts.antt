-- The parts of an answer as text (rules 8.7 to 8.9).
use Rattle.std.specs.Prelude.{ℕ, List, [], ◌++◌, ℤ, Option, Some, None}
use Rattle.integers.specs.declared.fraction.Fraction.{Fraction}
use Rattle.text.specs.Ascii.{ascii}
use Rattle.text.specs.Decimal.{decimal, signed_decimal}
use Rattle.plane.specs.declared.Point.{Point}
use Rattle.outline.specs.Fault.{number}
use Rattle.outline.specs.declared.Place.{Place}
use Rattle.outline.specs.declared.Place.TheVariants.{Nowhere, At, EdgeAndCorner}
use Rattle.outline.specs.declared.Refusal.{Refusal}
use Rattle.outline.specs.declared.Side.{Side}
use Rattle.outline.specs.declared.Side.TheVariants.{A, B}
use Rattle.nearest.specs.declared.Feature.{Feature}
use Rattle.nearest.specs.declared.Feature.TheVariants.{Within, Corner, Edge}

-- the letter of a side
abbrev pub side_text : Side → List ℕ
side_text A = ascii "A"
side_text B = ascii "B"

-- a corner: its side and its number
unfoldable pub corner_text : Side → ℕ → List ℕ
corner_text s i = side_text s ++ ascii " " ++ decimal i

-- the nearest feature: its kind, and its number if it has one
abbrev pub feature_text : Feature → List ℕ
feature_text Within = ascii "within"
feature_text (Corner i) = ascii "corner " ++ decimal i
feature_text (Edge i) = ascii "edge " ++ decimal i

-- a fraction: its upper and its lower number as they are given, not reduced
unfoldable pub fraction_text : Fraction → List ℕ
fraction_text f = decimal f.upper ++ ascii "/" ++ decimal f.lower

-- a coordinate of a point, as a fraction whose upper number may be below 0
unfoldable pub coordinate_text : ℤ → ℕ → List ℕ
coordinate_text upper lower = signed_decimal upper ++ ascii "/" ++ decimal lower

-- a point: x and y
unfoldable pub point_text : Point → List ℕ
point_text p = coordinate_text p.x p.lower ++ ascii " " ++ coordinate_text p.y p.lower

-- a space and the side of a refusal, or nothing where it has none
abbrev pub refused_side_text : Option Side → List ℕ
refused_side_text None = []
refused_side_text (Some s) = ascii " " ++ side_text s

-- some bytes and the numbers of a place, or nothing where there is none
abbrev pub place_text : List ℕ → Place → List ℕ
place_text before Nowhere = []
place_text before (At i) = before ++ decimal i
place_text before (EdgeAndCorner e c) = before ++ decimal e ++ ascii " " ++ decimal c

-- rule 8.7, a refusal: its side, its number and the place's numbers, if any
unfoldable pub refusal_text : Refusal → List ℕ
refusal_text r =
    ascii "refused" ++ refused_side_text r.side ++ ascii " " ++ decimal (number r.fault)
    ++ place_text (ascii " ") r.place

-- How long the parts are at the most.
--     decimal-fits, corner-fits, feature-fits, fraction-fits, point-fits, refusal-fits    how many bytes each has
use Prim.Native.Nat.{ℕ, suc, ◌+◌, ◌≤◌}
use mathlib.Core.List.{List}
use native.Mathlib.Omega.{arith}
use lib.IntN.{ℤ, pos, negsuc}
use lib.ListN.{length, length-append}
use Rattle.std.specs.Prelude.{Option, Some, None}
use Rattle.integers.specs.declared.fraction.Fraction.{Fraction}
use Rattle.text.specs.Ascii.{ascii}
use Rattle.text.specs.Decimal.{decimal, signed_decimal}
use Rattle.text.proofs.DecimalLaws.{digits-short}
use Rattle.plane.specs.declared.Point.{Point}
use Rattle.outline.specs.Fault.{number}
use Rattle.outline.specs.declared.Place.{Place}
use Rattle.outline.specs.declared.Place.TheVariants.{Nowhere, At, EdgeAndCorner}
use Rattle.outline.specs.declared.Refusal.{Refusal}
use Rattle.outline.specs.declared.Side.{Side}
use Rattle.outline.specs.declared.Side.TheVariants.{A, B}
use Rattle.nearest.specs.declared.Feature.{Feature}
use Rattle.nearest.specs.declared.Feature.TheVariants.{Within, Corner, Edge}
use Rattle.answer_text.specs.Parts.{side_text, corner_text, feature_text, fraction_text, coordinate_text, point_text}
use Rattle.answer_text.specs.Parts.{refused_side_text, place_text, refusal_text}

-- a number has at most 20 digits
pub decimal-fits : (n : ℕ) → length (decimal n) ≤ 20
decimal-fits n = digits-short 20 n

signed-fits : (z : ℤ) → length (signed_decimal z) ≤ 21
signed-fits (pos n) = omega (arith, decimal-fits n)
signed-fits (negsuc n) = omega (arith, decimal-fits (suc n))

side-fits : (s : Side) → length (side_text s) ≤ 1
side-fits A = omega arith
side-fits B = omega arith

pub corner-fits : (s : Side) (i : ℕ) → length (corner_text s i) ≤ 22
unfolding corner_text
corner-fits s i = simp length-append (omega (arith, side-fits s, decimal-fits i))

pub feature-fits : (f : Feature) → length (feature_text f) ≤ 27
feature-fits Within = omega arith
feature-fits (Corner i) = simp length-append (omega (arith, decimal-fits i))
feature-fits (Edge i) = simp length-append (omega (arith, decimal-fits i))

pub fraction-fits : (f : Fraction) → length (fraction_text f) ≤ 41
unfolding fraction_text
fraction-fits f = simp length-append (omega (arith, decimal-fits f.upper, decimal-fits f.lower))

coordinate-fits : (upper : ℤ) (lower : ℕ) → length (coordinate_text upper lower) ≤ 42
unfolding coordinate_text
coordinate-fits upper lower = simp length-append (omega (arith, signed-fits upper, decimal-fits lower))

pub point-fits : (p : Point) → length (point_text p) ≤ 85
unfolding point_text
point-fits p =
    simp length-append (omega (arith, coordinate-fits p.x p.lower, coordinate-fits p.y p.lower))

refused-side-fits : (s : Option Side) → length (refused_side_text s) ≤ 2
refused-side-fits None = omega arith
refused-side-fits (Some s) = omega (arith, side-fits s)

place-fits : (before : List ℕ) (p : Place) → length (place_text before p) ≤ length before + 41
place-fits before Nowhere = omega arith
place-fits before (At i) = simp length-append (omega (arith, decimal-fits i))
place-fits before (EdgeAndCorner e c) = simp length-append (omega (arith, decimal-fits e, decimal-fits c))

pub refusal-fits : (r : Refusal) → length (refusal_text r) ≤ 72
unfolding refusal_text
refusal-fits r =
    simp length-append
    (omega (arith, refused-side-fits r.side, decimal-fits (number r.fault), place-fits (ascii " ") r.place))

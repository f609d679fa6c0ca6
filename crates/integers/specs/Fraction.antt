-- Fractions as values (rule 3.5), with lower numbers above 0. They are compared by their cross products, in unbounded
-- numbers: n1 / d1 is to n2 / d2 as n1 * d2 is to n2 * d1.
use Rattle.std.specs.Prelude.{◌≡◌, Bool, ◌+◌, ◌*◌, ◌<◌, ◌≤◌, ltb}
use Rattle.integers.specs.declared.fraction.Fraction.{Fraction}

-- as values a is less than b, tested
abbrev pub is_less : Fraction → Fraction → Bool
is_less a b = ltb (a.upper * b.lower) (b.upper * a.lower)

-- as values a is not greater than b
abbrev pub NotGreater : Fraction → Fraction → Type 0
NotGreater a b = a.upper * b.lower ≤ b.upper * a.lower

-- a and b have the same value, whatever their numbers
abbrev pub SameValue : Fraction → Fraction → Type 0
SameValue a b = a.upper * b.lower ≡ b.upper * a.lower

-- as values a is less than b
abbrev pub LessThan : Fraction → Fraction → Type 0
LessThan a b = a.upper * b.lower < b.upper * a.lower

-- the sum of a and b, over the product of their lower numbers
abbrev pub plus : Fraction → Fraction → Fraction
plus a b = record { upper = a.upper * b.lower + b.upper * a.lower; lower = a.lower * b.lower }

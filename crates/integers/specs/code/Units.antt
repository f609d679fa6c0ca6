-- A fraction in whole units, computed: `proofs/UnitsLaws.antt` shows that `whole_units u g` is the WholeUnits of g.
use Rattle.std.specs.Prelude.{ℕ, ◌*◌, ◌/◌}
use Rattle.integers.specs.declared.fraction.Fraction.{Fraction}

-- the fraction times u, rounded down
unfoldable pub whole_units : ℕ → Fraction → ℕ
whole_units u g = g.upper * u / g.lower

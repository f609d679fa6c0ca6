-- Square roots, computed: of a number rounded down, of a fraction rounded up. `proofs/RootLaws.antt` shows that
-- `ceiling_root g` is the CeilingRoot of g.
use Rattle.std.specs.Prelude.{ℕ, zero, suc, ◌+◌, ◌*◌, ◌/◌, cond, leb}
use Rattle.integers.specs.declared.fraction.Fraction.{Fraction}

-- twice the root r of n / 4, or one more: the root of n
abbrev pub doubled : ℕ → ℕ → ℕ
doubled n r = cond (leb ((r + r + 1) * (r + r + 1)) n) (r + r + 1) (r + r)

-- the root of n, made so in at most `fuel` steps, at least as many as the root has binary digits
unfoldable pub root_by : ℕ → ℕ → ℕ
root_by zero n = 0
root_by (suc fuel) zero = 0
root_by (suc fuel) (suc n) = doubled (suc n) (root_by fuel (suc n / 4))

-- the largest whole number whose square is not above n
abbrev pub root : ℕ → ℕ
root n = root_by n n

-- the smallest whole number whose square is not below a fraction, of its upper and its lower number. A whole number
-- is at least (n + 1) / d exactly where it is above n / d, that is, above the whole part of n / d
abbrev pub ceiling_root_of : ℕ → ℕ → ℕ
ceiling_root_of zero d = 0
ceiling_root_of (suc n) d = suc (root (n / d))

-- the same of the fraction
abbrev pub ceiling_root : Fraction → ℕ
ceiling_root g = ceiling_root_of g.upper g.lower

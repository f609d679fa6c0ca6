-- Square roots, as `specs/code/Root.antt` computes them: of a number rounded down, of a fraction rounded up.
--     IsRoot                 r is the largest number whose square is not above n
--     root-square            `root n` is
--     root-unique            no other number is
--     root-odd, root-even    it is 2r + 1, with r the root of n / 4, where (2r + 1)² is not above n, and 2r where it is
--     odd-fits               with r the root of a number of 62 bits, (2r + 1)² fits 64
--     ceiling-root           `ceiling_root g` is the smallest number whose square is not below g
--     ceiling-suc            it is one more than the root of (n - 1) / d, for g = n / d above 0
--     ceiling-unique         there is one such number
--     ceiling-small          it is not above g's upper number
--     ceiling-before         where it is above 0, the square of the number before it is below g
--     ceiling-zero-iff       it is 0 exactly where g is
--     ceiling-mono           it is not less for a greater fraction
--     ceiling-same           it is the same for fractions of one value
use Prim.Native.Nat.{ℕ, zero, suc, zero-le, ◌+◌, ◌-◌, ◌*◌, ◌/◌, ◌^◌, ◌<◌, ◌≤◌}
use native.Mathlib.Nat.{div-lt_iff_lt-mul, le_antisymm, le-mul_of_pos_right, le_of_eq, le_of_lt, le_of_suc-le-suc}
use native.Mathlib.Nat.{le_trans, lt_irrefl, lt_of_not-le, mul-le-mul, mul-le-mul_right, mul-one, not-le_of_lt}
use native.Mathlib.Nat.{zero-mul}
use native.Mathlib.Omega.{arith}
use borrow.Author.Tests.{leb-true, leb-false, le-leb, lt-leb}
use mathlib.Core.Path.{◌≡◌, refl, sym}
use mathlib.Core.Logic.{◌↔◌}
use mathlib.Core.Bool.{Bool, true, false, cond}
use lib.Dec.{leb}
use Rattle.integers.specs.declared.fraction.Fraction.{Fraction}
use Rattle.integers.specs.Fraction.{NotGreater, SameValue}
use Rattle.integers.specs.code.Root.{doubled, root_by, root, ceiling_root_of, ceiling_root}
use Rattle.integers.specs.Root.{CeilingRoot}
use Rattle.integers.proofs.FractionOrder.{not_greater-trans}

-- r² ≤ n < (r + 1)²
pub record IsRoot (n r : ℕ) : Type 0 where
  pub not_above : r * r ≤ n
  pub above : n < suc r * suc r

-- With r² ≤ n / 4 < (r + 1)², (2r)² ≤ n < (2r + 2)²: the root of n is 2r or 2r + 1.
doubled-root : (n r : ℕ) → IsRoot (n / 4) r → IsRoot n (doubled n r)
doubled-root n r quarter = go (leb ((r + r + 1) * (r + r + 1)) n) refl
  where
    go : (t : Bool) → leb ((r + r + 1) * (r + r + 1)) n ≡ t → IsRoot n (cond t (r + r + 1) (r + r))
    go true e = record { not_above = leb-true _ _ e; above = omega arith }
    go false e = record { not_above = omega arith; above = omega (arith, leb-false) }

-- n / 4 is less than n, so that n steps are enough
root_by-square : (fuel n : ℕ) → n ≤ fuel → IsRoot n (root_by fuel n)
unfolding root_by
root_by-square zero n enough = record { not_above = omega arith; above = omega arith }
root_by-square (suc fuel) zero enough = record { not_above = omega arith; above = omega arith }
root_by-square (suc fuel) (suc n) enough = doubled-root (suc n) _ (root_by-square fuel (suc n / 4) (omega arith))

-- the fuel of `root` is enough
pub root-square : (n : ℕ) → IsRoot n (root n)
root-square n = root_by-square n n (omega arith)

-- r is below every number whose square is above n
root_below : {n r : ℕ} (k : ℕ) → IsRoot n r → n < k * k → r < k
root_below k is above = lt_of_not-le (λ more. not-le_of_lt above (le_trans (mul-le-mul more more) is.not_above))

-- of two such numbers each is below the other's next
pub root-unique : {n r s : ℕ} → IsRoot n r → IsRoot n s → r ≡ s
root-unique one other =
    le_antisymm (le_of_suc-le-suc (root_below _ one other.above))
    (le_of_suc-le-suc (root_below _ other one.above))

-- `root n` is made of the root of n / 4, whatever the fuel: both sides are the root of n.
root-doubled : (n : ℕ) → root n ≡ doubled n (root (n / 4))
root-doubled n = root-unique (root-square n) (doubled-root n _ (root-square (n / 4)))

-- So it is odd where the square of the odd number is not above n,
pub root-odd : {n r : ℕ} → r ≡ root (n / 4) → (r + r + 1) * (r + r + 1) ≤ n → r + r + 1 ≡ root n
root-odd e below = rw (root-doubled _, ← e, le-leb _ _ below)

-- and even where it is.
pub root-even : {n r : ℕ} → r ≡ root (n / 4) → n < (r + r + 1) * (r + r + 1) → r + r ≡ root n
root-even e above = rw (root-doubled _, ← e, lt-leb _ _ above)

-- With r² ≤ n < 2⁶², r is below 2³¹, and 2r + 1 below 2³².
pub odd-fits : {n r : ℕ} → r ≡ root n → n < 2 ^ 62 → (r + r + 1) * (r + r + 1) < 2 ^ 64
odd-fits {n} {r} e fits =
    let square : r * r ≤ n = rw e (root-square n).not_above in
    let small : r < 2 ^ 31 = lt_of_not-le (λ more. omega (arith, mul-le-mul more more)) in
    omega (arith, mul-le-mul_right r (le_of_lt small))

-- n / d < k² exactly where n + 1 ≤ k² d
ceiling-is : (n d : ℕ) → 0 < d → CeilingRoot (record { upper = n; lower = d }) (ceiling_root_of n d)
ceiling-is zero d positive = record { not_below = zero-le; smallest = λ k covers. zero-le }
ceiling-is (suc n) d positive =
    let is = root-square (n / d) in
    record {
      not_below = (div-lt_iff_lt-mul positive).0 is.above;
      smallest = λ k covers. root_below k is ((div-lt_iff_lt-mul positive).1 covers);
    }

-- the same of the fraction
pub ceiling-root : (g : Fraction) → 0 < g.lower → CeilingRoot g (ceiling_root g)
ceiling-root g = ceiling-is g.upper g.lower

-- With n above 0, n - 1 is the number before it.
pub ceiling-suc : (n d : ℕ) {r : ℕ} → r ≡ root ((n - 1) / d) → 0 < n → r + 1 ≡ ceiling_root_of n d
ceiling-suc zero d is above = omega arith
ceiling-suc (suc n) d is above = let before : suc n - 1 ≡ n = omega arith in rw (is, before) (omega arith)

-- neither number is above the other
pub ceiling-unique : {g : Fraction} {m k : ℕ} → CeilingRoot g m → CeilingRoot g k → m ≡ k
ceiling-unique {m = m} {k} one other =
    le_antisymm (one.smallest k other.not_below) (other.smallest m one.not_below)

-- n ≤ n² d
pub ceiling-small : {g : Fraction} {m : ℕ} → 0 < g.lower → CeilingRoot g m → m ≤ g.upper
ceiling-small {g} positive is = is.smallest g.upper (covered g.upper)
  where
    covered : (n : ℕ) → n ≤ n * n * g.lower
    covered zero = zero-le
    covered (suc n) =
        le_trans (le-mul_of_pos_right (suc n) (omega arith)) (le-mul_of_pos_right (suc n * suc n) positive)

-- m is below the smallest, so its square is below the fraction
pub ceiling-before : {g : Fraction} {m : ℕ} → CeilingRoot g (suc m) → m * m * g.lower < g.upper
ceiling-before {m = m} is = lt_of_not-le (λ covers. lt_irrefl m (is.smallest m covers))

-- n ≤ 0² d says that n is 0
pub ceiling-zero-iff : {g : Fraction} {m : ℕ} → CeilingRoot g m → (m ≡ 0) ↔ (g.upper ≡ 0)
ceiling-zero-iff {g} {m} is = (
  λ none. le_antisymm (rw (none, zero-mul) at is.not_below) zero-le,
  λ none. le_antisymm (is.smallest 0 (rw none zero-le)) zero-le,
)

-- h is not above k², so g is not
pub ceiling-mono : {g h : Fraction} {m k : ℕ} → 0 < h.lower → NotGreater g h
    → CeilingRoot g m → CeilingRoot h k → m ≤ k
ceiling-mono {g} {h} {m} {k} positive most one other =
    let square : Fraction = record { upper = k * k; lower = 1 } in
    let covered : NotGreater g square = not_greater-trans g h square positive most (rw mul-one other.not_below) in
    one.smallest k (rw mul-one at covered)

-- neither fraction is greater
pub ceiling-same : {g h : Fraction} {m k : ℕ} → 0 < g.lower → 0 < h.lower → SameValue g h
    → CeilingRoot g m → CeilingRoot h k → m ≡ k
ceiling-same g-positive h-positive same one other =
    le_antisymm (ceiling-mono h-positive (le_of_eq same) one other)
    (ceiling-mono g-positive (le_of_eq (sym same)) other one)

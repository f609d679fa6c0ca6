-- Laws of the order of fractions, and of the parts that decide it, over plain natural numbers.
--     Means o x y            what the answer o says of x and y
--     order-iff              `order x y` is Less exactly when x < y, Equal exactly when x ≡ y, Greater exactly when
--                            y < x;
--                            its two halves are order-means and order-unique
--     order-by-parts         two numbers' high parts and then their low parts, of 32 bits, decide as the numbers do
--     product-parts          the parts of a product, from those of its first factor
use mathlib.Core.Path.{◌≡◌, refl, sym, subst}
use mathlib.Core.Logic.{◌↔◌}
use Prim.Native.Nat.{ℕ, ◌+◌, ◌-◌, ◌*◌, ◌/◌, ◌%◌, ◌^◌, ◌<◌}
use native.Mathlib.Nat.{add-mul, div-add-mod'}
use native.Mathlib.Omega.{arith}
use Rattle.std.proofs.lemmas.Bool.Decides.{nat_tests}
use Rattle.std.specs.Cmp.{nat_cmp_is}
use Rattle.std.specs.Ordering.{MatchOrdering, ordering_then}
use Rattle.std.specs.declared.cmp.Ordering.{Ordering}
use Rattle.std.specs.declared.cmp.Ordering.TheVariants.{Less, Equal, Greater}
use Rattle.integers.specs.code.Fraction.{order}

-- Worked examples: two numbers; a third and two sixths; two fractions whose cross products exceed 64 bits.
example-greater : order 5 3 ≡ Greater
example-greater = refl

example-equal : order (1 * 6) (2 * 3) ≡ Equal
example-equal = refl

example-large : order ((2 ^ 63 - 2) * (2 ^ 32 - 1)) ((2 ^ 63 - 1) * (2 ^ 32 - 1)) ≡ Less
example-large = refl

abbrev pub Means : Ordering → ℕ → ℕ → Type 0
Means o x y = MatchOrdering o (x < y) (x ≡ y) (y < x)

pub order-unique : (o : Ordering) (x y : ℕ) → Means o x y → order x y ≡ o
order-unique o x y h = sym (nat_cmp_is x y o h)

pub order-means : (x y : ℕ) → Means (order x y) x y
order-means x y = grind (arith, nat_tests)

pub order-iff : (o : Ordering) (x y : ℕ) → (order x y ≡ o) ↔ Means o x y
order-iff o x y = (λ e. subst (λ (p : Ordering). Means p x y) e (order-means x y), order-unique o x y)

-- A cross product may need 96 bits. In two parts it can be compared by them: high parts that differ decide, and where
-- they are equal only the low parts are left to compare.
pub order-by-parts : (m n : ℕ) → order m n ≡ ordering_then (order (m / 2 ^ 32) (n / 2 ^ 32)) (order (m % 2 ^ 32) (n % 2 ^ 32))
order-by-parts m n = grind (arith, nat_tests)

-- x * y is the high part's share times 2^32 and the low part's share, whose own high part is carried.
pub product-parts :
    (x y : ℕ) →
    (x / 2 ^ 32 * y + x % 2 ^ 32 * y / 2 ^ 32 ≡ x * y / 2 ^ 32) × (x % 2 ^ 32 * y % 2 ^ 32 ≡ x * y % 2 ^ 32)
product-parts x y =
    let shares : x * y ≡ x / 2 ^ 32 * 2 ^ 32 * y + x % 2 ^ 32 * y = rw (← add-mul, div-add-mod' x (2 ^ 32)) in
    (omega arith, omega arith)

-- Newton's iteration for the root of n: from a guess r, at least the root, to (r + n / r) / 2.
--     Guess          what holds of every guess
--     guess-first    the power of two that the code starts at is a guess
--     guess-next     so is the next one after a guess that is above n / r
--     guess-root     a guess that is not above n / r is the root
use Prim.Native.Nat.{ℕ, zero, suc, ◌+◌, ◌*◌, ◌/◌, ◌%◌, ◌^◌, ◌<◌, ◌≤◌}
use native.Mathlib.Nat.{div-mul-le_self, le_dest, le_of_lt, le_trans, lt-div-mul-add, lt_of_lt_of_le, lt_of_not-le}
use native.Mathlib.Nat.{mul-le-mul_right, one-mul, pow-succ'}
use native.Mathlib.Decide.{dec_le}
use native.Mathlib.Omega.{arith}
use mathlib.Core.Path.{◌≡◌}
use lib.Dec.{lit<}
use lib.Pow.{pow-add, pow_mono, pow_pos, shl_exact}
use Rattle.integers.specs.code.Root.{root}
use Rattle.integers.proofs.RootLaws.{root-square, root-unique}

-- r is above 0, at least the root of n, and no more than 2³²
pub record Guess (n r : ℕ) : Type 0 where
  pub positive : 0 < r
  pub above : n < suc r * suc r
  pub small : r ≤ 2 ^ 32

-- With 2^k ≤ n < 2^(k + 1) the square of 2^(k / 2 + 1) is above n.
pub guess-first : {n k : ℕ} → n < 2 * 2 ^ k → k < 64 → Guess n ((1 * 2 ^ (k / 2 + 1)) % 2 ^ 64)
guess-first {n} {k} above small =
    let s : ℕ = k / 2 + 1 in
    let low : s ≤ 32 = omega arith in
    let enough : suc k ≤ s + s = omega arith in
    let square : n < 2 ^ s * 2 ^ s = rw (← pow-add 2 s s) (lt_of_lt_of_le (rw (pow-succ' 2 k) above) (pow_mono enough)) in
    rw (shl_exact {a = 1} 1 s 64 (lit< tt) (omega arith), one-mul)
    (record { positive = pow_pos s; above = omega arith; small = pow_mono low })

-- 2ab ≤ a² + b²
twice-product : (a b : ℕ) → a * b + a * b ≤ a * a + b * b
twice-product a b = go (dec_le a b)
  where
    apart : (a d : ℕ) → a * (a + d) + a * (a + d) ≤ a * a + (a + d) * (a + d)
    apart a d = omega arith

    ordered : {a b : ℕ} → a ≤ b → a * b + a * b ≤ a * a + b * b
    ordered {a} le = rw (← (le_dest le).1) (apart a (le_dest le).0)

    go : Dec (a ≤ b) → a * b + a * b ≤ a * a + b * b
    go (yes le) = ordered le
    go (no more) = omega (arith, ordered (le_of_lt (lt_of_not-le more)))

-- With q = n / r and m one more than the next guess, n < (q + 1) r and r + q + 1 ≤ 2m, so that
-- r² + n < (r + q + 1) r ≤ 2mr ≤ m² + r².
next-above : (n r q m : ℕ) → n < q * r + r → suc (r + q) ≤ m + m → n < m * m
next-above n r q m below half = omega (arith, mul-le-mul_right r half, twice-product m r)

-- the next guess is above 0 where n is
pub guess-next : {n r q : ℕ} → 0 < n → Guess n r → q ≡ n / r → q < r → Guess n ((r + q) / 2)
guess-next {n} {r} {q} some guess quotient less =
    let next : ℕ = (r + q) / 2 in
    let below : n < q * r + r = rw quotient (lt-div-mul-add guess.positive) in
    let above : n < suc next * suc next = next-above n r q (suc next) below (omega arith) in
    record { positive = positive next above; above = above; small = omega (arith, guess.small) }
  where
    positive : (k : ℕ) → n < suc k * suc k → 0 < k
    positive zero above = omega arith
    positive (suc k) above = omega arith

-- r² ≤ (n / r) r ≤ n
pub guess-root : {n r q : ℕ} → Guess n r → q ≡ n / r → r ≤ q → r ≡ root n
guess-root {n} {r} guess quotient least =
    root-unique
    (record {
      not_above = le_trans (mul-le-mul_right r least) (rw quotient (div-mul-le_self n r));
      above = guess.above;
    })
    (root-square n)

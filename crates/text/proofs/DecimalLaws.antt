-- Laws of decimal text.
--     digits-short                   no more digits than asked for
--     decimal-small, decimal-more    one digit; more digits are those of a tenth and one after them
--     decimal-zero, decimal-some     0 is one zero; no text is empty
--     decimal-digits, first-no-minus    every byte is a digit, so none is a minus
--     decimal-value                  the digits have the number's value
--     decimal-length                 a number below 10 ^ k has at most k digits
--     decimal-first                  a number above 0 begins with a digit above 0
--     IsDecimal                      digits, and no zero leads where there is more than one digit
--     decimal-is, decimal-unique     `decimal` is the text of this kind with the number's value
--     signed_below, signed_above     a number below 0 is a minus and its size; another is its size
--     minus-first                    a minus stands exactly before the numbers below 0, so not before 0
use Prim.Native.Nat.{ℕ, zero, suc, ◌+◌, ◌-◌, ◌/◌, ◌%◌, ◌^◌, ◌≤◌, ◌<◌}
use mathlib.Core.Bool.{Bool, true, false, cond}
use mathlib.Core.Logic.{◌↔◌, ◌≢◌}
use mathlib.Core.Path.{◌≡◌, refl, sym, ap}
use mathlib.Core.List.{List, [], ◌∷◌, ◌++◌, append_assoc, append-nil}
use native.Mathlib.Nat.{add-zero, pow-zero, pow-suc}
use native.Mathlib.Omega.{arith}
use borrow.Author.Tests.{lt-ltb, le-ltb, le-leb, ltb-true, ltb-false}
use lib.Dec.{ltb, ltb→lt}
use lib.IntN.{ℤ, pos, negsuc, nat_abs}
use lib.Signed.{◌<ℤ◌, ◌≤ℤ◌}
use lib.ListN.{length, get_or, length-append}
use Rattle.text.specs.Ascii.{ascii}
use Rattle.text.specs.Decimal.{digits, decimal, signed_decimal}
use Rattle.text.specs.Number.{is_digit, all_digits, with_digit, value_from, value}
use Rattle.text.proofs.NumberLaws.{digit-bounds, all-digits-cons, first-digit, all-digits-append, value-snoc}

-- the last digit as a list
abbrev last : ℕ → List ℕ
last n = (48 + n % 10) ∷ []

-- induction on the digits: what holds of none, of one, and of one more after those of a tenth, holds of all
digits-induction : (P : ℕ → ℕ → List ℕ → Type 0)
    → ((n : ℕ) → P 0 n [])
    → ((k n : ℕ) → n < 10 → P (suc k) n (last n))
    → ((k n : ℕ) (w : List ℕ) → 10 ≤ n → P k (n / 10) w → P (suc k) n (w ++ last n))
    → (k n : ℕ) → P k n (digits k n)
unfolding digits
digits-induction P none one more zero n = none n
digits-induction P none one more (suc k) n = by-test (ltb n 10) refl (digits-induction P none one more k (n / 10))
  where
    by-test : (t : Bool) → ltb n 10 ≡ t → P k (n / 10) (digits k (n / 10)) → P (suc k) n (cond t [] (digits k (n / 10)) ++ last n)
    by-test true small onward = one k n (ltb-true n 10 small)
    by-test false large onward = more k n (digits k (n / 10)) (ltb-false n 10 large) onward

module _ (most n : ℕ) where
  digits-small : n < 10 → digits (suc most) n ≡ last n
  unfolding digits
  digits-small small = rw (lt-ltb n 10 small)

  digits_more : 10 ≤ n → digits (suc most) n ≡ digits most (n / 10) ++ last n
  unfolding digits
  digits_more large = rw (le-ltb n 10 large)

-- a tenth of a number has one digit less
tenth-below : (n k : ℕ) → n < 10 ^ suc k → n / 10 < 10 ^ k
tenth-below n k below = omega (arith, pow-suc 10 k)

-- a number of two digits has more than one
more-digits : (n k : ℕ) → 10 ≤ n → n < 10 ^ suc k → 0 < k
more-digits n zero large below = absurd (omega (arith, pow-suc 10 0))
more-digits n (suc k) large below = omega arith

-- as many digits as the number has are enough
digits-enough : (k n : ℕ) → 0 < k → n < 10 ^ k → digits k n ≡ digits (suc k) n
digits-enough = digits-induction (λ (k n : ℕ) (w : List ℕ). 0 < k → n < 10 ^ k → w ≡ digits (suc k) n)
    (λ n some. absurd (omega arith))
    (λ k n small some below. sym (digits-small (suc k) n small))
    (λ k n w large front some below. rw (digits_more (suc k) n large, front (more-digits n k large below) (tenth-below n k below)))

pub decimal-small : (n : ℕ) → n < 10 → decimal n ≡ (48 + n % 10) ∷ []
decimal-small n small = digits-small 19 n small

pub decimal-more : (n : ℕ) → n < 10 ^ 20 → 10 ≤ n → decimal n ≡ decimal (n / 10) ++ ((48 + n % 10) ∷ [])
decimal-more n below large = rw (digits_more 19 n large, digits-enough 19 (n / 10) (omega arith) (tenth-below n 19 below))

pub digits-short : (most n : ℕ) → length (digits most n) ≤ most
digits-short = digits-induction (λ (k n : ℕ) (w : List ℕ). length w ≤ k)
    (λ n. omega arith)
    (λ k n small. omega arith)
    (λ k n w large shorter. omega (arith, length-append w (last n)))

pub decimal-zero : decimal 0 ≡ ascii "0"
decimal-zero = decimal-small 0 (omega arith)

pub decimal-some : (n : ℕ) → 0 < length (decimal n)
unfolding digits
decimal-some n = omega (arith, length-append (cond (ltb n 10) [] (digits 19 (n / 10))) (last n))

pub decimal-digits : (n : ℕ) → all_digits (decimal n) ≡ true
unfolding all_digits
decimal-digits = digits-induction (λ (k n : ℕ) (w : List ℕ). all_digits w ≡ true)
    (λ n. refl)
    (λ k n small. last-digit n)
    (λ k n w large all. rw (all-digits-append w (last n), all) (last-digit n))
    20
  where
    last-digit : (n : ℕ) → all_digits (last n) ≡ true
    last-digit n = rw (le-leb 48 (48 + n % 10) (omega arith), le-leb (48 + n % 10) 57 (omega arith))

pub first-no-minus : (n : ℕ) → get_or (decimal n) 0 0 ≢ 45
first-no-minus n minus = omega (arith, digit-bounds (get_or (decimal n) 0 0) (first-digit (decimal n) (decimal-some n) (decimal-digits n)))

pub decimal-value : (n : ℕ) → n < 10 ^ 20 → value (decimal n) ≡ n
unfolding value_from
decimal-value = digits-induction (λ (k n : ℕ) (w : List ℕ). n < 10 ^ k → value w ≡ n)
    (λ n below. omega (arith, pow-zero 10))
    (λ k n small below. omega arith)
    (λ k n w large front below. rw (value-snoc w (48 + n % 10), front (tenth-below n k below)) (omega arith))
    20

pub decimal-length : (n k : ℕ) → n < 10 ^ suc k → length (decimal n) ≤ suc k
decimal-length = digits-induction (λ (most n : ℕ) (w : List ℕ). (k : ℕ) → n < 10 ^ suc k → length w ≤ suc k)
    (λ n k below. omega arith)
    (λ most n small k below. omega arith)
    (λ most. by_length)
    20
  where
    by_length : (n : ℕ) (w : List ℕ) → 10 ≤ n → ((k : ℕ) → n / 10 < 10 ^ suc k → length w ≤ suc k)
        → (k : ℕ) → n < 10 ^ suc k → length (w ++ last n) ≤ suc k
    by_length n w large front zero below = absurd (omega (arith, pow-suc 10 0))
    by_length n w large front (suc k) below = omega (arith, front k (tenth-below n (suc k) below), length-append w (last n))

-- the first digit of a tenth is that of the number
first-stays : (v w : List ℕ) → 0 < get_or v 0 0 → get_or (v ++ w) 0 0 ≡ get_or v 0 0
first-stays [] w some = absurd (omega arith)
first-stays (b ∷ v) w some = refl

pub decimal-first : (n : ℕ) → n < 10 ^ 20 → 0 < n → 48 < get_or (decimal n) 0 0
decimal-first = digits-induction (λ (k n : ℕ) (w : List ℕ). n < 10 ^ k → 0 < n → 48 < get_or w 0 0)
    (λ n below some. absurd (omega (arith, pow-zero 10)))
    (λ k n small below some. omega arith)
    (λ k n w large front below some. let first = front (tenth-below n k below) (omega arith) in rw (first-stays w (last n) (omega arith)) first)
    20

pub record IsDecimal (w : List ℕ) : Type 0 where
  pub some : 0 < length w
  pub all : all_digits w ≡ true
  pub leading : 1 < length w → 48 < get_or w 0 0

pub decimal-is : (n : ℕ) → n < 10 ^ 20 → IsDecimal (decimal n)
decimal-is n below = record { some = decimal-some n; all = decimal-digits n; leading = by_number n below }
  where
    by_number : (n : ℕ) → n < 10 ^ 20 → 1 < length (decimal n) → 48 < get_or (decimal n) 0 0
    by_number zero below more = absurd (omega (arith, ap length decimal-zero))
    by_number (suc n) below more = decimal-first (suc n) below (omega arith)

-- one digit more after a number above 0
digits-with : (k n b : ℕ) → 0 < n → is_digit b ≡ true → digits (suc k) (with_digit n b) ≡ digits k n ++ (b ∷ [])
digits-with k n b some digit =
    let (low, high) = digit-bounds b digit in
    let front : with_digit n b / 10 ≡ n = omega arith in
    let digit-is : 48 + with_digit n b % 10 ≡ b = omega arith in
    rw (digits_more k (with_digit n b) (omega arith), front, digit-is)

-- digits after a number above 0
digits_from : (k n : ℕ) (w : List ℕ) → 0 < n → all_digits w ≡ true → digits (k + length w) (value_from n w) ≡ digits k n ++ w
unfolding value_from
digits_from k n [] some all = rw (add-zero, append-nil)
digits_from k n (b ∷ w) some all =
    let (digit, rest) = all-digits-cons b w all in
    let more : k + suc (length w) ≡ suc k + length w = omega arith in
    rw (more, digits_from (suc k) (with_digit n b) w (omega arith) rest, digits-with k n b some digit, append_assoc)

-- one digit alone
digits-one : (k b : ℕ) → is_digit b ≡ true → digits (suc k) (with_digit 0 b) ≡ b ∷ []
digits-one k b digit =
    let (low, high) = digit-bounds b digit in
    let same : 48 + with_digit 0 b % 10 ≡ b = omega arith in
    rw (digits-small k (with_digit 0 b) (omega arith), same)

-- the digits of the value of a decimal text are that text
digits-unique : (w : List ℕ) → IsDecimal w → (k : ℕ) → length w ≤ k → digits k (value w) ≡ w
unfolding value_from
digits-unique [] is k short = absurd (omega (arith, is.some))
digits-unique (b ∷ []) is k short =
    let least : k ≡ suc (k - 1) = omega arith in
    rw least (digits-one (k - 1) b (all-digits-cons b [] is.all).0)
digits-unique (b ∷ c ∷ w) is k short =
    let (digit, rest) = all-digits-cons b (c ∷ w) is.all in
    let least : k ≡ suc (k - suc (length (c ∷ w))) + length (c ∷ w) = omega arith in
    rw (
      least,
      digits_from (suc (k - suc (length (c ∷ w)))) (with_digit 0 b) (c ∷ w) (omega (arith, is.leading (omega arith))) rest,
      digits-one (k - suc (length (c ∷ w))) b digit,
    )

pub decimal-unique : (w : List ℕ) → IsDecimal w → length w ≤ 20 → decimal (value w) ≡ w
decimal-unique w is short = digits-unique w is 20 short

pub signed_below : (z : ℤ) → z <ℤ pos 0 → signed_decimal z ≡ ascii "-" ++ decimal (nat_abs z)
signed_below (pos n) below = absurd (omega (arith, ltb→lt n 0 below.lt))
signed_below (negsuc n) below = refl

pub signed_above : (z : ℤ) → pos 0 ≤ℤ z → signed_decimal z ≡ decimal (nat_abs z)
signed_above (pos n) above = refl
signed_above (negsuc n) above = absurd above.le

pub minus-first : (z : ℤ) → (get_or (signed_decimal z) 0 0 ≡ 45) ↔ (z <ℤ pos 0)
minus-first (pos n) = (λ minus. absurd (first-no-minus n minus), λ below. absurd (omega (arith, ltb→lt n 0 below.lt)))
minus-first (negsuc n) = (λ minus. record { lt = tt }, λ below. refl)

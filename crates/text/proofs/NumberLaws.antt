-- Laws of the numbers of a text.
--     digit-bounds         a digit is one of the bytes 48 to 57
--     all-digits-cons, first-digit    all are digits: the first is one, and so are the others
--     all-digits-next, value-next    the digits from a place on, by the first of them
--     all-digits-append, value-append, value-snoc    digits after others; one digit after others is one digit more
--     with-digit-below     a number below 10 ^ k with one digit more is below 10 ^ (k + 1)
--     value-below          k digits have a value below 10 ^ k
--     natural-empty, natural-long    no byte, and more than five, give no number
--     natural-is, natural-short      what one to five bytes give, by whether all are digits; it is short
--     number-unsigned      a word that does not begin with a minus gives what its digits give
use Prim.Native.Nat.{ℕ, suc, ◌+◌, ◌^◌, ◌≤◌, ◌<◌}
use mathlib.Core.Bool.{Bool, true, false, cond, ◌&&◌, and_assoc}
use mathlib.Core.Path.{◌≡◌, refl, sym}
use mathlib.Core.List.{List, [], ◌∷◌, ◌++◌}
use mathlib.Core.Logic.Iff
use native.Mathlib.Nat.{add-zero, pow-suc, pow-le-pow_right}
use native.Mathlib.Numerals.{add-one}
use native.Mathlib.Omega.{arith}
use borrow.Author.Tests.{le-leb, lt-leb, lt-ltb, leb-true}
use lib.Dec.{leb, ltb, eqb}
use lib.IntN.{pos}
use lib.ListN.{length, get_or, drop}
use lib.Seq.{drop-cons}
use Rattle.integers.proofs.Reflect.{test-and, test-leb}
use Rattle.std.specs.Prelude.{Some, None}
use Rattle.text.specs.Number.{is_digit, all_digits, with_digit, value_from, value, natural, number}
use Rattle.text.specs.code.Number.{IsShort}

pub digit-bounds : (b : ℕ) → is_digit b ≡ true → (48 ≤ b) × (b ≤ 57)
digit-bounds b = (test-and _ _ (test-leb 48 b) (test-leb b 57)).0

pub all-digits-cons : (b : ℕ) (w : List ℕ) → all_digits (b ∷ w) ≡ true → (is_digit b ≡ true) × (all_digits w ≡ true)
unfolding all_digits
all-digits-cons b w = (test-and _ _ Iff.rfl Iff.rfl).0

pub first-digit : (w : List ℕ) → 0 < length w → all_digits w ≡ true → is_digit (get_or w 0 0) ≡ true
first-digit [] some all = absurd (omega arith)
first-digit (b ∷ w) some all = (all-digits-cons b w all).0

pub all-digits-next : (w : List ℕ) (i : ℕ) → i < length w → all_digits (drop i w) ≡ (is_digit (get_or w i 0) && all_digits (drop (i + 1) w))
unfolding all_digits
all-digits-next w i below = rw (add-one, drop-cons w i 0)

pub value-next : (n : ℕ) (w : List ℕ) (i : ℕ) → i < length w
    → value_from n (drop i w) ≡ value_from (with_digit n (get_or w i 0)) (drop (i + 1) w)
unfolding value_from
value-next n w i below = rw (add-one, drop-cons w i 0)

pub all-digits-append : (v w : List ℕ) → all_digits (v ++ w) ≡ (all_digits v && all_digits w)
unfolding all_digits
all-digits-append [] w = refl
all-digits-append (b ∷ v) w = rw (all-digits-append v w) (sym (and_assoc (is_digit b) (all_digits v) (all_digits w)))

pub value-append : (n : ℕ) (v w : List ℕ) → value_from n (v ++ w) ≡ value_from (value_from n v) w
unfolding value_from
value-append n [] w = refl
value-append n (b ∷ v) w = value-append (with_digit n b) v w

pub value-snoc : (w : List ℕ) (b : ℕ) → value (w ++ (b ∷ [])) ≡ with_digit (value w) b
unfolding value_from
value-snoc w b = value-append 0 w (b ∷ [])

pub with-digit-below : (n b k : ℕ) → n < 10 ^ k → is_digit b ≡ true → with_digit n b < 10 ^ suc k
with-digit-below n b k below digit = omega (arith, pow-suc 10 k, digit-bounds b digit)

pub value-below : (w : List ℕ) (n k : ℕ) → n < 10 ^ k → all_digits w ≡ true → value_from n w < 10 ^ (k + length w)
unfolding value_from
value-below [] n k below all = rw add-zero below
value-below (b ∷ w) n k below all =
    let (digit, rest) = all-digits-cons b w all in
    let more : k + suc (length w) ≡ suc k + length w = omega arith in
    rw more (value-below w (with_digit n b) (suc k) (with-digit-below n b k below digit) rest)

module _ (w : List ℕ) where
  pub natural-empty : length w ≡ 0 → natural w ≡ None
  unfolding natural
  natural-empty none = rw none

  pub natural-long : 5 < length w → natural w ≡ None
  unfolding natural
  natural-long long = rw (lt-ltb 0 (length w) (omega arith), lt-leb (length w) 5 long)

  pub natural-is : 0 < length w → length w ≤ 5 → natural w ≡ cond (all_digits w) (Some (pos (value w))) None
  unfolding natural
  natural-is some short = rw (lt-ltb 0 (length w) some, le-leb (length w) 5 short)

-- the value of at most five digits is below 10 ^ 5
pub natural-short : (w : List ℕ) → IsShort (natural w)
unfolding natural
natural-short w = by_length (ltb 0 (length w)) (leb (length w) 5) (all_digits w) refl refl
  where
    by_length : (some short all : Bool) → leb (length w) 5 ≡ short → all_digits w ≡ all
        → IsShort (cond (some && short && all) (Some (pos (value w))) None)
    by_length false short all shorter digits = tt
    by_length true false all shorter digits = tt
    by_length true true false shorter digits = tt
    by_length true true true shorter digits =
        let least : 0 + length w ≤ 5 = omega (arith, leb-true (length w) 5 shorter) in
        let most : 10 ^ (0 + length w) ≤ 10 ^ 5 = pow-le-pow_right (omega arith) least in
        record { size = omega (arith, value-below w 0 0 (omega arith) digits) }

pub number-unsigned : (w : List ℕ) → eqb (get_or w 0 0) 45 ≡ false → number w ≡ natural w
unfolding natural number
number-unsigned [] other = refl
number-unsigned (b ∷ w) other = rw other

-- Laws of reading outlines from a text.
--     numbers-next, numbers-stop    so many numbers, by what the first word gives
--     Read                          the first i of n numbers are read to a list: what is given is decided by the
--                                   words that are left
--     one-read, all_read, not-read    how reading goes on and ends
--     outline-stop, outline-negative, outline-many, outline-counted    an outline, by what the first word gives
--     too-many-refused              the list that stands for an outline of too many corners gets 3
use Prim.Native.Nat.{ℕ, suc, ◌+◌, ◌-◌, ◌*◌, ◌≤◌, ◌<◌}
use mathlib.Core.Path.{◌≡◌, refl, ◌∙◌}
use mathlib.Core.List.{List, [], ◌∷◌, ◌++◌, append_assoc, append-nil}
use native.Mathlib.Numerals.{add-one}
use native.Mathlib.Omega.{arith}
use borrow.Author.Tests.{lt-ltb, le-ltb}
use lib.IntN.{ℤ, pos, negsuc, nat_abs}
use lib.ListN.{length, take, drop, set, length-set}
use lib.Seq.{take-suc-set, take_all, length-take-le}
use Rattle.std.specs.Prelude.{Option, Err, Some, None}
use Rattle.outline.specs.declared.Fault.TheVariants as Fault
use Rattle.outline.specs.declared.Side.{Side}
use mir.Syntax.{w32}
use mir.Val.{SFits}
use Rattle.std.specs.Int.{FitsUnsignedBits}
use Rattle.text.specs.Number.{first_number}
use Rattle.text.specs.Words.{words}
use Rattle.outline.specs.declared.Place.TheVariants.{Nowhere}
use Rattle.outline.specs.Corners.{corners, most}
use Rattle.outline.specs.code.Reading.{check}
use Rattle.fit_text.specs.Input.{Given, Numbers, TooMany, Unreadable, put, numbers, outline}
use Rattle.fit_text.specs.Input.{too_many}

numbers-next : (n : ℕ) (ws : List (List ℕ)) {z : ℤ}
    → first_number ws ≡ Some z → numbers (suc n) ws ≡ put z (numbers n (drop 1 ws))
unfolding numbers
numbers-next n ws first = rw first

numbers-stop : (n : ℕ) (ws : List (List ℕ)) → first_number ws ≡ None → numbers (suc n) ws ≡ Unreadable
unfolding numbers
numbers-stop n ws first = rw first

-- numbers that are read already, before what is given
abbrev after : List ℤ → Given → Given
after p (Numbers s ws) = Numbers (p ++ s) ws
after p TooMany = TooMany
after p Unreadable = Unreadable

after-put : (p : List ℤ) (z : ℤ) (g : Given) → after p (put z g) ≡ after (p ++ (z ∷ [])) g
after-put p z (Numbers s ws) = rw append_assoc
after-put p z TooMany = refl
after-put p z Unreadable = refl

pub record Read (s : List ℕ) (from n : ℕ) (out : List ℤ) (next i : ℕ) : Type 0 where
  pub most : i ≤ n
  pub long : length out ≡ n
  pub gives : numbers n (words (drop from s)) ≡ after (take i out) (numbers (n - i) (words (drop next s)))

module _ {s : List ℕ} {from n : ℕ} {out : List ℤ} {next i : ℕ} (r : Read s from n out next i) where
  left : i < n → n - i ≡ suc (n - (i + 1))
  left below = omega arith

  pub one-read : i < n → {z : ℤ} (past : ℕ) → first_number (words (drop next s)) ≡ Some z
      → words (drop past s) ≡ drop 1 (words (drop next s)) → Read s from n (set out i z) past (i + 1)
  one-read below {z} past first rest = record {
    most = omega arith;
    long = length-set out i z ∙ r.long;
    gives =
        let here : i < length out = omega (arith, r.long) in
        let taken : take (i + 1) (set out i z) ≡ take i out ++ (z ∷ []) = rw add-one (take-suc-set out i z here) in
        rw (r.gives, left below, numbers-next (n - (i + 1)) (words (drop next s)) first, taken, rest)
        (after-put (take i out) z (numbers (n - (i + 1)) (drop 1 (words (drop next s)))));
  }

  pub not-read : i < n → first_number (words (drop next s)) ≡ None → Unreadable ≡ numbers n (words (drop from s))
  not-read below first = rw (r.gives, left below, numbers-stop (n - (i + 1)) (words (drop next s)) first)

  pub all_read : n ≤ i → Numbers out (words (drop next s)) ≡ numbers n (words (drop from s))
  unfolding numbers
  all_read past =
      let same : i ≡ n = omega (arith, r.most) in
      let none : n - n ≡ 0 = omega arith in
      rw (r.gives, same, none, append-nil, take_all n out (omega (arith, r.long)))

module _ (ws : List (List ℕ)) where
  pub outline-stop : first_number ws ≡ None → Unreadable ≡ outline ws
  unfolding outline
  outline-stop first = rw first

  -- the count is negative, above 256, or neither
  pub outline-negative : (z : ℤ) → first_number ws ≡ Some z → SFits w32 z → ¬ FitsUnsignedBits 64 z
      → Unreadable ≡ outline ws
  unfolding outline
  outline-negative (pos n) first fits negative = absurd (negative (omega (arith, fits.sfits)))
  outline-negative (negsuc n) first fits negative = rw first

  pub outline-many : (z : ℤ) (n : ℕ) → first_number ws ≡ Some z → FitsUnsignedBits 64 z × (n ≡ nat_abs z) → most < n
      → TooMany ≡ outline ws
  unfolding outline
  outline-many (pos m) n first (small, is) above = rw (first, lt-ltb most m (omega (arith, is)))
  outline-many (negsuc m) n first (none, is) above = absurd none

  pub outline-counted : (z : ℤ) (n : ℕ) → first_number ws ≡ Some z → FitsUnsignedBits 64 z × (n ≡ nat_abs z) → n ≤ most
      → (out : List ℤ) → 2 * most ≤ length out → (g : Given) → g ≡ numbers (length (take (2 * n) out)) (drop 1 ws)
      → g ≡ outline ws
  unfolding outline
  outline-counted (pos m) n first (small, is) below out room g read =
      rw (first, le-ltb most m (omega (arith, is)), read, length-take-le (2 * n) out (omega arith), is)
  outline-counted (negsuc m) n first (none, is) below out room g read = absurd none

too-many-corners : length (corners too_many) ≡ 257
unfolding corners
too-many-corners = refl

pub too-many-refused : (whose : Option Side)
    → check whose too_many ≡ Err (record { fault = Fault.TooMany; side = whose; place = Nowhere })
unfolding check
too-many-refused whose = rw too-many-corners

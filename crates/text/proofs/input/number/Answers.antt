-- `text::input::number` goes by the first byte: a minus, or the first of the digits. Five digits fit with a minus too.
use Rattle.std.proofs.Common.{ℕ, ℤ, pos, ◌+◌, ◌-ℤ◌, Bool, true, false, Some, None, List, [], ◌∷◌, take, drop, eqb}
use Rattle.std.proofs.Common.{◌≡◌, refl, sym, ◌∙◌, arith, w32}
use lib.IntN.{+ℤ_idl}
use mathlib.Core.Bool.{false≢true, and-true}
use Rattle.std.specs.Cmp.Lexicographic.{pointwise}
use Rattle.integers.specs.Size.{AtMost}
use Rattle.integers.proofs.Machine.{Exact, i32, value, stored, minus, fits}
use Rattle.text.specs.Number.{natural, negated, number}
use Rattle.text.proofs.NumberLaws.{natural-short}
use Rattle.text.proofs.input.number.Goals as goal

-- whether a minus stands first
abbrev has_minus : List ℕ → Bool
has_minus w = pointwise eqb (take 1 w) (45 ∷ [])

unsigned : (w : List ℕ) → has_minus w ≡ false → natural w ≡ number w
unfolding number natural
unsigned [] none = refl
unsigned (b ∷ w) none = rw (rw and-true at none)

signed : (w : List ℕ) → has_minus w ≡ true → negated (natural (drop 1 w)) ≡ number w
unfolding number
signed [] is = absurd (false≢true is)
signed (b ∷ w) is = rw (rw and-true at is)

module _ (w : List ℕ) (is : has_minus w ≡ true) {d : List ℕ} (digits : d ≡ drop 1 w) where
  none : None ≡ natural d → None ≡ number w
  none nothing = rw (← signed w is, ← digits, ← nothing)

  module _ (z : ℤ) (some : Some z ≡ natural d) where
    opposite : Exact (0 + 99999) (pos 0 -ℤ z) (pos 0 -ℤ i32 z)
    opposite =
        let nothing : AtMost 0 (pos 0) = record { size = omega arith } in
        let least : AtMost 99999 z = rw (← some) at (natural-short d) in
        minus (value nothing) (stored w32 (value least) tt)

    negative : Some (i32 (pos 0 -ℤ i32 z)) ≡ number w
    negative = rw (← signed w is, ← digits, ← some, (stored w32 opposite tt).exact, +ℤ_idl)

pub returns-in_err-natural-in-Some : goal.returns-in_err-natural-in-Some
returns-in_err-natural-in-Some c =
    let (is, rest, long) = c.in-Some.ensures.cases in
    c.from_residual.ensures ∙ none c.args.w.now is rest (sym c.in_err-natural-in-Some.was ∙ c.natural.ensures)

pub overflow_sub-result : goal.overflow_sub-result
overflow_sub-result c =
    let (is, rest, long) = c.in-Some.ensures.cases in
    fits (opposite c.args.w.now is rest _ (sym c.in_ok-natural-in-Some.was ∙ c.natural.ensures)) tt

pub returns-in_ok-natural-in-Some : goal.returns-in_ok-natural-in-Some
returns-in_ok-natural-in-Some c =
    let (is, rest, long) = c.in-Some.ensures.cases in
    negative c.args.w.now is rest _ (sym c.in_ok-natural-in-Some.was ∙ c.natural.ensures)

pub returns-in-None : goal.returns-in-None
returns-in-None c = c.natural-in-None.ensures ∙ unsigned _ c.in-None.ensures.cases

-- `text::input::next_number` passes over separators and takes the word that stands there, if there is one.
use mathlib.Core.Bool.{true, false}
use mathlib.Core.List.{List, ◌∷◌}
use mathlib.Core.Path.{◌≡◌, refl}
use native.Mathlib.Omega.{arith}
use Prim.Native.Nat.{ℕ, ◌+◌, ◌-◌, ◌≤◌, ◌<◌}
use lib.ListN.{length, take, drop, length-drop, drop_of_length-le}
use Rattle.std.specs.Prelude.{Option, None, ℤ}
use Rattle.text.specs.Number.{number, first_number}
use Rattle.text.specs.Words.{words}
use Rattle.text.specs.code.Words.{run}
use Rattle.text.proofs.WordLaws.{run-≤, words-none, next_word, no_word, past_words}
use Rattle.text.proofs.input.next_number.Goals as goal

module _ (s : List ℕ) (from : ℕ) {start end : ℕ}
    (starts : start ≡ from + run true (drop from s)) (ends : end ≡ start + run false (drop start s)) where
  -- what the first word gives, and the words from the end on
  abbrev Gives : Option ℤ → Type 0
  Gives p = record { number : p ≡ first_number (words (drop from s)); end : words (drop end s) ≡ drop 1 (words (drop from s)) }

  nothing : end ≤ start → Gives None
  nothing short =
      let none : run false (drop start s) ≡ 0 = omega (arith, ends) in
      let past : length s ≤ start = rw starts (no_word s from (rw starts at none)) in
      let over : length s ≤ end = omega (arith, ends) in
      rw (past_words s from (rw starts at past), drop_of_length-le s over, words-none) (record { number = refl; end = refl })

  within : start < end → end ≤ length s
  within some = omega (arith, ends, run-≤ false (drop start s), length-drop start s)

  word : start < end → words (drop from s) ≡ take (end - start) (drop start s) ∷ words (drop end s)
  word some =
      let long : end - start ≡ run false (drop start s) = omega (arith, ends) in
      let more : 0 < run false (drop start s) = omega (arith, ends) in
      rw (long, ends, starts) (next_word s from (rw starts at more))

  found : start < end → {p : Option ℤ} → p ≡ number (take (end - start) (drop start s)) → Gives p
  found some is = rw (word some) (record { number = is; end = refl })

pub returns-then-start-end : goal.returns-then-start-end
returns-then-start-end c =
    found _ _ c.run_end-start.ensures c.run_end-end.ensures c.if-start-end.true c.number-number.ensures

pub slice_bounds-number-end : goal.slice_bounds-number-end
slice_bounds-number-end c = within _ _ c.run_end-start.ensures c.run_end-end.ensures c.if-start-end.true

pub returns-else-start-end : goal.returns-else-start-end
returns-else-start-end c = nothing _ _ c.run_end-start.ensures c.run_end-end.ensures c.if-start-end.false

-- `text::input::natural` goes over the bytes, digit by digit.
use Rattle.std.proofs.Common.{ℕ, ◌≤◌, ◌<◌, ◌^◌, ◌≡◌, cond, List, length, drop, pos, Some, None}
use Rattle.text.specs.Number.{all_digits, value_from, natural}
use Rattle.text.proofs.input.natural.Given as goal

-- The first i bytes of w are digits with the value v: what the word gives is decided by the others.
pub record Passed (w : List ℕ) (v i : ℕ) : Type 0 where
  pub some : 0 < length w
  pub short : length w ≤ 5
  pub below : v < 10 ^ i
  pub gives : natural w ≡ cond (all_digits (drop i w)) (Some (pos (value_from v (drop i w)))) None

abbrev pub invariant-loop-b : goal.invariant-loop-b
invariant-loop-b l = Passed l.w l.value l.b-index

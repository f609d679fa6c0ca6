-- `text::input::natural` goes over the bytes, digit by digit.
use Rattle.std.proofs.Common.{ℕ, ◌+◌, ◌^◌, ◌≤◌, ◌<◌, Bool, true, false, cond, List, length, get_or, pos, Some, None}
use Rattle.std.proofs.Common.{◌≡◌, sym, ◌∙◌, rules, arith, add-one}
use Rattle.std.proofs.Common.{w32, SFits, to_z-of_z, drop_of_length-le, refl}
use native.Mathlib.Nat.{pow-zero, pow-le-pow_right}
use Rattle.text.specs.Number.{is_digit, all_digits, with_digit, value_from, natural}
use Rattle.text.proofs.NumberLaws.{all-digits-next, value-next, with-digit-below, natural-empty, natural-long, natural-is}
use Rattle.text.proofs.input.natural.Invariants.{Passed}
use Rattle.text.proofs.input.natural.Goals as goal
use Rattle.text.proofs.input.natural.Goals.{then-is_empty-via-then-is_empty}
use Rattle.text.proofs.input.natural.Goals.{then-is_empty-via-else-is_empty+then-w-gt-MOST_DIGITS}

no-digit : (t : Bool) (n : ℕ) → None ≡ cond t (Some n) None → t ≡ false
no-digit true n is = search rules
no-digit false n is = refl

one-digit : (t : Bool) (n m : ℕ) → Some m ≡ cond t (Some n) None → (t ≡ true) × (m ≡ n)
one-digit true n m is = (refl, search rules)
one-digit false n m is = search rules

module _ {w : List ℕ} {v i : ℕ} (p : Passed w v i) where
  digits-below : (k : ℕ) → i ≤ k → v < 10 ^ k
  digits-below k most = omega (arith, p.below, pow-le-pow_right {n = 10} (omega arith) most)

  five-fit : i ≤ length w → SFits w32 (pos v)
  five-fit most = record { sfits = omega (arith, digits-below 5 (omega (arith, p.short))) }

  all-passed : length w ≤ i → Some (pos v) ≡ natural w
  unfolding all_digits value_from
  all-passed past = rw (p.gives, drop_of_length-le w past)

  module _ (below : i < length w) where
    stops : None ≡ cond (is_digit (get_or w i 0)) (Some (with_digit v (get_or w i 0))) None → None ≡ natural w
    stops is = rw (p.gives, all-digits-next w i below, no-digit _ _ is)

    goes_on : (m : ℕ) → Some m ≡ cond (is_digit (get_or w i 0)) (Some (with_digit v (get_or w i 0))) None
        → Passed w m (i + 1)
    goes_on m is =
        let (digit, next) = one-digit _ _ _ is in
        rw next (record {
          some = p.some;
          short = p.short;
          below = rw add-one (with-digit-below v (get_or w i 0) i p.below digit);
          gives = rw (p.gives, all-digits-next w i below, digit, value-next v w i below);
        })

pub returns-then-is_empty : goal.returns-then-is_empty
returns-then-is_empty c =
    elim c.then-is_empty.branch [
      | then-is_empty-via-then-is_empty w ↦ sym (natural-empty _ (search rules))
      | then-is_empty-via-else-is_empty+then-w-gt-MOST_DIGITS w ↦ sym (natural-long _ w.if-w-gt-MOST_DIGITS.true)
    ]

pub loop-b-init : goal.loop-b-init
loop-b-init c =
    let some : 0 < length c.args.w.now = search rules in
    let short = c.if-w-gt-MOST_DIGITS.false in
    record { some = some; short = short; below = omega (arith, pow-zero 10); gives = natural-is _ some short }

pub with_digit-requires : goal.with_digit-requires
with_digit-requires c = digits-below c.loop-b.invariant 4 (omega (arith, c.loop-b.invariant.short))

pub returns-in_err-value : goal.returns-in_err-value
returns-in_err-value c = c.from_residual.ensures ∙ stops c.loop-b.invariant c.loop-b-test.true c.in_err-value.ensures

pub loop-b-preserved : goal.loop-b-preserved
loop-b-preserved c = goes_on c.loop-b.invariant c.loop-b-test.true _ c.in_ok-value.ensures

pub overflow_cast-result : goal.overflow_cast-result
overflow_cast-result c = five-fit c.loop-b.invariant c.loop-b.auto.b-index-end

pub returns : goal.returns
returns c =
    rw (to_z-of_z (five-fit c.loop-b.invariant c.loop-b.auto.b-index-end))
    (all-passed c.loop-b.invariant (omega arith))

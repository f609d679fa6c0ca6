-- `editing::removal::check_removal` checks the list and then makes the three tests in order.
use borrow.Author.Tests.{le-leb, lt-leb, eq-eqb, ne_eqb}
use mathlib.Core.Logic.{◌≢◌}
use mathlib.Core.Path.{◌≡◌, sym, ◌∙◌}
use mathlib.Core.List.{List}
use native.Mathlib.Omega.{arith}
use Prim.Native.Nat.{ℕ, ◌*◌, ◌-◌, ◌≤◌, ◌<◌}
use lib.IntN.{ℤ}
use lib.ListN.{length}
use Rattle.std.specs.Prelude.{None, Ok, Err}
use Rattle.outline.specs.declared.Place.TheVariants.{Nowhere}
use Rattle.outline.specs.declared.Refusal.{Refusal}
use Rattle.outline.specs.code.Checks.{Verdict, first}
use Rattle.outline.specs.Corners.{corners}
use Rattle.outline.specs.code.Reading.{checks, check}
use Rattle.outline.specs.Refusal.{refusal}
use Rattle.outline.proofs.CornersLaws.{corners-fit}
use Rattle.outline.proofs.ChecksLaws.{append-stops, append-goes-on}
use Rattle.edit.specs.Edit.{wrong_length}
use Rattle.edit.specs.Removal.{without, smallest, no_such_corner, just_three}
use Rattle.edit.specs.code.Removal.{own_checks, check_removal}
use Rattle.edit.proofs.Without.{numbers-without}
use Rattle.std.proofs.Common.{rules}
use Rattle.editing.proofs.removal.check_removal.Goals as goal

module _ (s : List ℤ) (k room : ℕ) where
  abbrev n : ℕ
  n = length (corners s)

  abbrev rest : Verdict
  rest = first (own_checks (corners s) k room)

  unread : {r : Refusal} → check None s ≡ Err r → Err r ≡ check_removal s k room
  unfolding check_removal check
  unread refuses = sym (append-stops (checks None s) (own_checks (corners s) k room) refuses)

  -- the three tests, of a list that is taken
  module _ (taken : check None s ≡ Ok tt) where
    by-rest : {v : Verdict} → rest ≡ v → v ≡ check_removal s k room
    unfolding check_removal check
    by-rest is = sym (append-goes-on (checks None s) (own_checks (corners s) k room) taken ∙ is)

    unknown : n ≤ k → Err (refusal (no_such_corner (corners s) k) Nowhere) ≡ check_removal s k room
    unknown past = by-rest (rw (le-leb n k past))

    module _ (known : k < n) where
      just-three : n ≡ smallest → Err (refusal (just_three (corners s)) Nowhere) ≡ check_removal s k room
      just-three three = by-rest (rw (lt-leb n k known, eq-eqb n smallest three))

      module _ (more : n ≢ smallest) where
        wrong-length : room ≢ 2 * (n - 1)
            → Err (refusal (wrong_length (without k (corners s)) room) Nowhere) ≡ check_removal s k room
        wrong-length other =
            by-rest (rw (
              lt-leb n k known,
              ne_eqb n smallest more,
              numbers-without k (corners s) known,
              ne_eqb room (2 * (n - 1)) other,
            ))

        nothing : room ≡ 2 * (n - 1) → Ok tt ≡ check_removal s k room
        nothing same =
            by-rest (rw (
              lt-leb n k known,
              ne_eqb n smallest more,
              numbers-without k (corners s) known,
              eq-eqb room (2 * (n - 1)) same,
            ))

pub returns-in_err-check : goal.returns-in_err-check
returns-in_err-check c = search (rules, unread)

pub returns-then-n-k : goal.returns-then-n-k
returns-then-n-k c =
    let taken = sym c.check.ensures
    ∙ c.in_ok-check.was in
    c.refuse.ensures ∙ unknown _ _ _ taken (omega arith)

pub returns-then-n-eq-SMALLEST : goal.returns-then-n-eq-SMALLEST
returns-then-n-eq-SMALLEST c =
    let taken = sym c.check.ensures
    ∙ c.in_ok-check.was in
    c.refuse-then-n-eq-SMALLEST.ensures ∙ just-three _ _ _ taken (omega arith) (omega arith)

pub overflow_mul-n : goal.overflow_mul-n
overflow_mul-n c = omega (arith, corners-fit c.args.s.now)

pub returns-then-room-n : goal.returns-then-room-n
returns-then-room-n c =
    let taken = sym c.check.ensures
    ∙ c.in_ok-check.was in
    c.refuse-then-room-n.ensures ∙ wrong-length _ _ _ taken (omega arith) (omega arith) (omega arith)

pub returns : goal.returns
returns c =
    let taken = sym c.check.ensures
    ∙ c.in_ok-check.was in
    nothing _ _ _ taken (omega arith) (omega arith) (omega arith)

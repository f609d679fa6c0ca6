-- Checks made in order, of which the first that refuses stands.
--     taken≢refused, not-refused, refused-inj    a verdict is to take or to refuse, with one refusal
--     or_else-taken, or_else-refused               of two checks: both take; the first refuses, or it takes and the
--                                                second does
--     refuse_if-taken, refuse_if-refused           of a check that a test makes, by the test's meaning
--     priority, each-taken, each-refused         `each` takes exactly where all do, and refuses so where the first does
-- For code that makes them; the rules of a set are found by `search`:
--     Scanning, scan-start, scanning             the invariant of a loop that makes them in order, and its steps
--     Testing, test-start, testing               the same where each check is made by a test
--     first_stops, first-goes-on, first-last     a list of checks, one after the other
--     first-append, append-stops, append-goes-on    two lists
use Prim.Native.Nat.{ℕ, ◌+◌, ◌<◌, ◌≤◌}
use mathlib.Core.Path.{◌≡◌, refl, sym, ap, ◌∙◌}
use mathlib.Core.Logic.Iff
use mathlib.Core.Logic.{◌↔◌, ◌≢◌, ◌⊎◌, inl, inr, ⊎_elim}
use mathlib.Core.Bool.{Bool, true, false, true≢false, false≢true}
use mathlib.Core.List.{List, [], ◌∷◌, ◌++◌}
use native.Mathlib.Numerals.{add-one}
use native.Mathlib.Omega.{arith}
use Rattle.std.specs.Prelude.{Result, Ok, Err}
use Rattle.integers.proofs.Reflect.{test-false}
use Rattle.lists.specs.Fold.{fold}
use Rattle.lists.proofs.FirstLaws.{Priority, NoneBelow, First, fold-none, fold-first}
use Rattle.outline.specs.declared.Refusal.{Refusal}
use Rattle.outline.specs.code.Checks.{Verdict, refuse_if, ◌or_else◌, first, each, answer_if}

pub taken≢refused : {v : Verdict} {r : Refusal} → v ≡ Ok tt → v ≡ Err r → ⊥
taken≢refused p q = let z : ◌≡◌ {A = ℕ} 0 1 = cc in omega arith

pub not-refused : (v : Verdict) → ((r : Refusal) → ¬ (v ≡ Err r)) → v ≡ Ok tt
not-refused (Ok _) none = refl
not-refused (Err r) none = absurd (none r refl)

pub refused-inj : {v : Verdict} {r q : Refusal} → v ≡ Err r → v ≡ Err q → r ≡ q
refused-inj p q = cc

-- an answer and a refusal are two things
ok≢err : {A : Type 0} {a : A} {r : Refusal} → ◌≡◌ {A = Result A Refusal} (Ok a) (Err r) → ⊥
ok≢err e = let z : ◌≡◌ {A = ℕ} 0 1 = cc in omega arith

-- a check's verdict with an answer
module _ {A : Type 0} where
  pub answer-taken : (v : Verdict) (a : A) → (answer_if v a ≡ Ok a) ↔ (v ≡ Ok tt)
  answer-taken (Ok _) a = (λ _. refl, λ _. refl)
  answer-taken (Err r) a = (λ e. absurd (ok≢err (sym e)), λ e. absurd (taken≢refused e refl))

  pub answer-refused : (v : Verdict) (a : A) (r : Refusal) → (answer_if v a ≡ Err r) ↔ (v ≡ Err r)
  answer-refused (Ok _) a r = (λ e. absurd (ok≢err e), λ e. absurd (taken≢refused refl e))
  answer-refused (Err q) a r = (
    λ e. (let same : q ≡ r = cc in rw same refl),
    λ e. (let same : q ≡ r = cc in rw same refl),
  )

  pub answer-ok : (v : Verdict) {a b : A} → answer_if v a ≡ Ok b → (b ≡ a) × (v ≡ Ok tt)
  answer-ok (Ok _) {a} {b} e = (let same : b ≡ a = cc in same, refl)
  answer-ok (Err r) e = absurd (ok≢err (sym e))

pub or_else-taken : (v w : Verdict) → (v or_else w ≡ Ok tt) ↔ ((v ≡ Ok tt) × (w ≡ Ok tt))
or_else-taken (Ok _) w = (λ e. (refl, e), λ both. both.1)
or_else-taken (Err r) w = (λ e. absurd (taken≢refused e refl), λ both. both.0)

pub or_else-refused : (v w : Verdict) (r : Refusal)
    → (v or_else w ≡ Err r) ↔ ((v ≡ Err r) ⊎ ((v ≡ Ok tt) × (w ≡ Err r)))
or_else-refused (Ok _) w r = (λ e. inr (refl, e), λ h. ⊎_elim (λ e. absurd (taken≢refused refl e)) (λ both. both.1) h)
or_else-refused (Err q) w r = (λ e. inl e, λ h. ⊎_elim (λ e. e) (λ both. absurd (taken≢refused both.0 refl)) h)

module _ {P : Type 0} where
  pub refuse_if-taken : (b : Bool) → ((b ≡ true) ↔ P) → (r : Refusal) → (refuse_if b r ≡ Ok tt) ↔ (¬ P)
  refuse_if-taken b means r = Iff.trans (taken_false b) (test-false b means)
    where
      taken_false : (b : Bool) → (refuse_if b r ≡ Ok tt) ↔ (b ≡ false)
      taken_false true = (λ e. absurd (taken≢refused e refl), λ e. absurd (true≢false e))
      taken_false false = (λ _. refl, λ _. refl)

  pub refuse_if-refused : (b : Bool) → ((b ≡ true) ↔ P) → (r q : Refusal) → (refuse_if b r ≡ Err q) ↔ ((r ≡ q) × P)
  refuse_if-refused true means r q = (λ e. (refused-inj refl e, means.0 refl), λ both. ap Err both.0)
  refuse_if-refused false means r q =
      (λ e. absurd (taken≢refused refl e), λ both. absurd (false≢true (means.1 both.1)))

pub priority : Priority ◌or_else◌ (Ok tt)
priority = record { decide = decide; stops = stops; goes_on = λ w. refl }
  where
    decide : (v : Verdict) → (v ≡ Ok tt) ⊎ (v ≢ (Ok tt))
    decide (Ok _) = inl refl
    decide (Err r) = inr (λ e. taken≢refused e refl)

    stops : (v w : Verdict) → v ≢ (Ok tt) → v or_else w ≡ v
    stops (Ok _) w some = absurd (some refl)
    stops (Err r) w some = refl

module _ (check : ℕ → Verdict) (n : ℕ) where
  pub each-taken : (each check n ≡ Ok tt) ↔ NoneBelow (Ok tt) check n
  each-taken = fold-none priority check n

  pub each-refused : (r : Refusal) → (each check n ≡ Err r) ↔ First (Ok tt) check n (Err r)
  each-refused r = fold-first priority check n (Err r) (λ e. taken≢refused e refl)

-- a loop that makes the checks of which `whole` is the first that refuses: those before i take
pub record Scanning (check : ℕ → Verdict) (whole : Verdict) (n i : ℕ) : Type 0 where
  pub is : whole ≡ each check n
  pub turn : i ≤ n
  pub taken : each check i ≡ Ok tt

pub scan-start : {check : ℕ → Verdict} {whole : Verdict} {n : ℕ} (m : ℕ) → n ≡ m → whole ≡ each check m
    → Scanning check whole n 0
unfolding fold
scan-start m all is = record { is = rw all is; turn = omega arith; taken = refl }

module _ {check : ℕ → Verdict} {whole : Verdict} {n i : ℕ} (scan : Scanning check whole n i) where
  pub scan-on : {v : Verdict} → v ≡ check i → v ≡ Ok tt → i < n → Scanning check whole n (i + 1)
  unfolding fold
  scan-on is takes below = record {
    is = scan.is;
    turn = omega arith;
    taken = rw add-one ((or_else-taken _ _).1 (scan.taken, sym is ∙ takes));
  }

  pub scan-found : {v : Verdict} {r : Refusal} → v ≡ check i → v ≡ Err r → i < n → Err r ≡ whole
  scan-found {r} is refuses below = sym (scan.is ∙ (each-refused check n r).1 (record {
    place = i;
    below = below;
    here = sym is ∙ refuses;
    earlier = (each-taken check i).0 scan.taken;
  }))

  pub scan-none : n ≤ i → Ok tt ≡ whole
  scan-none past = let all : n ≡ i = omega arith in sym (scan.is ∙ rw all scan.taken)

pub ruleset scanning = (scan-on, scan-found, scan-none)

-- the same for checks that a test makes
abbrev pub tested : (ℕ → Bool) → (ℕ → Refusal) → ℕ → Verdict
tested test refusal i = refuse_if (test i) (refusal i)

pub record Testing (test : ℕ → Bool) (refusal : ℕ → Refusal) (whole : Verdict) (n i : ℕ) : Type 0 where
  pub scan : Scanning (tested test refusal) whole n i

pub test-start : {test : ℕ → Bool} {refusal : ℕ → Refusal} {whole : Verdict} {n : ℕ} (m : ℕ) → n ≡ m
    → whole ≡ each (tested test refusal) m → Testing test refusal whole n 0
test-start m all is = record { scan = scan-start m all is }

module _ {test : ℕ → Bool} {refusal : ℕ → Refusal} {whole : Verdict} {n i : ℕ}
    (testing : Testing test refusal whole n i) where
  by-test : {b : Bool} → test i ≡ b → refuse_if b (refusal i) ≡ tested test refusal i
  by-test is = ap (λ (b : Bool). refuse_if b (refusal i)) (sym is)

  pub test_on : {b : Bool} → b ≡ test i → b ≡ false → i < n → Testing test refusal whole n (i + 1)
  test_on is fails below = record { scan = scan-on testing.scan (by-test (sym is ∙ fails)) refl below }

  pub test-found : {b : Bool} {v : Verdict} → b ≡ test i → b ≡ true → i < n → v ≡ Err (refusal i) → v ≡ whole
  test-found is holds below refuses = refuses ∙ scan-found testing.scan (by-test (sym is ∙ holds)) refl below

  pub test-none : n ≤ i → Ok tt ≡ whole
  test-none = scan-none testing.scan

pub ruleset testing = (test_on, test-found, test-none)

-- two checks, of which the first refuses, or takes
pub or_else-stops : {v : Verdict} {r : Refusal} (w : Verdict) → v ≡ Err r → v or_else w ≡ Err r
or_else-stops w refuses = ap (λ (u : Verdict). u or_else w) refuses

pub or_else-goes-on : {v w u : Verdict} → v ≡ Ok tt → w ≡ u → v or_else w ≡ u
or_else-goes-on {w} takes rest = ap (λ (x : Verdict). x or_else w) takes ∙ rest

first_one : (v : Verdict) → first (v ∷ []) ≡ v
first_one (Ok _) = refl
first_one (Err r) = refl

-- of a list whose first check answers u
pub first_stops : {u : Verdict} {r : Refusal} (v w : Verdict) → u ≡ v → u ≡ Err r → Err r ≡ v or_else w
first_stops v w is refuses = sym (or_else-stops w (sym is ∙ refuses))

pub first-goes-on : {u x : Verdict} (v w : Verdict) → u ≡ v → u ≡ Ok tt → x ≡ w → x ≡ v or_else w
first-goes-on v w is takes rest = sym (or_else-goes-on (sym is ∙ takes) (sym rest))

pub first-last : {u : Verdict} (v : Verdict) → u ≡ v → u ≡ v or_else Ok tt
first-last v is = is ∙ sym (first_one v)

pub first-append : (vs ws : List Verdict) → first (vs ++ ws) ≡ first vs or_else first ws
first-append [] ws = refl
first-append (v ∷ vs) ws = ap (λ (x : Verdict). v or_else x) (first-append vs ws) ∙ or_else-assoc v (first vs) (first ws)
  where
    or_else-assoc : (u v w : Verdict) → u or_else (v or_else w) ≡ (u or_else v) or_else w
    or_else-assoc (Ok _) v w = refl
    or_else-assoc (Err r) v w = refl

-- two lists of checks, of which the first refuses, or takes
module _ (vs ws : List Verdict) where
  pub append-stops : {r : Refusal} → first vs ≡ Err r → first (vs ++ ws) ≡ Err r
  append-stops refuses = first-append vs ws ∙ or_else-stops (first ws) refuses

  pub append-goes-on : first vs ≡ Ok tt → first (vs ++ ws) ≡ first ws
  append-goes-on takes = first-append vs ws ∙ or_else-goes-on takes refl

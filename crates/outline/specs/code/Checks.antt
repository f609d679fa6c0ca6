-- Checks made in order, of which the first that refuses stands.
use Rattle.std.specs.Prelude.{ℕ, Bool, true, false, List, [], ◌∷◌, Result, Ok, Err, ⊤}
use Rattle.lists.specs.Fold.{fold}
use Rattle.outline.specs.declared.Refusal.{Refusal}

-- what a check gives: nothing, or a refusal
abbrev pub Verdict : Type 0
Verdict = Result ⊤ Refusal

-- a check that refuses where a test holds
abbrev pub refuse_if : Bool → Refusal → Verdict
refuse_if true r = Err r
refuse_if false r = Ok tt

infixl 30 ◌or_else◌
-- the first check's verdict, or the second's where the first takes
abbrev pub ◌or_else◌ : Verdict → Verdict → Verdict
Ok _ or_else w = w
Err r or_else w = Err r

-- the first verdict of a list that refuses, or Ok
abbrev pub first : List Verdict → Verdict
first [] = Ok tt
first (v ∷ vs) = v or_else first vs

-- the same for the checks at 0, 1, .. below n
abbrev pub each : (ℕ → Verdict) → ℕ → Verdict
each check n = fold ◌or_else◌ (Ok tt) check n

-- an answer where a check takes, else its refusal
abbrev pub answer_if : {A : Type 0} → Verdict → A → Result A Refusal
answer_if (Ok _) a = Ok a
answer_if (Err r) a = Err r

-- one value where a check takes, another where it refuses
abbrev pub if_taken : {A : Type 0} → Verdict → A → A → A
if_taken (Ok _) a b = a
if_taken (Err r) a b = b

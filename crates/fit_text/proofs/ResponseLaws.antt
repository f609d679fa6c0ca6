-- Laws of what the program writes.
--     response-laid-down    every response is one of the texts of rule 8.10: 512 steps are always enough
--     response-start        one byte above the limit tells all that the program needs of a longer input
--     response-fits         every response fits a text
use Prim.Native.Nat.{ℕ, suc, ◌≤◌}
use mathlib.Core.Path.{◌≡◌, refl}
use mathlib.Core.Bool.{Bool, true, false, cond}
use mathlib.Core.List.{List, [], ◌∷◌}
use native.Mathlib.Omega.{arith}
use lib.Dec.{ltb}
use lib.IntN.{ℤ}
use lib.ListN.{length, take}
use lib.Seq.{take_all, length-take-le}
use borrow.Author.Tests.{lt-ltb, ltb-true, ltb-false}
use Rattle.std.specs.Prelude.{Result, Ok, Err}
use Rattle.hausdorff.specs.declared.Report.{Report}
use Rattle.outline.specs.declared.Refusal.{Refusal}
use Rattle.text.specs.Output.{room}
use Rattle.text.specs.Words.{words}
use Rattle.hausdorff.specs.declared.Spent.{Spent}
use Rattle.hausdorff.specs.declared.Report.TheVariants as Report
use Rattle.hausdorff.specs.code.Call.{comparison}
use Rattle.hausdorff.proofs.CallLaws.{is-comparison, reported-means, spent-report-below}
use Rattle.fit_lines.specs.Lines.{comparison_text}
use Rattle.fit_lines.proofs.LengthLaws.{refusal-line-fits, done-fits}
use Rattle.std.specs.Prelude.{None}
use Rattle.fit_text.specs.Input.{Given, Numbers, TooMany, Unreadable}
use Rattle.fit_text.specs.Input.{outline, allowance, too_many, with_b, with_a, outcome}
use Rattle.fit_text.specs.Response.{outcome_text, most_bytes, response, LaidDown, unreadable, refused, done}

-- an accepted pair has at most 512 edges, so the law of comparing says that it is done
never-spent : (s t : List ℤ) (p : Spent) → ¬ (comparison s t allowance ≡ Ok (Report.Spent p))
never-spent s t p is =
    let reports = rw is at (is-comparison s t allowance) in
    let tells = reported-means s t allowance (Report.Spent p) reports in
    omega (arith, spent-report-below s t allowance p reports, tells.accepted_a.at_most, tells.accepted_b.at_most)

-- what a comparison that is not spent writes
comparison-laid-down : (c : Result Report Refusal) → ((p : Spent) → ¬ (c ≡ Ok (Report.Spent p)))
    → LaidDown (comparison_text c)
comparison-laid-down (Err r) not-spent = refused r refl
comparison-laid-down (Ok (Report.Spent p)) not-spent = absurd (not-spent p refl)
comparison-laid-down (Ok (Report.Done d)) not-spent = done d refl

b-laid-down : (s : List ℤ) (g : Given) → LaidDown (outcome_text (with_b s g))
b-laid-down s (Numbers t []) = comparison-laid-down (comparison s t allowance) (never-spent s t)
b-laid-down s (Numbers t (w ∷ ws)) = unreadable refl
b-laid-down s TooMany = comparison-laid-down (comparison s too_many allowance) (never-spent s too_many)
b-laid-down s Unreadable = unreadable refl

a-laid-down : (g : Given) → LaidDown (outcome_text (with_a g))
a-laid-down (Numbers s ws) = b-laid-down s (outline ws)
a-laid-down TooMany = comparison-laid-down (comparison too_many [] allowance) (never-spent too_many [])
a-laid-down Unreadable = unreadable refl

pub response-laid-down : (s : List ℕ) → LaidDown (response s)
response-laid-down s = by_length (ltb most_bytes (length s))
  where
    by_length : (t : Bool) → LaidDown (outcome_text (cond t None (outcome s)))
    by_length true = unreadable refl
    by_length false = a-laid-down (outline (words s))

-- the program need not read more than one byte above the limit
pub response-start : (s : List ℕ) → response (take (suc most_bytes) s) ≡ response s
response-start s = by_length (ltb most_bytes (length s)) refl
  where
    by_length : (t : Bool) → ltb most_bytes (length s) ≡ t → response (take (suc most_bytes) s) ≡ response s
    by_length true long =
        let more = ltb-true most_bytes (length s) long in
        let cut : ltb most_bytes (length (take (suc most_bytes) s)) ≡ true =
        rw (length-take-le (suc most_bytes) s more) (lt-ltb most_bytes (suc most_bytes) (omega arith)) in
        rw (cut, long)
    by_length false short = rw (take_all (suc most_bytes) s (omega (arith, ltb-false most_bytes (length s) short)))

pub response-fits : (s : List ℕ) → length (response s) ≤ room
response-fits s = by-text (response-laid-down s)
  where
    by-text : {t : List ℕ} → LaidDown t → length t ≤ room
    by-text (unreadable is) = rw is (omega arith)
    by-text (refused r is) = rw is (refusal-line-fits r)
    by-text (done d is) = rw is (done-fits d)

-- What stands in a result list after numbers are written to it from a place on.
--     written          the places before the numbers' end have what stood before them, and the numbers
--     written-to-end   so the whole list, if they end where it ends
--     begun            the numbers at the beginning, and then what stood after them
--     report-written   the three parts of a report, one after the other, are its numbers
use Prim.Native.Nat.{ℕ, ◌+◌, ◌≤◌}
use mathlib.Core.Path.{◌≡◌, refl, ◌∙◌}
use mathlib.Core.List.{List, ◌++◌, append-nil}
use native.Mathlib.Nat.{le_refl, zero-add}
use native.Mathlib.Omega.{arith}
use lib.IntN.{ℤ}
use lib.ListN.{length, take, drop, length-append}
use lib.Seq.{paste, take-paste, length-paste, take-length, drop-length}
use Rattle.std.specs.Prelude.{Option, None, Some}
use Rattle.outline.specs.declared.Side.{Side}
use Rattle.outline.specs.declared.Side.TheVariants.{A, B}
use Rattle.hausdorff.specs.declared.CornerGap.{CornerGap}
use Rattle.hausdorff.specs.declared.Report.{Report}
use Rattle.encoding.specs.Results.{of_worst, of_overall, reported_of, of_side, of_report}
use Rattle.ravinebowl.specs.Calls.{compare_length}

module _ (l s : List ℤ) (n : ℕ) where
  pub written : (k : ℕ) → n ≤ length l → n + length s ≡ k → take k (paste l n s (length s)) ≡ take n l ++ s
  written k room ends = rw (← ends, take-paste l n s (length s) room (le_refl (length s)), take-length s)

  pub written-to-end : n + length s ≡ length l → paste l n s (length s) ≡ take n l ++ s
  written-to-end ends = rw (ends, drop-length l, take-length s, append-nil)

-- the numbers at the beginning
pub begun : (l s : List ℤ) {n : ℕ} → length s ≡ n → s ++ drop n l ≡ paste l 0 s (length s)
begun l s long = rw (← long, zero-add (length s), take-length s) refl

-- three parts, one after the other, up to places n and k and to the end
parts-written : (o a b l : List ℤ) (n k : ℕ) {l₁ l₂ l₃ : List ℤ}
    → length o ≡ n → n + length a ≡ k → k + length b ≡ length l
    → l₁ ≡ paste l 0 o (length o) → l₂ ≡ paste l₁ n a (length a) → l₃ ≡ paste l₂ k b (length b) → l₃ ≡ o ++ a ++ b
parts-written o a b l n k {l₁} {l₂} to-n to-k to_end first second third =
    let long₁ : length l₁ ≡ length l = rw first (length-paste l 0 o (length o) (omega arith) (le_refl (length o))) in
    let long₂ : length l₂ ≡ length l₁ = rw second (length-paste l₁ n a (length a) (omega arith) (le_refl (length a))) in
    let up-to-n : take n l₁ ≡ o = rw first (written l o 0 n (omega arith) (omega arith)) in
    let up-to-k : take k l₂ ≡ take n l₁ ++ a = rw second (written l₁ a n k (omega arith) to-k) in
    third ∙ written-to-end l₂ b k (omega arith) ∙ rw (up-to-k, up-to-n)

-- a corner with its gap, or none, is nine numbers
worst-length : (x : Option CornerGap) → length (of_worst x) ≡ 9
worst-length None = refl
worst-length (Some w) = refl

pub side-length : (s : Side) (r : Report) → length (of_side s r) ≡ 9
side-length s r = worst-length (reported_of s r)

-- and of both outlines together fourteen
pub overall-length : (r : Report) → length (of_overall r) ≡ 14
overall-length (Report.Spent p) = simp length-append (omega (arith, worst-length p.worst))
overall-length (Report.Done d) = refl

pub report-written : (r : Report) (l : List ℤ) {l₁ l₂ l₃ : List ℤ} → length l ≡ compare_length
    → l₁ ≡ paste l 0 (of_overall r) (length (of_overall r))
    → l₂ ≡ paste l₁ 14 (of_side A r) (length (of_side A r))
    → l₃ ≡ paste l₂ 23 (of_side B r) (length (of_side B r))
    → l₃ ≡ of_report r
report-written r l long =
    let of_a = side-length A r in let of_b = side-length B r in
    parts-written (of_overall r) (of_side A r) (of_side B r) l 14 23
    (overall-length r) (omega arith) (omega arith)

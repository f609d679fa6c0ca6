-- A list with zeros after it.
--     filled-length, filled_at    how long it is, and what is found there
--     filled-whole                without zeros it is the list itself
use Prim.Native.Nat.{ℕ, ◌+◌, ◌-◌, ◌≤◌, ◌<◌}
use native.Mathlib.Decide.{dec_lt}
use native.Mathlib.Omega.{arith}
use mathlib.Core.Path.{◌≡◌, sym, ap, ◌∙◌}
use mathlib.Core.List.{List, append-nil}
use lib.IntN.{ℤ, pos}
use lib.ListN.{length, get_or, replicate, length-append, length-replicate, get_or-replicate, get_or-append, get_or-eq_default}
use lib.Seq.{get_or-append-add}
use Rattle.hull.specs.Call.{filled_up}

module _ (n : ℕ) (zs : List ℤ) where
  pub filled-length : length zs ≤ n → length (filled_up n zs) ≡ n
  filled-length fits = simp (length-append, length-replicate) (omega arith)

  -- zeros are what is found past the end
  pub filled_at : (i : ℕ) → i < n → get_or (filled_up n zs) i (pos 0) ≡ get_or zs i (pos 0)
  filled_at i below = elim (dec_lt i (length zs)) [
    | yes within ↦ get_or-append zs (replicate (n - length zs) (pos 0)) (pos 0) i within
    | no past ↦ let at : length zs + (i - length zs) ≡ i = omega arith in
        ap (λ j. get_or (filled_up n zs) j (pos 0)) (sym at)
        ∙ get_or-append-add zs (replicate (n - length zs) (pos 0)) (i - length zs) (pos 0)
        ∙ get_or-replicate (n - length zs) (i - length zs) (pos 0) (pos 0) (omega arith)
        ∙ sym (get_or-eq_default zs (pos 0) (omega arith))
  ]

pub filled-whole : (n : ℕ) (zs : List ℤ) → length zs ≡ n → filled_up n zs ≡ zs
filled-whole n zs long = let none : n - length zs ≡ 0 = omega arith in rw (none, append-nil)

-- Copying a list over the first places of another, one value after the other.
--     copied          the list d with the first n values of s over its first n
--     copied-suc      one value more
--     copied-length, copied_all    it is as long as d; after the last value it is s
use Prim.Native.Nat.{ℕ, suc, ◌≤◌, ◌<◌}
use mathlib.Core.Path.{◌≡◌}
use mathlib.Core.List.{List, ◌++◌, append-nil}
use native.Mathlib.Nat.{zero-add}
use native.Mathlib.Omega.{arith}
use lib.ListN.{length, take, drop, set, get_or, length-append, length-take, length-drop}
use lib.Seq.{paste-suc, take-length, drop-length}

module _ {X : Type 0} (d s : List X) where
  abbrev pub copied : ℕ → List X
  copied n = take n s ++ drop n d

  pub copied-suc : (z : X) (n : ℕ) → n < length d → n < length s → set (copied n) n (get_or s n z) ≡ copied (suc n)
  copied-suc z n room below = simp zero-add at (paste-suc d 0 s n z (omega arith) below)

  pub copied-length : (n : ℕ) → length d ≡ length s → n ≤ length s → length (copied n) ≡ length d
  copied-length n long most = simp (length-append, length-take, length-drop) (omega arith)

  pub copied_all : (n : ℕ) → length d ≡ length s → n ≡ length s → copied n ≡ s
  copied_all n long all = rw (all, take-length, ← long, drop-length, append-nil)

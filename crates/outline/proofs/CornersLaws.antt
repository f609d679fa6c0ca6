-- The corners of a list of numbers, and the numbers of the following corner and of the one before.
--     next-suc, next_last            the corner after i is i + 1, and after the last it is corner 0
--     next-below, previous-below     it is a corner of the outline, and so is the one before
--     before-below, after-below      the same of numbers that are equal to them
--     next-other, next-next-other    it is another corner, and the one after it is a third
--     next-previous, previous-next   after the corner before i comes i, and before the one after it
--     next-not-previous              the corner before is not the one after
--     length-corners                 two numbers to a corner
--     corners-fit                    all corners lie in the list
--     corner-at                      corner i is numbers 2 i and 2 i + 1
--     length-coordinates, coordinate-x, coordinate-y    the same for corners written as numbers
--     corners-coordinates            corners written as numbers and read again are the same corners
--     coordinates-corners            and numbers read as corners and written again the same numbers, if their count is even
use Prim.Native.Nat.{ℕ, zero, suc, ◌+◌, ◌-◌, ◌*◌, ◌/◌, ◌%◌, ◌<◌, ◌≤◌}
use mathlib.Core.Path.{◌≡◌, refl, ap}
use mathlib.Core.Logic.{◌≢◌, ◌⊎◌, inl, inr, ⊎_elim}
use mathlib.Core.Bool.{Bool, true, false}
use mathlib.Core.List.{List, [], ◌∷◌}
use native.Mathlib.Omega.{arith}
use borrow.Author.Tests.{lt-ltb, le-ltb, ltb-true, ltb-false}
use lib.Dec.{ltb}
use lib.IntN.{ℤ, pos}
use lib.ListN.{length, get_or}
use Rattle.plane.specs.declared.Corner.{Corner}
use Rattle.plane.specs.Vector.{coordinates}
use Rattle.outline.specs.Corners.{corners, corner, next, previous}

module _ (n i : ℕ) where
  pub next-suc : suc i < n → next n i ≡ suc i
  unfolding next
  next-suc more = rw (lt-ltb (suc i) n more)

  pub next_last : n ≤ suc i → next n i ≡ 0
  unfolding next
  next_last last = rw (le-ltb (suc i) n last)

  next-cases : ((suc i < n) × (next n i ≡ suc i)) ⊎ ((n ≤ suc i) × (next n i ≡ 0))
  next-cases = go (ltb (suc i) n) refl
    where
      go : (t : Bool) → ltb (suc i) n ≡ t → ((suc i < n) × (next n i ≡ suc i)) ⊎ ((n ≤ suc i) × (next n i ≡ 0))
      go true e = let more = ltb-true (suc i) n e in inl (more, next-suc more)
      go false e = let last = ltb-false (suc i) n e in inr (last, next_last last)

  pub next-below : 0 < n → next n i < n
  next-below some = ⊎_elim (λ more. omega arith) (λ last. omega arith) next-cases

  pub next-other : 2 ≤ n → next n i ≢ i
  next-other two = ⊎_elim (λ more. omega arith) (λ last. omega arith) next-cases

pub next-next-other : (n i : ℕ) → 3 ≤ n → next n (next n i) ≢ i
next-next-other n i three = ⊎_elim
    (λ more. ⊎_elim (λ more₂. omega arith) (λ last₂. omega arith) (next-cases n (next n i)))
    (λ last. ⊎_elim (λ more₂. omega arith) (λ last₂. omega arith) (next-cases n (next n i)))
    (next-cases n i)

pub previous-below : (n i : ℕ) → i < n → previous n i < n
previous-below n zero below = omega arith
previous-below n (suc i) below = omega arith

pub before-below : {n i b : ℕ} → b ≡ previous n i → i < n → b < n
before-below {n} {i} is below = rw is (previous-below n i below)

pub after-below : {n i a : ℕ} → a ≡ next n i → i < n → a < n
after-below {n} {i} is below = rw is (next-below n i (omega arith))

pub next-previous : (n i : ℕ) → i < n → next n (previous n i) ≡ i
next-previous n zero below = next_last n (n - 1) (omega arith)
next-previous n (suc i) below = next-suc n i below

pub previous-next : (n i : ℕ) → i < n → previous n (next n i) ≡ i
previous-next n i below = ⊎_elim (λ more. rw more.1) (λ last. rw last.1 (omega arith)) (next-cases n i)

pub next-not-previous : (n i : ℕ) → 3 ≤ n → i < n → next n i ≢ previous n i
next-not-previous n i three below = rw (next-previous n i below) at (next-next-other n (previous n i) three)

pub length-corners : (s : List ℤ) → length (corners s) ≡ length s / 2
unfolding corners
length-corners [] = refl
length-corners (x ∷ []) = refl
length-corners (x ∷ (y ∷ s)) = omega (arith, length-corners s)

pub corners-fit : (s : List ℤ) → 2 * length (corners s) ≤ length s
corners-fit s = omega (arith, length-corners s)

twice-suc : (i : ℕ) → 2 * suc i ≡ suc (suc (2 * i))
twice-suc i = omega arith

twice-suc-one : (i : ℕ) → suc (suc (2 * i)) + 1 ≡ suc (suc (2 * i + 1))
twice-suc-one i = omega arith

pub corner-at : (s : List ℤ) (i : ℕ) → i < length (corners s)
    → corner (corners s) i ≡ record { x = get_or s (2 * i) (pos 0); y = get_or s (2 * i + 1) (pos 0) }
unfolding corners
corner-at [] i below = refl
corner-at (x ∷ []) i below = absurd (omega arith)
corner-at (x ∷ (y ∷ s)) zero below = refl
corner-at (x ∷ (y ∷ s)) (suc i) below = rw (twice-suc i, twice-suc-one i) (corner-at s i (omega arith))

-- a list of corners, written as numbers
pub length-coordinates : (cs : List Corner) → length (coordinates cs) ≡ 2 * length cs
length-coordinates [] = refl
length-coordinates (c ∷ cs) = omega (arith, length-coordinates cs)

pub corners-coordinates : (cs : List Corner) → corners (coordinates cs) ≡ cs
unfolding corners
corners-coordinates [] = refl
corners-coordinates (c ∷ cs) = ap (λ (r : List Corner). c ∷ r) (corners-coordinates cs)

pub coordinates-corners : (s : List ℤ) → length s % 2 ≡ 0 → coordinates (corners s) ≡ s
unfolding corners
coordinates-corners [] even = refl
coordinates-corners (x ∷ []) even = absurd (omega arith)
coordinates-corners (x ∷ (y ∷ s)) even = ap (λ (r : List ℤ). x ∷ y ∷ r) (coordinates-corners s (omega arith))

pub coordinate-x : (cs : List Corner) (i : ℕ) → get_or (coordinates cs) (2 * i) (pos 0) ≡ (corner cs i).x
coordinate-x [] i = refl
coordinate-x (c ∷ cs) zero = refl
coordinate-x (c ∷ cs) (suc i) = rw (twice-suc i) (coordinate-x cs i)

pub coordinate-y : (cs : List Corner) (i : ℕ) → get_or (coordinates cs) (2 * i + 1) (pos 0) ≡ (corner cs i).y
coordinate-y [] i = refl
coordinate-y (c ∷ cs) zero = refl
coordinate-y (c ∷ cs) (suc i) = rw (twice-suc i, twice-suc-one i) (coordinate-y cs i)

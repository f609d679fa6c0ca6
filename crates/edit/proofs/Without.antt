-- The list without corner k.
--     old_number-before, old_number-after  `old_number k i` is i before k, and i + 1 from k on
--     old_number-mono, old_number-≤        it rises with i, and is at most i + 1
--     length_without, numbers-without    one corner fewer, two numbers fewer
--     corner-without                     the i-th of the other corners is corner `old_number k i`
--     without-convex, without-accepted   it is strictly convex as the list is; accepted as the list is, if four
--                                        corners or more
use Prim.Native.Nat.{ℕ, zero, suc, ◌*◌, ◌-◌, ◌≤◌, ◌<◌}
use native.Mathlib.Omega.{arith}
use mathlib.Core.Path.{◌≡◌, refl, ap}
use mathlib.Core.List.{List, [], ◌∷◌}
use lib.ListN.{length, length-append, length-take, length-drop}
use Rattle.plane.specs.declared.Corner.{Corner}
use Rattle.plane.specs.Vector.{coordinates}
use Rattle.outline.specs.Corners.{corner}
use Rattle.outline.specs.Convex.{StrictlyConvex, Accepted}
use Rattle.edit.specs.Removal.{without}
use Rattle.edit.specs.code.Writing.{old_number}
use Rattle.outline.proofs.CornersLaws.{length-coordinates}
use Rattle.outline.proofs.LeftTurns.{convex-part}

pub old_number-before : (k i : ℕ) → i < k → old_number k i ≡ i
old_number-before zero i h = absurd (omega arith)
old_number-before (suc k) zero h = refl
old_number-before (suc k) (suc i) h = ap suc (old_number-before k i (omega arith))

pub old_number-after : (k i : ℕ) → k ≤ i → old_number k i ≡ suc i
old_number-after zero i h = refl
old_number-after (suc k) zero h = absurd (omega arith)
old_number-after (suc k) (suc i) h = ap suc (old_number-after k i (omega arith))

pub old_number-mono : (k i j : ℕ) → i < j → old_number k i < old_number k j
old_number-mono zero i j h = omega arith
old_number-mono (suc k) i zero h = absurd (omega arith)
old_number-mono (suc k) zero (suc j) h = omega arith
old_number-mono (suc k) (suc i) (suc j) h = omega (arith, old_number-mono k i j (omega arith))

pub old_number-≤ : (k i : ℕ) → old_number k i ≤ suc i
old_number-≤ zero i = omega arith
old_number-≤ (suc k) zero = omega arith
old_number-≤ (suc k) (suc i) = omega (arith, old_number-≤ k i)

pub length_without : (k : ℕ) (cs : List Corner) → k < length cs → suc (length (without k cs)) ≡ length cs
unfolding without
length_without k cs h = simp (length-append, length-take, length-drop) (omega arith)

pub numbers-without : (k : ℕ) (cs : List Corner) → k < length cs → length (coordinates (without k cs)) ≡ 2 * (length cs - 1)
numbers-without k cs h = omega (arith, length-coordinates (without k cs), length_without k cs h)

pub corner-without : (k : ℕ) (cs : List Corner) (i : ℕ) → corner (without k cs) i ≡ corner cs (old_number k i)
unfolding without
corner-without zero [] i = refl
corner-without (suc k) [] i = refl
corner-without zero (c ∷ cs) i = refl
corner-without (suc k) (c ∷ cs) zero = refl
corner-without (suc k) (c ∷ cs) (suc i) = corner-without k cs i

pub without-convex : (cs : List Corner) (k : ℕ) → k < length cs → StrictlyConvex cs → StrictlyConvex (without k cs)
without-convex cs k h =
    convex-part cs (without k cs) (old_number k) (old_number-mono k)
    (λ i b. omega (arith, old_number-≤ k i, length_without k cs h)) (corner-without k cs)

pub without-accepted : (cs : List Corner) (k : ℕ) → Accepted cs → 4 ≤ length cs → k < length cs → Accepted (without k cs)
without-accepted cs k a four h =
    let less = length_without k cs h in
    record {
      at_least = omega arith;
      at_most = omega (arith, a.at_most);
      all_in_range = λ i b. rw (corner-without k cs i) (a.all_in_range (old_number k i) (omega (arith, old_number-≤ k i)));
      convex = without-convex cs k h a.convex;
    }

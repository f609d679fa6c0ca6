-- The list with v inserted as corner k.
--     length_inserted, numbers-inserted       one corner more, two numbers more
--     inserted-before, inserted-at, inserted-after    the corners before k stand where they stood, corner k is v, and the
--                                             others are one further on
--     inserted-in-range                       all are in range, if v and the others are
--     without-inserted, inserted-without      removing corner k undoes it, and it undoes removing corner k
use Prim.Native.Nat.{ℕ, zero, suc, ◌+◌, ◌-◌, ◌*◌, ◌≤◌, ◌<◌}
use native.Mathlib.Omega.{arith}
use mathlib.Core.Path.{◌≡◌, refl, ap}
use mathlib.Core.Logic.{◌≢◌}
use mathlib.Core.List.{List, [], ◌∷◌}
use lib.ListN.{length, length-append, length-take, length-drop}
use Rattle.plane.specs.declared.Corner.{Corner}
use Rattle.plane.specs.Range.{InRange}
use Rattle.plane.specs.Vector.{coordinates}
use Rattle.outline.specs.Convex.{AllInRange}
use Rattle.outline.specs.Corners.{corner}
use Rattle.outline.proofs.CornersLaws.{length-coordinates}
use Rattle.edit.specs.Insertion.{inserted}
use Rattle.edit.specs.Removal.{without}

pub length_inserted : (k : ℕ) (v : Corner) (cs : List Corner) → length (inserted k v cs) ≡ suc (length cs)
unfolding inserted
length_inserted k v cs = simp (length-append, length-take, length-drop) (omega arith)

pub numbers-inserted : (k : ℕ) (v : Corner) (cs : List Corner)
    → length (coordinates (inserted k v cs)) ≡ 2 * (length cs + 1)
numbers-inserted k v cs = omega (arith, length-coordinates (inserted k v cs), length_inserted k v cs)

pub inserted-before : (k : ℕ) (v : Corner) (cs : List Corner) (i : ℕ) → k ≤ length cs → i < k
    → corner (inserted k v cs) i ≡ corner cs i
unfolding inserted
inserted-before zero v cs i known before = absurd (omega arith)
inserted-before (suc k) v [] i known before = absurd (omega arith)
inserted-before (suc k) v (c ∷ cs) zero known before = refl
inserted-before (suc k) v (c ∷ cs) (suc i) known before = inserted-before k v cs i (omega arith) (omega arith)

pub inserted-at : (k : ℕ) (v : Corner) (cs : List Corner) → k ≤ length cs → corner (inserted k v cs) k ≡ v
unfolding inserted
inserted-at zero v cs known = refl
inserted-at (suc k) v [] known = absurd (omega arith)
inserted-at (suc k) v (c ∷ cs) known = inserted-at k v cs (omega arith)

inserted-suc : (k : ℕ) (v : Corner) (cs : List Corner) (i : ℕ) → k ≤ length cs → k ≤ i
    → corner (inserted k v cs) (suc i) ≡ corner cs i
unfolding inserted
inserted-suc zero v cs i known after = refl
inserted-suc (suc k) v [] i known after = absurd (omega arith)
inserted-suc (suc k) v (c ∷ cs) zero known after = absurd (omega arith)
inserted-suc (suc k) v (c ∷ cs) (suc i) known after = inserted-suc k v cs i (omega arith) (omega arith)

pub inserted-after : (k : ℕ) (v : Corner) (cs : List Corner) (i : ℕ) → k ≤ length cs → k ≤ i → i ≢ k
    → corner (inserted k v cs) i ≡ corner cs (i - 1)
inserted-after k v cs i known from other =
    let next : suc (i - 1) ≡ i = omega arith in rw next at (inserted-suc k v cs (i - 1) known (omega arith))

pub inserted-in-range : (k : ℕ) (v : Corner) (cs : List Corner) → k ≤ length cs → InRange v → AllInRange cs
    → AllInRange (inserted k v cs)
unfolding inserted
inserted-in-range zero v cs known of-v all zero below = of-v
inserted-in-range zero v cs known of-v all (suc i) below = all i (omega arith)
inserted-in-range (suc k) v [] known of-v all i below = absurd (omega arith)
inserted-in-range (suc k) v (c ∷ cs) known of-v all zero below = all zero (omega arith)
inserted-in-range (suc k) v (c ∷ cs) known of-v all (suc i) below =
    inserted-in-range k v cs (omega arith) of-v (λ j less. all (suc j) (omega arith)) i (omega arith)

pub without-inserted : (k : ℕ) (v : Corner) (cs : List Corner) → k ≤ length cs → without k (inserted k v cs) ≡ cs
unfolding inserted without
without-inserted zero v cs known = refl
without-inserted (suc k) v [] known = absurd (omega arith)
without-inserted (suc k) v (c ∷ cs) known = ap (λ (r : List Corner). c ∷ r) (without-inserted k v cs (omega arith))

pub inserted-without : (k : ℕ) (cs : List Corner) → k < length cs → inserted k (corner cs k) (without k cs) ≡ cs
unfolding inserted without
inserted-without k [] known = absurd (omega arith)
inserted-without zero (c ∷ cs) known = refl
inserted-without (suc k) (c ∷ cs) known = ap (λ (r : List Corner). c ∷ r) (inserted-without k cs (omega arith))

-- The numbers of an edited outline are parts of the numbers of the outline.
--     without-parts, inserted-parts    those before the corner that is removed or inserted, and those after it
--     sizes                            how long the lists are, for the bounds
use Rattle.std.proofs.Common.{◌≡◌, ℕ, zero, suc, ◌+◌, ◌-◌, ◌*◌, ◌≤◌, ◌<◌, List, [], ◌∷◌, ◌++◌, ℤ, length, take, drop, refl, ap, arith}
use lib.ListN.{length-append, length-take, length-drop}
use Rattle.plane.specs.declared.Corner.{Corner}
use Rattle.plane.specs.Vector.{coordinates}
use Rattle.outline.specs.Corners.{corners}
use Rattle.outline.proofs.CornersLaws.{corners-fit}
use Rattle.edit.specs.Removal.{without}
use Rattle.edit.specs.Insertion.{inserted}
use Rattle.edit.proofs.Without.{numbers-without}
use Rattle.edit.proofs.Inserted.{numbers-inserted}

pub ruleset sizes = (corners-fit, numbers-without, numbers-inserted, length-append, length-take, length-drop)

twice-suc : (k : ℕ) → 2 * suc k ≡ suc (suc (2 * k))
twice-suc k = omega arith

twice-plus : (k : ℕ) → suc (suc (2 * k)) + 2 ≡ suc (suc (2 * k + 2))
twice-plus k = omega arith

all-numbers : (s : List ℤ) → coordinates (corners s) ≡ take (2 * length (corners s)) s
unfolding corners
all-numbers [] = refl
all-numbers (x ∷ []) = refl
all-numbers (x ∷ (y ∷ s)) = rw (twice-suc (length (corners s))) (ap (λ (r : List ℤ). x ∷ y ∷ r) (all-numbers s))

pub without-parts : (k : ℕ) (s : List ℤ) → k < length (corners s)
    → coordinates (without k (corners s))
    ≡ take (2 * k) s ++ take (2 * length (corners s) - (2 * k + 2)) (drop (2 * k + 2) s)
unfolding corners without
without-parts k [] below = absurd (omega arith)
without-parts k (x ∷ []) below = absurd (omega arith)
without-parts zero (x ∷ (y ∷ s)) below =
    let rest : 2 * suc (length (corners s)) - 2 ≡ 2 * length (corners s) = omega arith in rw rest (all-numbers s)
without-parts (suc k) (x ∷ (y ∷ s)) below =
    let rest : 2 * suc (length (corners s)) - suc (suc (2 * k + 2)) ≡ 2 * length (corners s) - (2 * k + 2) = omega arith in
    rw (twice-suc k, twice-plus k, rest) (ap (λ (r : List ℤ). x ∷ y ∷ r) (without-parts k s (omega arith)))

pub inserted-parts : (k : ℕ) (v : Corner) (s : List ℤ) → k ≤ length (corners s)
    → coordinates (inserted k v (corners s))
    ≡ take (2 * k) s ++ ((v.x ∷ v.y ∷ []) ++ take (2 * length (corners s) - 2 * k) (drop (2 * k) s))
unfolding corners inserted
inserted-parts zero v s known =
    let rest : 2 * length (corners s) - 0 ≡ 2 * length (corners s) = omega arith in
    rw rest (ap (λ (r : List ℤ). v.x ∷ v.y ∷ r) (all-numbers s))
inserted-parts (suc k) v [] known = absurd (omega arith)
inserted-parts (suc k) v (x ∷ []) known = absurd (omega arith)
inserted-parts (suc k) v (x ∷ (y ∷ s)) known =
    let rest : 2 * suc (length (corners s)) - suc (suc (2 * k)) ≡ 2 * length (corners s) - 2 * k = omega arith in
    rw (twice-suc k, rest) (ap (λ (r : List ℤ). x ∷ y ∷ r) (inserted-parts k v s (omega arith)))

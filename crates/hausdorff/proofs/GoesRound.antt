-- The directions of an outline's edges go round once. The laws of the order, the cuts and the sweep's support
-- corners rest on this alone.
--     GoesRound            n directions go round once
--     polygon-goes-round   the directions of a polygon go round
--     segment-goes-round   and so do two opposite ones, those of a segment there and back
use Prim.Native.Nat.{ℕ, zero, suc, ◌<◌, ◌≤◌}
use mathlib.Core.Path.{◌≡◌, sym}
use mathlib.Core.Logic.{◌⊎◌, inl, inr, ⊎_swap, ◌≢◌}
use mathlib.Core.List.{List, [], ◌∷◌}
use native.Mathlib.Decide.{ℕ_discrete}
use native.Mathlib.Omega.{arith}
use lib.IntN.{pos}
use lib.ListN.{length}
use lib.Signed.{◌≤ℤ◌, ◌<ℤ◌, <ℤ_irrefl, clash_ℤ}
use Rattle.integers.proofs.Order.{≰ℤ-<ℤ}
use Rattle.integers.proofs.Certificate.{◌≺◌, ◌≼◌, ◌≗◌, hyp, sq, eqn, ◌⊞◌, ◌⊠◌, prove, refute}
use Rattle.plane.specs.declared.Corner.{Corner}
use Rattle.plane.specs.declared.Vector.{Vector}
use Rattle.plane.specs.Vector.{◌⇀◌, cross, dot, side, coordinates}
use Rattle.plane.proofs.Algebra.{O, vec, cross_e, dot_e, ◌⇀E◌, side_e, apart-0}
use Rattle.outline.specs.code.Polygon.{Polygon}
use Rattle.outline.specs.Corners.{next, edge}
use Rattle.outline.proofs.CornersLaws.{next-below, next-other}
use Rattle.nearest.proofs.Support.{not_right, turns-on}
use Rattle.outline.proofs.EdgeLaws.{length-above-0}
use Rattle.plane.proofs.Halves.{NonZero}
use Rattle.plane.proofs.DirectionLaws.{Before, Along, Apart, not-along-apart, before-asym, before-irrefl, along-iff}
use Rattle.plane.proofs.DirectionLaws.{cross-between, cross-first, cross-last}

pub record GoesRound (n : ℕ) (d : ℕ → Vector) : Type 0 where
  pub at_least : 2 ≤ n
  pub nonzero : (i : ℕ) → i < n → NonZero (d i)
  -- different edges have different directions
  pub distinct : (i j : ℕ) → i < n → j < n → i ≢ j → Apart (d i) (d j)
  -- none lies strictly between an edge and the next
  pub none_between : (i j : ℕ) → i < n → j < n → Before (d i) (d j) → ¬ Before (d j) (d (next n i))
  -- where the next comes before, it is the first and this the last
  pub next_first : (i j : ℕ) → i < n → j < n → Before (d (next n i)) (d i) → ¬ Before (d j) (d (next n i))
  pub this_last : (i j : ℕ) → i < n → j < n → Before (d (next n i)) (d i) → ¬ Before (d i) (d j)

-- ---- a polygon

-- The edges from p to c and from c to r turn left. An edge from a to b between them in direction, with a not right
-- of the first and b not right of the second, has c on its right (`cramer-cross`).
none_within : (p c r a b : Corner) → pos 0 <ℤ cross (p ⇀ c) (c ⇀ r) → pos 0 ≤ℤ side p c a → pos 0 ≤ℤ side c r b → pos 0 ≤ℤ side a b c
    → ¬ ((pos 0 <ℤ cross (p ⇀ c) (a ⇀ b)) × (pos 0 <ℤ cross (a ⇀ b) (c ⇀ r)))
unfolding cross ◌⇀◌
none_within p c r a b turn from to corner (left, right) =
    let p' = vec 0 in let c' = vec 2 in let r' = vec 4 in let a' = vec 6 in let b' = vec 8 in
    refute (coordinates (p ∷ c ∷ r ∷ a ∷ b ∷ []))
    (O ≺ cross_e (p' ⇀E c') (c' ⇀E r') ∷ O ≼ side_e p' c' a' ∷ O ≼ side_e c' r' b' ∷ O ≼ side_e a' b' c'
    ∷ O ≺ cross_e (p' ⇀E c') (a' ⇀E b') ∷ O ≺ cross_e (a' ⇀E b') (c' ⇀E r') ∷ [])
    (hyp 0 ⊠ hyp 3 ⊞ hyp 1 ⊠ hyp 5 ⊞ hyp 2 ⊠ hyp 4 ⊞ hyp 4 ⊠ hyp 5) tt turn from to corner left right

-- of two parallel edges that point the same way, the second starts left of the first only if the first starts right
-- of the second
parallel-right : (p q a b : Corner) → cross (p ⇀ q) (a ⇀ b) ≡ pos 0 → pos 0 <ℤ dot (p ⇀ q) (a ⇀ b) → pos 0 <ℤ side p q a
    → side a b p <ℤ pos 0
unfolding cross dot ◌⇀◌
parallel-right p q a b =
    let p' = vec 0 in let q' = vec 2 in let a' = vec 4 in let b' = vec 6 in let e = p' ⇀E q' in
    prove (coordinates (p ∷ q ∷ a ∷ b ∷ []))
    (cross_e e (a' ⇀E b') ≗ O ∷ O ≺ dot_e e (a' ⇀E b') ∷ O ≺ side_e p' q' a' ∷ []) (side_e a' b' p' ≺ O)
    (hyp 2 ⊠ hyp 3 ⊞ hyp 0 ⊠ sq e.x ⊞ hyp 0 ⊠ sq e.y ⊞ eqn 1 (dot_e e (p' ⇀E a'))) tt

module _ {cs : List Corner} (polygon : Polygon cs) where
  -- no edge lies between two consecutive ones in direction
  consecutive : (i j : ℕ) → i < length cs → j < length cs
      → ¬ ((pos 0 <ℤ cross (edge cs i) (edge cs j)) × (pos 0 <ℤ cross (edge cs j) (edge cs (next (length cs) i))))
  consecutive i j below known =
      let n = length cs in
      let after = next-below n i (omega arith) in
      none_within _ _ _ _ _ (turns-on polygon i below) (not_right polygon i j below known)
      (not_right polygon (next n i) (next n j) after (next-below n j (omega arith))) (not_right polygon j (next n i) known after)

  -- two edges of one direction do not turn left, so neither is the next; and of parallel ones one is right of the other
  not-along : (i j : ℕ) → i < length cs → j < length cs → i ≢ j → ¬ Along (edge cs i) (edge cs j)
  not-along i j below known other same =
      let (line, along) = (along-iff _ _ (length-above-0 polygon i below) (length-above-0 polygon j known)).0 same in
      elim (ℕ_discrete j (next (length cs) i)) [
        | yes follows ↦ <ℤ_irrefl (rw (rw follows at line) at (turns-on polygon i below))
        | no farther ↦
            let left = polygon.convex i j below known (λ e. other (sym e)) farther in
            clash_ℤ (parallel-right _ _ _ _ line along left) (not_right polygon j i known below)
      ]

pub polygon-goes-round : {cs : List Corner} → Polygon cs → GoesRound (length cs) (edge cs)
polygon-goes-round polygon = record {
  at_least = omega arith;
  nonzero = length-above-0 polygon;
  distinct = λ i j below known other. not-along-apart _ _ (not-along polygon i j below known other);
  none_between = λ i j below known a b. consecutive polygon i j below known (cross-between _ _ _ (turns-on polygon i below) a b);
  next_first = λ i j below known a b. consecutive polygon i j below known (cross-first _ _ _ (turns-on polygon i below) a b);
  this_last = λ i j below known a b. consecutive polygon i j below known (cross-last _ _ _ (turns-on polygon i below) a b);
}

-- ---- a segment

-- two directions go round if they differ: every edge is this one or the next
two-go-round : (d : ℕ → Vector) → NonZero (d 0) → NonZero (d 1) → Apart (d 0) (d 1) → GoesRound 2 d
unfolding next
two-go-round d there back differ = record {
  at_least = omega arith;
  nonzero = some;
  distinct = λ i j below known other.
      elim (this-or-next i j below known) [ inl e ↦ absurd (other (sym e)) | inr e ↦ rw e (next-differs i below) ];
  none_between = λ i j below known a b.
      elim (this-or-next i j below known) [ inl e ↦ before-irrefl _ (rw e at a) | inr e ↦ before-irrefl _ (rw e at b) ];
  next_first = λ i j below known a b.
      elim (this-or-next i j below known) [ inl e ↦ before-asym _ _ a (rw e at b) | inr e ↦ before-irrefl _ (rw e at b) ];
  this_last = λ i j below known a b.
      elim (this-or-next i j below known) [ inl e ↦ before-irrefl _ (rw e at b) | inr e ↦ before-asym _ _ a (rw e at b) ];
}
  where
    some : (i : ℕ) → i < 2 → NonZero (d i)
    some zero _ = there
    some (suc zero) _ = back
    some (suc (suc i)) below = absurd (omega arith)

    next-differs : (i : ℕ) → i < 2 → Apart (d i) (d (next 2 i))
    next-differs zero _ = differ
    next-differs (suc zero) _ = ⊎_swap differ
    next-differs (suc (suc i)) below = absurd (omega arith)

    this-or-next : (i j : ℕ) → i < 2 → j < 2 → (j ≡ i) ⊎ (j ≡ next 2 i)
    this-or-next i j below known =
        elim (ℕ_discrete j i) [
          | yes e ↦ inl e
          | no other ↦ inr (omega (arith, next-other 2 i (omega arith), next-below 2 i (omega arith)))
        ]

-- there and back do not point the same way
there_back : (p q : Corner) → ¬ (pos 0 <ℤ dot (p ⇀ q) (q ⇀ p))
unfolding dot ◌⇀◌
there_back p q =
    let d = vec 0 ⇀E vec 2 in
    refute (coordinates (p ∷ q ∷ [])) (O ≺ dot_e d (vec 2 ⇀E vec 0) ∷ []) (hyp 0 ⊞ sq d.x ⊞ sq d.y) tt

pub segment-goes-round : (p q : Corner) → p ≢ q → GoesRound 2 (edge (p ∷ q ∷ []))
unfolding next
segment-goes-round p q different =
    let there : NonZero (p ⇀ q) = ≰ℤ-<ℤ (λ none. different (apart-0 p q none)) in
    let back : NonZero (q ⇀ p) = ≰ℤ-<ℤ (λ none. different (sym (apart-0 q p none))) in
    two-go-round (edge (p ∷ q ∷ [])) there back
    (not-along-apart (p ⇀ q) (q ⇀ p) (λ same. there_back p q ((along-iff _ _ there back).0 same).1))

-- The test of strict convexity in one pass is right.
--     is_convex-true        corners pass the test exactly where they are strictly convex
use Prim.Native.Nat.{ℕ, zero, suc, ◌-◌, ◌<◌}
use native.Mathlib.Decide.{ℕ_discrete}
use native.Mathlib.Omega.{arith}
use mathlib.Core.Bool.{true}
use mathlib.Core.List.{List}
use mathlib.Core.Logic.Iff
use mathlib.Core.Logic.{◌↔◌}
use mathlib.Core.Path.{◌≡◌}
use lib.IntN.{pos}
use lib.ListN.{length}
use lib.Signed.{◌<ℤ◌}
use Rattle.integers.proofs.Order.{lt_z-true, <ℤ-lt_z}
use Rattle.integers.proofs.Reflect.{test-and}
use Rattle.lists.proofs.FoldLaws.{all_true}
use Rattle.plane.specs.declared.Corner.{Corner}
use Rattle.plane.specs.declared.Vector.{Vector}
use Rattle.plane.specs.Vector.{◌⇀◌, cross}
use Rattle.plane.proofs.Algebra.{side-end}
use Rattle.plane.proofs.Cone.{left-trans}
use Rattle.outline.specs.Convex.{StrictlyConvex}
use Rattle.outline.specs.Corners.{corner}
use Rattle.outline.specs.code.Turns.{keeps_left_at, is_convex}
use Rattle.outline.proofs.LeftTurns.{Left, LeftTurns, left-turn, left-turn-back, convex-turns, turns-convex}

module _ (cs : List Corner) where
  -- what the three tests of corner i + 2 say
  record KeepsLeft (i : ℕ) : Type 0 where
    pub of_first : Left cs 0 1 (suc (suc i))
    pub of_fan : Left cs 0 (suc i) (suc (suc i))
    pub of_edge : Left cs i (suc i) (suc (suc i))

  keeps_left_at-true : (i : ℕ) → (keeps_left_at cs i ≡ true) ↔ KeepsLeft i
  keeps_left_at-true i = (
    λ e. (let ((first, fan), edge) = three.0 e in record { of_first = first; of_fan = fan; of_edge = edge }),
    λ h. three.1 ((h.of_first, h.of_fan), h.of_edge),
  )
    where
      three : (keeps_left_at cs i ≡ true)
          ↔ ((Left cs 0 1 (suc (suc i)) × Left cs 0 (suc i) (suc (suc i))) × Left cs i (suc i) (suc (suc i)))
      three = test-and _ _ (test-and _ _ (lt_z-true, <ℤ-lt_z) (lt_z-true, <ℤ-lt_z)) (lt_z-true, <ℤ-lt_z)

  -- the side number from the line's end
  left_end : (i j l : ℕ) → Left cs i j l → pos 0 <ℤ cross (corner cs i ⇀ corner cs j) (corner cs j ⇀ corner cs l)
  left_end i j l h = rw (side-end (corner cs i) (corner cs j) (corner cs l)) at h

  -- Seen from corner a, the corners after m turn left in number order if each turns left from the one before and
  -- all are left of e.
  around : (a m : ℕ) (e : Vector)
      → ((c : ℕ) → m < c → c < length cs → pos 0 <ℤ cross e (corner cs a ⇀ corner cs c))
      → ((c : ℕ) → m < c → suc c < length cs → Left cs a c (suc c))
      → (b c : ℕ) → m < b → b < c → c < length cs → Left cs a b c
  around a m e left on b zero h k l = absurd (omega arith)
  around a m e left on b (suc c) h k l =
      elim (ℕ_discrete b c) [
        | yes is ↦ rw is (on c (omega arith) l)
        | no o ↦ left-trans e (corner cs a ⇀ corner cs b) (corner cs a ⇀ corner cs c) (corner cs a ⇀ corner cs (suc c))
            (left b h (omega arith)) (left c (omega arith) (omega arith)) (left (suc c) (omega arith) l)
            (around a m e left on b c h (omega arith) (omega arith)) (on c (omega arith) l)
      ]

  module _ (keeps : (i : ℕ) → i < length cs - 2 → KeepsLeft i) where
    first : (c : ℕ) → 1 < c → c < length cs → Left cs 0 1 c
    first zero h l = absurd (omega arith)
    first (suc zero) h l = absurd (omega arith)
    first (suc (suc i)) h l = (keeps i (omega arith)).of_first

    fan : (b : ℕ) → 0 < b → suc b < length cs → Left cs 0 b (suc b)
    fan zero h l = absurd (omega arith)
    fan (suc i) h l = (keeps i (omega arith)).of_fan

    -- Seen from corner 0 all are left of edge 0.
    from_first : (b c : ℕ) → 0 < b → b < c → c < length cs → Left cs 0 b c
    from_first b c h k l =
        elim (ℕ_discrete b 1) [
          | yes is ↦ rw is (first c (omega arith) l)
          | no o ↦ around 0 1 (corner cs 0 ⇀ corner cs 1) first (λ b h l. fan b (omega arith) l) b c (omega arith) k l
        ]

    -- Every corner before an edge is left of it: seen from the edge's start, its end, corner 0 and that corner are
    -- left of the edge before.
    of-edges : (a b : ℕ) → 0 < a → a < b → suc b < length cs → Left cs a b (suc b)
    of-edges a zero h k l = absurd (omega arith)
    of-edges a (suc b) h k l =
        elim (ℕ_discrete a b) [
          | yes is ↦ rw is (keeps b (omega arith)).of_edge
          | no o ↦ let p = corner cs (suc b) in
              left-turn cs a (suc b) (suc (suc b))
              (left-trans (corner cs b ⇀ p) (p ⇀ corner cs (suc (suc b))) (p ⇀ corner cs 0) (p ⇀ corner cs a)
              (left_end b (suc b) (suc (suc b)) (keeps b (omega arith)).of_edge)
              (left_end b (suc b) 0 (left-turn-back cs 0 b (suc b) (fan b (omega arith) (omega arith))))
              (left_end b (suc b) a (left-turn-back cs a b (suc b) (of-edges a b h (omega arith) (omega arith))))
              (left-turn-back cs 0 (suc b) (suc (suc b)) (fan (suc b) (omega arith) l))
              (left-turn cs (suc b) 0 a (from_first a (suc b) h k (omega arith))))
        ]

    -- Seen from corner a all later ones are left of the line from corner 0.
    keeps-turns : LeftTurns cs
    keeps-turns a b c h k l =
        elim (ℕ_discrete a 0) [
          | yes is ↦ rw is (from_first b c (omega arith) k l)
          | no o ↦ around a a (corner cs 0 ⇀ corner cs a) (λ c h l. left_end 0 a c (from_first a c (omega arith) h l))
              (λ c h l. of-edges a c (omega arith) h l) b c h k l
        ]

  turns_keeps : LeftTurns cs → (i : ℕ) → i < length cs - 2 → KeepsLeft i
  turns_keeps left i below = record {
    of_first = left 0 1 (suc (suc i)) (omega arith) (omega arith) (omega arith);
    of_fan = left 0 (suc i) (suc (suc i)) (omega arith) (omega arith) (omega arith);
    of_edge = left i (suc i) (suc (suc i)) (omega arith) (omega arith) (omega arith);
  }

  pub is_convex-true : (is_convex cs ≡ true) ↔ StrictlyConvex cs
  unfolding is_convex
  is_convex-true = Iff.trans (all_true (keeps_left_at cs) (length cs - 2)) (
    λ every. turns-convex cs (keeps-turns (λ i below. (keeps_left_at-true i).0 (every i below))),
    λ convex i below. (keeps_left_at-true i).1 (turns_keeps (convex-turns cs convex) i below),
  )

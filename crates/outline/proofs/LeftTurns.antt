-- Strict convexity without edges: any three corners, in number order, turn left. So a part of a strictly convex
-- list is one.
--     Left            a corner is strictly left of the line from one corner to another
--     LeftTurns       any three corners, in number order, turn left
--     left-turn, left-turn-back    of three corners taken round
--     convex-turns    so it is in a strictly convex list
--     turns-convex    and a list in which it is so is strictly convex
--     convex-part     a list of some corners of a strictly convex list, in their order, is strictly convex
use Prim.Native.Nat.{ℕ, zero, suc, ◌≤◌, ◌<◌}
use native.Mathlib.Decide.{ℕ_discrete, dec_lt}
use native.Mathlib.Omega.{arith}
use mathlib.Core.Path.{◌≡◌}
use mathlib.Core.Logic.{◌≢◌}
use mathlib.Core.List.{List}
use lib.IntN.{pos}
use lib.ListN.{length}
use lib.Signed.{◌<ℤ◌}
use Rattle.integers.proofs.Order.{<ℤ-≤ℤ}
use Rattle.plane.specs.declared.Corner.{Corner}
use Rattle.plane.specs.Vector.{side}
use Rattle.plane.proofs.Algebra.{side-turn}
use Rattle.plane.proofs.Cone.{left-of-chord}
use Rattle.outline.specs.Corners.{corner}
use Rattle.outline.specs.Convex.{StrictlyConvex}
use Rattle.outline.proofs.CornersLaws.{next-suc, next_last}

-- corner l is strictly left of the line from corner i to corner j
abbrev pub Left : List Corner → ℕ → ℕ → ℕ → Type 0
Left cs i j l = pos 0 <ℤ side (corner cs i) (corner cs j) (corner cs l)

abbrev pub LeftTurns : List Corner → Type 0
LeftTurns cs = (i j l : ℕ) → i < j → j < l → l < length cs → Left cs i j l

pub left-turn : (cs : List Corner) (i j l : ℕ) → Left cs j l i → Left cs i j l
left-turn cs i j l h = rw (side-turn (corner cs i) (corner cs j) (corner cs l)) h

pub left-turn-back : (cs : List Corner) (i j l : ℕ) → Left cs i j l → Left cs j l i
left-turn-back cs i j l h = left-turn cs j l i (left-turn cs l i j h)

module _ (cs : List Corner) (convex : StrictlyConvex cs) where
  edge : (e c : ℕ) → (suc e < length cs) × (c < length cs) × (c ≢ e) × (c ≢ suc e) → Left cs e (suc e) c
  edge e c h = rw (next-suc (length cs) e h.0) at (convex e c (omega arith) h.1 h.2 (omega (arith, next-suc (length cs) e h.0)))

  -- From j to j + 1 by `left-of-chord` with the edge into corner m + 1, unless that edge starts at j + 1, or the
  -- edge from i ends there.
  turns : (i j m : ℕ) → i < j → j ≤ m → suc m < length cs → Left cs i j (suc m)
  turns i zero m h k l = absurd (omega arith)
  turns i (suc j) m h k l =
      elim (ℕ_discrete (suc j) m) [
        | yes e ↦ rw e (left-turn cs i m (suc m) (edge m i (omega arith)))
        | no a ↦ elim (ℕ_discrete i j) [
          | yes e ↦ rw e (edge j (suc m) (omega arith))
          | no b ↦ left-of-chord (corner cs i) (corner cs j) (corner cs (suc j)) (corner cs (suc m)) (corner cs m)
              (edge j (suc m) (omega arith)) (<ℤ-≤ℤ (turns i j m (omega arith) (omega arith) l))
              (edge m i (omega arith)) (<ℤ-≤ℤ (edge m j (omega arith))) (<ℤ-≤ℤ (edge m (suc j) (omega arith)))
        ]
      ]

  pub convex-turns : LeftTurns cs
  convex-turns i j zero h k l = absurd (omega arith)
  convex-turns i j (suc m) h k l = turns i j m h (omega arith) l

pub turns-convex : (cs : List Corner) → LeftTurns cs → StrictlyConvex cs
turns-convex cs left e c h k x y =
    elim (dec_lt (suc e) (length cs)) [
      | yes w ↦ rw (next-suc (length cs) e w) (elim (dec_lt c e) [
        | yes b ↦ left-turn-back cs c e (suc e) (left c e (suc e) b (omega arith) w)
        | no b ↦ left e (suc e) c (omega arith) (omega (arith, next-suc (length cs) e w)) k
      ])
      | no w ↦ let last = next_last (length cs) e (omega arith) in
          rw last (left-turn cs e 0 c (left 0 c e (omega arith) (omega arith) h))
    ]

-- `from` tells which corner of cs the i-th corner of ds is
pub convex-part : (cs ds : List Corner) (from : ℕ → ℕ)
    → ((i j : ℕ) → i < j → from i < from j)
    → ((i : ℕ) → i < length ds → from i < length cs)
    → ((i : ℕ) → corner ds i ≡ corner cs (from i))
    → StrictlyConvex cs → StrictlyConvex ds
convex-part cs ds from rises known same convex =
    turns-convex ds λ i j l a b c. rw (same i, same j, same l)
    (convex-turns cs convex (from i) (from j) (from l) (rises i j a) (rises j l b) (known l c))

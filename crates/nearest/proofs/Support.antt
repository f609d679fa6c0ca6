-- The piece of a polygon, seen from one of its corners and from a direction.
--     not_right          no corner is right of an edge
--     corner-in-piece    a corner is in the piece
--     turns-left         the edge into a corner and the edge out of it turn left
--     turns-on           so do an edge and the next
--     corner-cone        a linear bound at the two neighbours of a corner holds in the piece
--     support            for every direction some corner is extreme: no point of the piece lies farther in that
--                        direction
use Prim.Native.Nat.{ℕ, ◌<◌}
use mathlib.Core.Logic.{inl, inr, ⊎_elim}
use mathlib.Core.List.{List}
use native.Mathlib.Decide.{ℕ_discrete}
use native.Mathlib.Omega.{arith}
use lib.IntN.{ℤ, pos}
use lib.ListN.{length}
use lib.Signed.{◌≤ℤ◌, ◌<ℤ◌, ≤ℤ_refl}
use Rattle.integers.proofs.Order.{<ℤ-≤ℤ, ≤ℤ-or-<ℤ, ≤ℤ-trans}
use Rattle.integers.proofs.Greatest.{greatest}
use Rattle.plane.specs.declared.Corner.{Corner}
use Rattle.plane.specs.declared.Point.{Point}
use Rattle.plane.specs.declared.Vector.{Vector}
use Rattle.plane.specs.Point.{whole, ◌⇢◌}
use Rattle.plane.specs.Vector.{◌⇀◌, cross, dot, side}
use Rattle.plane.proofs.Algebra.{side-end, side-start, side-stop, dot-back, dot-less}
use Rattle.plane.proofs.Cone.{cone}
use Rattle.plane.proofs.Points.{whole-proper, whole-⇢, line-end}
use Rattle.outline.specs.code.Polygon.{Polygon}
use Rattle.outline.specs.Corners.{corner, next, previous, origin, edge}
use Rattle.outline.proofs.CornersLaws.{next-below, next-other, previous-below, next-previous, previous-next}
use Rattle.outline.proofs.CornersLaws.{next-not-previous}
use Rattle.nearest.specs.Piece.{InPiece}

module _ {cs : List Corner} (polygon : Polygon cs) where
  -- no corner is right of an edge: it is an end of the edge, with side number 0, or strictly left
  pub not_right : (e i : ℕ) → e < length cs → i < length cs → pos 0 ≤ℤ side (corner cs e) (corner cs (next (length cs) e)) (corner cs i)
  not_right e i known below =
      let p = corner cs e in let q = corner cs (next (length cs) e) in
      elim (ℕ_discrete i e) [
        | yes start ↦ rw (start, side-start p q) (≤ℤ_refl (pos 0))
        | no a ↦ elim (ℕ_discrete i (next (length cs) e)) [
          | yes end ↦ rw (end, side-stop p q) (≤ℤ_refl (pos 0))
          | no b ↦ <ℤ-≤ℤ (polygon.convex e i known below a b)
        ]
      ]

  pub corner-in-piece : (i : ℕ) → i < length cs → InPiece cs (whole (corner cs i))
  corner-in-piece i below = record {
    proper = whole-proper (corner cs i);
    right_of_none = λ e known. rw (whole-⇢ (corner cs e) (corner cs i)) (not_right e i known below);
  }

  -- the end of the edge out of corner i is strictly left of the edge into it
  pub turns-left : (i : ℕ) → i < length cs → pos 0 <ℤ cross (corner cs (previous (length cs) i) ⇀ corner cs i) (edge cs i)
  turns-left i below =
      let n = length cs in
      let into = next-previous n i below in
      rw (into, side-end (corner cs (previous n i)) (corner cs i) (corner cs (next n i))) at
      (polygon.convex (previous n i) (next n i) (previous-below n i below) (next-below n i (omega arith))
      (next-not-previous n i polygon.at_least below) (rw into (next-other n i (omega arith))))

  pub turns-on : (i : ℕ) → i < length cs → pos 0 <ℤ cross (edge cs i) (edge cs (next (length cs) i))
  turns-on i below =
      let n = length cs in rw (previous-next n i below) at (turns-left (next n i) (next-below n i (omega arith)))

  -- a point of the piece is right of neither edge at the corner
  pub corner-cone : (i : ℕ) → i < length cs → (u : Vector)
      → dot u (corner cs i ⇀ corner cs (previous (length cs) i)) ≤ℤ pos 0 → dot u (edge cs i) ≤ℤ pos 0
      → (z : Point) → InPiece cs z → dot u (whole (corner cs i) ⇢ z) ≤ℤ pos 0
  corner-cone i below u before after z inside =
      let n = length cs in let p = corner cs (previous n i) in let q = corner cs i in
      cone (p ⇀ q) (edge cs i) (whole q ⇢ z) u (turns-left i below)
      (rw (next-previous n i below, line-end p q z) at (inside.right_of_none (previous n i) (previous-below n i below)))
      (inside.right_of_none i below) (dot-back u q p before) after

  -- among the corners one is greatest in the direction u; by `corner-cone` at its two neighbours it is so in the piece
  greatest-corner : (u : Vector) → (w : ℕ) × (w < length cs) × ((i : ℕ) → i < length cs → dot u (corner cs w ⇀ corner cs i) ≤ℤ pos 0)
  greatest-corner u =
      let far : ℕ → ℤ = λ i. dot u (origin ⇀ corner cs i) in
      let best = greatest (λ i j. far j ≤ℤ far i) (λ i j. ⊎_elim inl (λ less. inr (<ℤ-≤ℤ less)) (≤ℤ-or-<ℤ (far j) (far i)))
      (λ i j k p q. ≤ℤ-trans q p) (length cs) (omega arith) in
      (best.place, best.below, λ i below. dot-less u origin (corner cs best.place) (corner cs i) (best.over i below))

  pub support : (u : Vector) → (w : ℕ) × (w < length cs) × ((z : Point) → InPiece cs z → dot u (whole (corner cs w) ⇢ z) ≤ℤ pos 0)
  support u =
      let n = length cs in let (w, below, less) = greatest-corner u in
      let before = less (previous n w) (previous-below n w below) in
      let after = less (next n w) (next-below n w (omega arith)) in
      (w, below, corner-cone w below u before after)

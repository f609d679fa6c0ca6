-- Points with whole coordinates, in the piece and outside.
--     whole-in-piece    such a point is in the piece exactly where it is right of no edge
--     outside-test, inside-test    `is_outside` holds exactly of points outside the piece, and fails of those in it
use Prim.Native.Nat.{ℕ, ◌<◌}
use mathlib.Core.Path.{◌≡◌, ap}
use mathlib.Core.Logic.Iff
use mathlib.Core.Logic.{◌↔◌}
use mathlib.Core.Bool.{true, false, not}
use mathlib.Core.List.{List}
use borrow.Author.Tests.{not-false}
use lib.IntN.{pos}
use lib.ListN.{length}
use lib.Signed.{le_z, ◌≤ℤ◌}
use Rattle.integers.proofs.Order.{le_z-true, ≤ℤ-le_z}
use Rattle.integers.proofs.Reflect.{test-not}
use Rattle.plane.specs.declared.Corner.{Corner}
use Rattle.plane.specs.Point.{whole}
use Rattle.plane.specs.Vector.{side}
use Rattle.plane.proofs.Points.{whole-proper, whole-⇢}
use Rattle.outline.specs.Corners.{corner, next}
use Rattle.lists.specs.Fold.{all}
use Rattle.lists.proofs.FoldLaws.{all_true}
use Rattle.nearest.specs.Piece.{InPiece, Outside, is_outside}

module _ (cs : List Corner) (v : Corner) where
  pub whole-in-piece :
      InPiece cs (whole v) ↔ ((i : ℕ) → i < length cs → pos 0 ≤ℤ side (corner cs i) (corner cs (next (length cs) i)) v)
  whole-in-piece = (
    λ inside i below. rw (whole-⇢ (corner cs i) v) at (inside.right_of_none i below),
    λ none. record { proper = whole-proper v; right_of_none = λ i below. rw (whole-⇢ (corner cs i) v) (none i below) },
  )

  right_of_none : (all (λ i. le_z (pos 0) (side (corner cs i) (corner cs (next (length cs) i)) v)) (length cs) ≡ true) ↔ InPiece cs (whole v)
  right_of_none = Iff.trans (all_true _ (length cs)) (
    λ every. whole-in-piece.1 (λ i below. le_z-true (every i below)),
    λ inside i below. ≤ℤ-le_z (whole-in-piece.0 inside i below),
  )

  pub outside-test : (is_outside cs v ≡ true) ↔ Outside cs (whole v)
  outside-test = test-not _ right_of_none

  pub inside-test : (is_outside cs v ≡ false) ↔ InPiece cs (whole v)
  inside-test = Iff.trans (not-false _, ap not) right_of_none

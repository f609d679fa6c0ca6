-- A list that starts at another corner gives the same piece, and is strictly convex where it was.
--     rotated, starting_at    the corners from corner 1 on, and then corner 0; from corner k on, and then those
--                            before it
--     rotated-length         they are as many
--     rotated-corner         corner i is the one that followed it
--     RotationInvariant, invariant-start    a property that holds of a list exactly where it holds of the rotated one
--                            holds so of every list that starts at another corner
--     SamePiece              two lists give pieces with the same points
--     rotated-piece          so do a list and the rotated one
--     rotated-convex         the rotated list is strictly convex exactly where the list is
use Prim.Native.Nat.{ℕ, zero, suc, ◌<◌}
use mathlib.Core.Path.{◌≡◌, refl, sym, ap, ◌∙◌}
use mathlib.Core.Logic.Iff
use mathlib.Core.Logic.{◌↔◌, ◌≢◌, ⊎_elim}
use mathlib.Core.List.{List, [], ◌∷◌, ◌++◌}
use native.Mathlib.Nat.{eq-or-lt_of_le, le_of_suc-le-suc}
use native.Mathlib.Omega.{arith}
use lib.ListN.{length, length-append, get_or-append}
use lib.Seq.{get_or-append_seam}
use Rattle.plane.specs.declared.Corner.{Corner}
use Rattle.plane.specs.declared.Point.{Point}
use Rattle.plane.specs.Vector.{side}
use Rattle.outline.specs.Convex.{StrictlyConvex}
use Rattle.outline.specs.Corners.{origin, corner, next, previous}
use Rattle.outline.proofs.CornersLaws.{next-suc, next_last, next-below, next-previous, previous-below, previous-next}
use Rattle.nearest.specs.Piece.{side_of, InPiece}

-- different corners are followed by different corners
next-apart : (n i j : ℕ) → i < n → j < n → i ≢ j → next n i ≢ next n j
next-apart n i j i-below j-below other same =
    other (sym (previous-next n i i-below) ∙ ap (previous n) same ∙ previous-next n j j-below)

-- a corner follows the one before it
next-of-previous : (n c i : ℕ) → c < n → previous n c ≡ i → c ≡ next n i
next-of-previous n c i below is = sym (next-previous n c below) ∙ ap (next n) is

-- the corners from corner 1 on, and then corner 0
abbrev pub rotated : List Corner → List Corner
rotated [] = []
rotated (c ∷ cs) = cs ++ (c ∷ [])

-- the corners from corner k on, and then those before it
abbrev pub starting_at : ℕ → List Corner → List Corner
starting_at zero cs = cs
starting_at (suc k) cs = starting_at k (rotated cs)

-- a property that does not depend on the corner at which a list starts
abbrev pub RotationInvariant : (List Corner → Type 0) → Type 0
RotationInvariant Q = (cs : List Corner) → Q cs ↔ Q (rotated cs)

-- it holds of a list exactly where it holds of one that starts at another of its corners
pub invariant-start : {Q : List Corner → Type 0} → RotationInvariant Q
    → (k : ℕ) (cs : List Corner) → Q cs ↔ Q (starting_at k cs)
invariant-start invariant zero cs = Iff.rfl
invariant-start invariant (suc k) cs = Iff.trans (invariant cs) (invariant-start invariant k (rotated cs))

-- pieces with the same points
abbrev pub SamePiece : List Corner → List Corner → Type 0
SamePiece cs ds = (z : Point) → InPiece cs z ↔ InPiece ds z

-- they are as many
pub rotated-length : (cs : List Corner) → length (rotated cs) ≡ length cs
rotated-length [] = refl
rotated-length (c ∷ cs) = omega (arith, length-append cs (c ∷ []))

-- corner i is the one that followed it
pub rotated-corner : (cs : List Corner) (i : ℕ) → i < length cs → corner (rotated cs) i ≡ corner cs (next (length cs) i)
rotated-corner [] i below = absurd (omega arith)
rotated-corner (c ∷ cs) i below =
    let n = suc (length cs) in
    ⊎_elim
    (λ last. rw (last, next_last n (length cs) (omega arith)) (get_or-append_seam cs c [] origin))
    (λ less. rw (next-suc n i (omega arith)) (get_or-append cs (c ∷ []) origin i less))
    (eq-or-lt_of_le (le_of_suc-le-suc below))

module _ (cs : List Corner) where
  abbrev n : ℕ
  n = length cs

  -- and so is edge i
  rotated-side : (i : ℕ) → i < n → (z : Point) → side_of (rotated cs) i z ≡ side_of cs (next n i) z
  rotated-side i below z =
      rw (rotated-length cs, rotated-corner cs i below, rotated-corner cs (next n i) (next-below n i (omega arith)))

  -- every edge follows one
  pub rotated-piece : SamePiece cs (rotated cs)
  rotated-piece z = (
    λ inside. record {
      proper = inside.proper;
      right_of_none = λ i below. let known = rw (rotated-length cs) at below in
          rw (rotated-side i known z) (inside.right_of_none (next n i) (next-below n i (omega arith)));
    },
    λ inside. record {
      proper = inside.proper;
      right_of_none = λ i below. let before = previous-below n i below in
          rw (rotated-side (previous n i) before z, next-previous n i below)
          at (inside.right_of_none (previous n i) (rw (rotated-length cs) before));
    },
  )

  -- corner c and edge e of the rotated list are those that followed them
  rotated-corner-side : (e c : ℕ) → e < n → c < n
      → side (corner (rotated cs) e) (corner (rotated cs) (next n e)) (corner (rotated cs) c)
      ≡ side (corner cs (next n e)) (corner cs (next n (next n e))) (corner cs (next n c))
  rotated-corner-side e c e-below c-below =
      rw (
        rotated-corner cs e e-below,
        rotated-corner cs (next n e) (next-below n e (omega arith)),
        rotated-corner cs c c-below,
      )

  -- so the rotated list is strictly convex exactly where the list is: a corner is no end of an edge exactly where the
  -- corner that follows it is no end of the edge that follows
  pub rotated-convex : StrictlyConvex cs ↔ StrictlyConvex (rotated cs)
  rotated-convex = rw (rotated-length cs) (
    λ convex e c e-below c-below not_start not_end.
        let f-below : next n e < n = next-below n e (omega arith) in
        rw (rotated-corner-side e c e-below c-below)
        (convex (next n e) (next n c) f-below (next-below n c (omega arith))
        (next-apart n c e c-below e-below not_start) (next-apart n c (next n e) c-below f-below not_end)),
    λ convex e c e-below c-below not_start not_end.
        let d-below : previous n e < n = previous-below n e e-below in
        let b-below : previous n c < n = previous-below n c c-below in
        let e-is : next n (previous n e) ≡ e = next-previous n e e-below in
        rw (rotated-corner-side (previous n e) (previous n c) d-below b-below, e-is, next-previous n c c-below)
        at (convex (previous n e) (previous n c) d-below b-below
        (λ same. not_start (next-of-previous n c (previous n e) c-below same ∙ e-is))
        (λ same. not_end (next-of-previous n c e c-below (same ∙ e-is)))),
  )

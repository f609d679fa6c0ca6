-- Writing corners to a list, one after the other.
--     put_next        corner j of cs, put to its place, makes two numbers more of the corners' numbers
--     put-after       a corner put after corners that stand at the beginning of a list, however long that is
--     put-length      the list stays as long as it is
-- For loops that write the corners cs to a list of just their length:
--     Writing         the invariant: the first i are written, over what the list held
--     write-start, write-next, write-all    it holds at the start, goes on with a corner, and at the end the list has them all
--     write-length, write-room    the list stays as long as it is, and has room for the next corner
use Prim.Native.Nat.{ℕ, suc, ◌+◌, ◌*◌, ◌<◌, ◌≤◌}
use mathlib.Core.Path.{◌≡◌, refl, ap, ◌∙◌}
use mathlib.Core.List.{List, [], ◌∷◌, ◌++◌, append_assoc}
use native.Mathlib.Omega.{arith}
use lib.IntN.{ℤ, pos}
use lib.ListN.{length, take, set, length-set}
use lib.Seq.{take-suc-set}
use Rattle.lists.proofs.CopyLaws.{copied, copied-suc, copied-length, copied_all}
use Rattle.plane.specs.declared.Corner.{Corner}
use Rattle.plane.specs.Vector.{coordinates}
use Rattle.outline.specs.Corners.{corner}
use Rattle.outline.specs.code.Writing.{put_corner}
use Rattle.outline.proofs.CornersLaws.{length-coordinates, coordinate-x, coordinate-y}

twice-plus : (j : ℕ) → 2 * j + 1 ≡ suc (2 * j)
twice-plus j = omega arith

twice-next : (j : ℕ) → 2 * (j + 1) ≡ suc (suc (2 * j))
twice-next j = omega arith

pub put_next : (d : List ℤ) (cs : List Corner) (j : ℕ) → length d ≡ length (coordinates cs) → j < length cs
    → put_corner (copied d (coordinates cs) (2 * j)) j (corner cs j) ≡ copied d (coordinates cs) (2 * (j + 1))
put_next d cs j long below =
    let s = coordinates cs in
    let count = length-coordinates cs in
    rw (
      ← coordinate-x cs j,
      ← coordinate-y cs j,
      copied-suc d s (pos 0) (2 * j) (omega arith) (omega arith),
      twice-plus j,
      copied-suc d s (pos 0)
          (suc (2 * j)) (omega arith) (omega arith),
      twice-next j,
    )

pub put-length : (s : List ℤ) (j : ℕ) (c : Corner) → length (put_corner s j c) ≡ length s
put-length s j c = length-set (set s (2 * j) c.x) (2 * j + 1) c.y ∙ length-set s (2 * j) c.x

coordinates-append : (cs ds : List Corner) → coordinates (cs ++ ds) ≡ coordinates cs ++ coordinates ds
coordinates-append [] ds = refl
coordinates-append (c ∷ cs) ds = ap (λ (s : List ℤ). c.x ∷ c.y ∷ s) (coordinates-append cs ds)

pub put-after : (s : List ℤ) (cs : List Corner) (j : ℕ) (c : Corner) → 2 * j + 1 < length s
    → take (2 * j) s ≡ coordinates cs → take (2 * (j + 1)) (put_corner s j c) ≡ coordinates (cs ++ (c ∷ []))
put-after s cs j c room is =
    let with-x = set s (2 * j) c.x in
    let long : length with-x ≡ length s = length-set s (2 * j) c.x in
    rw (
      twice-next j,
      twice-plus j,
      take-suc-set with-x (suc (2 * j)) c.y (omega (arith, long)),
      take-suc-set s (2 * j) c.x (omega arith),
      is,
      append_assoc,
      coordinates-append,
    )

pub record Writing (out₀ : List ℤ) (cs : List Corner) (i : ℕ) (out : List ℤ) : Type 0 where
  pub long : length out₀ ≡ length (coordinates cs)
  pub turn : i ≤ length cs
  pub is : out ≡ copied out₀ (coordinates cs) (2 * i)

pub write-start : {out : List ℤ} (cs : List Corner) → length out ≡ length (coordinates cs) → Writing out cs 0 out
write-start cs long = record { long = long; turn = omega arith; is = refl }

module _ {out₀ : List ℤ} {cs : List Corner} {i : ℕ} {out : List ℤ} (writing : Writing out₀ cs i out) where
  pub write-length : length out ≡ length out₀
  write-length =
      ap length writing.is
      ∙ copied-length out₀ (coordinates cs) (2 * i) writing.long (omega (arith, writing.turn, length-coordinates cs))

  pub write-room : i < length cs → 2 * i + 1 < length out
  write-room below = omega (arith, write-length, writing.long, length-coordinates cs)

  pub write-next : {c : Corner} → i < length cs → c ≡ corner cs i → Writing out₀ cs (i + 1) (put_corner out i c)
  write-next below next = record {
    long = writing.long;
    turn = omega arith;
    is = rw (writing.is, next) (put_next out₀ cs i writing.long below);
  }

  pub write-all : length cs ≤ i → out ≡ coordinates cs
  write-all past =
      writing.is
      ∙ copied_all out₀ (coordinates cs) (2 * i) writing.long (omega (arith, writing.turn, length-coordinates cs))

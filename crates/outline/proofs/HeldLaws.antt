-- An outline held as one value.
--     held-places                  it has 256 places
--     held-corner, held-unused     corner i of the list is in place i; the places after the corners are zero
--     corners_of-held               the corners of a held list are the list
--     held-outline                 an accepted list, held, is an outline
--     Filling, fill_start, fill_on, fill_end    the loop that puts the corners of a list into the places: its
--                                  invariant, at the start, after a turn and at the end
--     length-mapped                for a value that a function is handed: what is known of its places is their
--                                  number as tuples.
--                                  `search length-mapped` finds that there are 256
use Prim.Native.Nat.{ℕ, suc, ◌+◌, ◌-◌, ◌<◌, ◌≤◌}
use mathlib.Core.Path.{◌≡◌, sym, ap, ◌∙◌}
use mathlib.Core.List.{List, ◌++◌, map, append_assoc}
use native.Mathlib.Numerals.{add-one}
use native.Mathlib.Omega.{arith}
use lib.ListN.{length, get_or, set, take, replicate, length-append, length-map, length-replicate, get_or-replicate}
use lib.ListN.{get_or-append}
use lib.Seq.{get_or-append-add, take-append_seam, length-take-le, set_at, take-suc, take-length}
use Rattle.plane.specs.declared.Corner.{Corner}
use Rattle.outline.specs.declared.Outline.{Outline}
use Rattle.outline.specs.Convex.{Accepted}
use Rattle.outline.specs.code.Held.{IsOutline}
use Rattle.outline.specs.Corners.{corner, origin, most, held}
use Rattle.outline.specs.code.Held.{corners_of}
use Rattle.outline.specs.code.Unfilled.{unfilled}

module _ (cs : List Corner) where
  pub held-places : length cs ≤ most → length (held cs).corners ≡ most
  unfolding held
  held-places fits = simp (length-append, length-replicate) (omega arith)

  pub held-corner : (i : ℕ) → i < length cs → corner (held cs).corners i ≡ corner cs i
  unfolding held
  held-corner i below = get_or-append cs (replicate (most - length cs) origin) origin i below

  pub held-unused : (i : ℕ) → length cs ≤ i → i < most → corner (held cs).corners i ≡ origin
  unfolding held
  held-unused i past below =
      ap (λ (k : ℕ). get_or (cs ++ rest) k origin) split
      ∙ get_or-append-add cs rest (i - length cs) origin
      ∙ get_or-replicate (most - length cs) (i - length cs) origin origin (omega arith)
    where
      rest : List Corner
      rest = replicate (most - length cs) origin

      split : i ≡ length cs + (i - length cs)
      split = omega arith

  pub corners_of-held : corners_of (held cs) ≡ cs
  unfolding held
  corners_of-held = take-append_seam cs (replicate (most - length cs) origin)

  pub held-outline : Accepted cs → IsOutline (held cs)
  unfolding held
  held-outline ok = record { fits = ok.at_most; accepted = rw corners_of-held ok }

-- the first i corners, and zeros after them
abbrev filled : List Corner → ℕ → List Corner
filled cs i = take i cs ++ replicate (most - i) origin

-- the next corner is put into its place
fill-next : (cs : List Corner) (i : ℕ) → i < length cs → i < most
    → set (filled cs i) i (corner cs i) ≡ filled cs (i + 1)
fill-next cs i below fits =
    rw (more, add-one, take-suc cs i origin)
    (set_at (take i cs) origin _ (corner cs i) i (length-take-le i cs (omega arith)) ∙ simp append_assoc)
  where
    more : most - i ≡ suc (most - (i + 1))
    more = omega arith

-- the first i corners of the list are in their places
pub record Filling (cs : List Corner) (n : ℕ) (o : Outline) (i : ℕ) : Type 0 where
  pub counted : n ≡ length cs
  pub turn : i ≤ n
  pub fits : n ≤ most
  pub is : o ≡ record { count = n; corners = filled cs i }

-- a value whose places are all zero has no corner yet
pub fill_start : {cs : List Corner} {n : ℕ} {o : Outline} → n ≡ length cs → length cs ≤ most
    → o ≡ unfilled n → Filling cs n o 0
fill_start counted fits is = record { counted = counted; turn = omega arith; fits = omega arith; is = is }

module _ {cs : List Corner} {n i : ℕ} {o : Outline} (filling : Filling cs n o i) where
  -- a turn puts the next corner into its place
  pub fill_on : {c : Corner} → i < n → c ≡ corner cs i
      → Filling cs n (record { count = o.count; corners = set o.corners i c }) (i + 1)
  fill_on below is_c = record {
    counted = filling.counted;
    turn = omega arith;
    fits = filling.fits;
    is = rw (filling.is, is_c, fill-next cs i (omega (arith, filling.counted)) (omega (arith, filling.fits)));
  }

  -- after the last turn the value holds the list
  pub fill_end : n ≤ i → o ≡ held cs
  unfolding held
  fill_end past =
      let all : i ≡ length cs = omega (arith, filling.counted, filling.turn) in
      filling.is ∙ rw (filling.counted, all, take-length)

-- all arguments explicit, for `search`
pub length-mapped : (X Y : Type 0) (f : X → Y) (l : List X) (n : ℕ) → length (map f l) ≡ n → length l ≡ n
length-mapped X Y f l n e = sym (length-map l f) ∙ e

-- The loop that finds the corners of a hull.
--     part_count         2 n numbers of a list give n points
--     keeps-part, keeps-fits, keeps-room    what `keep_candidates` promises, of the points and of the room for corners
--     Wrapping           the invariant: the corners found, and those that wrapping finds in the points left to come, are
--                        the hull
--     wrap-room, next-in-range, wrap-less    a turn has room for a corner, which is in range, and leaves fewer points to come
--     wrap-start, wrap-next, wrap-end    it holds at the start, goes on with a corner, and at the end all are found
--     wraps-corners, wraps-fits    the corners that are found stand first in a list
use Prim.Native.Nat.{ℕ, zero, suc, ◌+◌, ◌*◌, ◌-◌, ◌≤◌, ◌<◌}
use native.Mathlib.Omega.{arith}
use mathlib.Core.Path.{◌≡◌, refl, sym, ap, ◌∙◌}
use mathlib.Core.List.{List, [], ◌∷◌, ◌++◌, append_assoc, append-nil, Memᴰ}
use lib.IntN.{ℤ}
use lib.ListN.{length, take, drop, length-append, length-take, length-drop}
use lib.Seq.{take-append-le, drop-cons}
use Rattle.plane.specs.declared.Corner.{Corner}
use Rattle.plane.specs.Range.{InRange}
use Rattle.plane.specs.Vector.{coordinates}
use Rattle.outline.specs.Convex.{AllInRange}
use Rattle.outline.specs.Corners.{origin, corners, corner}
use Rattle.outline.specs.code.Writing.{put_corner}
use Rattle.outline.proofs.CornersLaws.{length-corners, length-coordinates, corners-coordinates, coordinates-corners}
use Rattle.outline.proofs.WritingLaws.{put-after, put-length}
use Rattle.hull.specs.code.Wrapping.{is_candidate, kept, foremost, wrap, hull_from}
use Rattle.hull.proofs.Ahead.{foremost-member}
use Rattle.hull.proofs.Points.{corner-member, member-corner, kept-member, kept-length, kept-shorter}
use Rattle.hull.proofs.Wrapping.{candidate-self}
use Rattle.wrapping.specs.Steps.{KeepsCandidates, Wraps}

pub part_count : (zs : List ℤ) (n : ℕ) → 2 * n ≤ length zs → length (corners (take (2 * n) zs)) ≡ n
part_count zs n fits = omega (arith, length-corners (take (2 * n) zs), length-take (2 * n) zs)

-- a corner put after those that stand first
corners-put : (hull : List ℤ) (count : ℕ) (q : Corner) → 2 * count + 1 < length hull
    → corners (take (2 * (count + 1)) (put_corner hull count q)) ≡ corners (take (2 * count) hull) ++ (q ∷ [])
corners-put hull count q room =
    let before = corners (take (2 * count) hull) in
    let is : take (2 * count) hull ≡ coordinates before =
    sym (coordinates-corners (take (2 * count) hull) (omega (arith, length-take (2 * count) hull))) in
    ap corners (put-after hull before count q room is) ∙ corners-coordinates (before ++ (q ∷ []))

-- what is kept of points in range is in range
kept-in-range : (s p : Corner) (cs : List Corner) → AllInRange cs → AllInRange (kept (is_candidate s p) cs)
kept-in-range s p cs all i below =
    let among = (kept-member (is_candidate s p) cs _ (corner-member (kept (is_candidate s p) cs) i below)).0 in
    let (j, known, is) = member-corner among in rw is at (all j known)

pub record Wrapping (s : Corner) (zs₀ hull₀ : List ℤ) (left₀ : ℕ) (zs hull : List ℤ) (count : ℕ) (last : Corner) (left : ℕ) : Type 0 where
  pub long : length zs ≡ length zs₀
  pub hull_long : length hull ≡ length hull₀
  pub some : 1 ≤ count
  pub fewer : count + left ≤ left₀ + 1
  pub fits : 2 * left ≤ length zs
  pub all_in_range : AllInRange (corners (take (2 * left) zs))
  pub last_in_range : InRange last
  -- however many corners may still be found
  pub found : (most : ℕ)
      → corners (take (2 * count) hull) ++ wrap most s last (corners (take (2 * left) zs))
      ≡ s ∷ wrap (most + (count - 1)) s s (corners (take (2 * left₀) zs₀))

-- the candidates from p stand first in a list
module _ {s p : Corner} {before : List ℤ} {r : ℕ} {after : List ℤ} (keeps : KeepsCandidates s p before r after) where
  abbrev candidates : List Corner
  candidates = kept (is_candidate s p) (corners before)

  pub keeps-part : corners (take (2 * r) after) ≡ candidates
  keeps-part = ap corners keeps.first ∙ corners-coordinates candidates

  pub keeps-fits : 2 * r ≤ length after
  keeps-fits =
      omega (arith, keeps.count, keeps.long, kept-length (is_candidate s p) (corners before), length-corners before)

-- s is one of the points, and not one of those that can come after it
pub keeps-room : {s : Corner} {points : List ℤ} {left : ℕ} {zs : List ℤ} → KeepsCandidates s s points left zs
    → Memᴰ s (corners points) → (hull start : List ℤ) → 2 * length (corners points) ≤ length hull
    → start ≡ put_corner hull 0 s → 2 * (left + 1) ≤ length start
keeps-room {s} {points} keeps there hull start room is =
    let less = kept-shorter (is_candidate s s) (corners points) s there (candidate-self s s) in
    omega (arith, keeps.count, put-length hull 0 s, ap length is)

-- without points nothing is found
no-points : (cs : List Corner) → length cs ≤ 0 → cs ≡ []
no-points [] none = refl
no-points (c ∷ cs) none = absurd (omega arith)

wrap-none : (most : ℕ) (s p : Corner) → wrap most s p [] ≡ []
unfolding wrap
wrap-none zero s p = refl
wrap-none (suc most) s p = refl

pub wrap-start : {s : Corner} {points zs : List ℤ} {left : ℕ} (hull : List ℤ) → KeepsCandidates s s points left zs
    → AllInRange (corners points) → InRange s → 1 < length hull
    → (let start = put_corner hull 0 s in Wrapping s zs start left zs start 1 s left)
unfolding corners
wrap-start {s} {points} {zs} {left} hull keeps all all_in_range room = record {
  long = refl;
  hull_long = refl;
  some = omega arith;
  fewer = omega arith;
  fits = keeps-fits keeps;
  all_in_range = rw (keeps-part keeps) (kept-in-range s s (corners points) all);
  last_in_range = all_in_range;
  found = λ most. (let none : most + 0 ≡ most = omega arith in rw (none, corners-put hull 0 s room));
}

module _ {s : Corner} {zs₀ hull₀ : List ℤ} {left₀ : ℕ} {zs hull : List ℤ} {count : ℕ} {last : Corner} {left : ℕ}
    (wrapping : Wrapping s zs₀ hull₀ left₀ zs hull count last left) where
  -- the points left to come
  abbrev cs : List Corner
  cs = corners (take (2 * left) zs)

  counted : length cs ≡ left
  counted = part_count zs left wrapping.fits

  -- there is room for one more corner
  pub wrap-room : 0 < left → 2 * (left₀ + 1) ≤ length hull₀ → 2 * count + 1 < length hull
  wrap-room more room = omega (arith, wrapping.fewer, wrapping.hull_long)

  -- of some points one is the next
  module _ (more : 0 < left) {q : Corner} (is : q ≡ foremost last (corner cs 0) (drop 1 cs)) where
    split : cs ≡ corner cs 0 ∷ drop 1 cs
    split = drop-cons cs 0 origin (omega (arith, counted))

    next-member : Memᴰ q cs
    next-member = rw (split, is) (foremost-member last (corner cs 0) (drop 1 cs))

    pub next-in-range : InRange q
    next-in-range = let (j, known, at) = member-corner next-member in rw at at (wrapping.all_in_range j known)

    one_more : (most : ℕ) → wrap (suc most) s last cs ≡ q ∷ wrap most s q (kept (is_candidate s q) cs)
    unfolding wrap
    one_more most = rw (split, is)

    -- the next corner is left out
    pub wrap-less : {r : ℕ} {after : List ℤ} → KeepsCandidates s q (take (2 * left) zs) r after → r < left
    wrap-less keeps =
        let less = kept-shorter (is_candidate s q) cs q next-member (candidate-self s q) in
        omega (arith, keeps.count, counted)

    pub wrap-next : {r : ℕ} {after : List ℤ} → KeepsCandidates s q (take (2 * left) zs) r after → 2 * count + 1 < length hull
        → Wrapping s zs₀ hull₀ left₀ (after ++ drop (2 * left) zs) (put_corner hull count q) (count + 1) q r
    wrap-next {r} {after} keeps room =
        let part : corners (take (2 * r) (after ++ drop (2 * left) zs)) ≡ kept (is_candidate s q) cs =
        ap corners (take-append-le (2 * r) after (drop (2 * left) zs) (keeps-fits keeps)) ∙ keeps-part keeps in
        record {
          long = simp (length-append, length-drop) (omega (arith, keeps.long, length-take (2 * left) zs, wrapping.long, wrapping.fits));
          hull_long = put-length hull count q ∙ wrapping.hull_long;
          some = omega arith;
          fewer = omega (arith, wrapping.fewer, wrap-less keeps);
          fits = simp length-append (omega (arith, keeps-fits keeps));
          all_in_range = rw part (kept-in-range s q cs wrapping.all_in_range);
          last_in_range = next-in-range;
          found = λ most. (let same : suc most + (count - 1) ≡ most + (count + 1 - 1) = omega (arith, wrapping.some) in
              rw (corners-put hull count q room, part, append_assoc, ← one_more most, ← same) (wrapping.found (suc most)));
        }

  pub wrap-end : left ≤ 0 → 2 * (left₀ + 1) ≤ length hull₀ → length (corners (take (2 * left₀) zs₀)) ≡ left₀
      → Wraps (hull_from s (corners (take (2 * left₀) zs₀))) count hull
  wrap-end none room start-counted =
      let all : (left₀ + 1 - count) + (count - 1) ≡ left₀ = omega (arith, wrapping.some, wrapping.fewer) in
      let hs = hull_from s (corners (take (2 * left₀) zs₀)) in
      let is : corners (take (2 * count) hull) ≡ hs = rw start-counted
      (rw (no-points cs (omega (arith, counted)), wrap-none (left₀ + 1 - count) s last, append-nil, all) at (wrapping.found (left₀ + 1 - count))) in
      record {
        count = sym (part_count hull count (omega (arith, wrapping.fewer, wrapping.hull_long))) ∙ ap length is;
        first = sym (coordinates-corners (take (2 * count) hull) (omega (arith, length-take (2 * count) hull, wrapping.fewer, wrapping.hull_long))) ∙ ap coordinates is;
      }

-- the corners that stand first in a list
module _ {hs : List Corner} {r : ℕ} {l : List ℤ} (wraps : Wraps hs r l) where
  pub wraps-corners : corners (take (2 * r) l) ≡ hs
  wraps-corners = ap corners wraps.first ∙ corners-coordinates hs

  pub wraps-fits : 2 * r ≤ length l
  wraps-fits =
      omega (arith, length-take (2 * r) l, ap length wraps.first, length-coordinates hs, wraps.count)

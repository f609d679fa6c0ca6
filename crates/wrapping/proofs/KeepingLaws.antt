-- The points of a list that pass a test, moved to its beginning in place.
--     Keeping          the invariant: those of the first i points that pass stand first, and from point i on the list is as
--                      it was
--     keep-start       it holds at the start
--     keep-fewer, keep-count    not more pass than there were, and there are as many points
--     keep-point       point i is still the one that it was
--     keep-room        there is room for it after those that pass
--     keep-pass, keep-fail    it goes on with a point that passes, and with one that does not
--     keep-end         at the end all that pass stand first
--     keeps-candidates    so the candidates do, as `keep_candidates` promises
use Prim.Native.Nat.{ℕ, ◌+◌, ◌*◌, ◌/◌, ◌≤◌, ◌<◌}
use native.Mathlib.Numerals.{add-one}
use native.Mathlib.Omega.{arith}
use mathlib.Core.Path.{◌≡◌, refl, sym, ap, ◌∙◌}
use mathlib.Core.Bool.{Bool, true, false, cond}
use mathlib.Core.List.{List, [], ◌∷◌, ◌++◌, append-nil}
use lib.IntN.{ℤ, pos}
use lib.ListN.{length, get_or, take, drop, set, length-append, length-take}
use lib.Seq.{take-suc, take_all, take-set-le, drop-set-lt, drop-drop, get_or-drop}
use Rattle.plane.specs.declared.Corner.{Corner}
use Rattle.plane.specs.Vector.{coordinates}
use Rattle.outline.specs.Corners.{origin, corners, corner}
use Rattle.outline.specs.code.Writing.{put_corner}
use Rattle.outline.proofs.CornersLaws.{length-corners, corners-fit, corner-at}
use Rattle.outline.proofs.WritingLaws.{put-after, put-length}
use Rattle.hull.specs.code.Wrapping.{is_candidate, kept}
use Rattle.hull.proofs.Points.{kept-length}
use Rattle.wrapping.specs.Steps.{KeepsCandidates}

-- of one list after another, and of one point more
kept_append : (test : Corner → Bool) (cs ds : List Corner) → kept test (cs ++ ds) ≡ kept test cs ++ kept test ds
unfolding kept
kept_append test [] ds = refl
kept_append test (c ∷ cs) ds = go (test c) (kept_append test cs ds)
  where
    go : (t : Bool) → kept test (cs ++ ds) ≡ kept test cs ++ kept test ds
        → cond t (c ∷ kept test (cs ++ ds)) (kept test (cs ++ ds)) ≡ cond t (c ∷ kept test cs) (kept test cs) ++ kept test ds
    go true is = ap (λ (r : List Corner). c ∷ r) is
    go false is = is

module _ (test : Corner → Bool) (cs : List Corner) (i : ℕ) (below : i < length cs) where
  kept-pass : test (corner cs i) ≡ true → kept test (take (i + 1) cs) ≡ kept test (take i cs) ++ (corner cs i ∷ [])
  unfolding kept
  kept-pass holds =
      rw (add-one i, take-suc cs i origin below, kept_append test (take i cs) (corner cs i ∷ []), holds)

  kept-fail : test (corner cs i) ≡ false → kept test (take (i + 1) cs) ≡ kept test (take i cs)
  unfolding kept
  kept-fail fails =
      rw (add-one i, take-suc cs i origin below, kept_append test (take i cs) (corner cs i ∷ []), fails, append-nil)

pub record Keeping (test : Corner → Bool) (zs₀ : List ℤ) (i left : ℕ) (zs : List ℤ) : Type 0 where
  pub long : length zs ≡ length zs₀
  pub turn : i ≤ length (corners zs₀)
  pub count : left ≡ length (kept test (take i (corners zs₀)))
  pub first : take (2 * left) zs ≡ coordinates (kept test (take i (corners zs₀)))
  pub rest : drop (2 * i) zs ≡ drop (2 * i) zs₀

pub keep-start : (test : Corner → Bool) (zs : List ℤ) → Keeping test zs 0 0 zs
unfolding kept
keep-start test zs = record { long = refl; turn = omega arith; count = refl; first = refl; rest = refl }

module _ {test : Corner → Bool} {zs₀ : List ℤ} {i left : ℕ} {zs : List ℤ} (keeping : Keeping test zs₀ i left zs) where
  -- not more pass than there were
  pub keep-fewer : left ≤ i
  keep-fewer = omega (arith, keeping.count, kept-length test (take i (corners zs₀)), length-take i (corners zs₀))

  pub keep-count : length (corners zs) ≡ length (corners zs₀)
  keep-count = length-corners zs ∙ ap (λ n. n / 2) keeping.long ∙ sym (length-corners zs₀)

  module _ (below : i < length (corners zs₀)) where
    -- the number at a place from 2 i on
    same_number : (k : ℕ) → get_or zs (2 * i + k) (pos 0) ≡ get_or zs₀ (2 * i + k) (pos 0)
    same_number k =
        sym (get_or-drop (2 * i) zs k (pos 0)) ∙ ap (λ (l : List ℤ). get_or l k (pos 0)) keeping.rest
        ∙ get_or-drop (2 * i) zs₀ k (pos 0)

    pub keep-point : corner (corners zs) i ≡ corner (corners zs₀) i
    keep-point =
        let none : 2 * i + 0 ≡ 2 * i = omega arith in
        let same_x : get_or zs (2 * i) (pos 0) ≡ get_or zs₀ (2 * i) (pos 0) = rw none at (same_number 0) in
        corner-at zs i (omega (arith, keep-count)) ∙ rw (same_x, same_number 1) (sym (corner-at zs₀ i below))

    pub keep-room : 2 * left + 1 < length zs
    keep-room = omega (arith, keep-fewer, keeping.long, corners-fit zs₀)

    -- what is written after those that pass is before the next point
    module _ (z : Corner) where
      abbrev out : List ℤ
      out = put_corner zs left z

      -- two numbers less are left
      next-rest : drop (2 * (i + 1)) zs ≡ drop (2 * (i + 1)) zs₀
      next-rest =
          let two : 2 * (i + 1) ≡ 2 * i + 2 = omega arith in
          rw two (sym (drop-drop 2 (2 * i) zs) ∙ ap (λ (l : List ℤ). drop 2 l) keeping.rest ∙ drop-drop 2 (2 * i) zs₀)

      rest-kept : drop (2 * (i + 1)) out ≡ drop (2 * (i + 1)) zs₀
      rest-kept =
          drop-set-lt (2 * (i + 1)) (set zs (2 * left) z.x) (2 * left + 1) z.y (omega (arith, keep-fewer))
          ∙ drop-set-lt (2 * (i + 1)) zs (2 * left) z.x (omega (arith, keep-fewer)) ∙ next-rest

      first-kept : take (2 * left) out ≡ take (2 * left) zs
      first-kept =
          take-set-le (2 * left) (set zs (2 * left) z.x) (2 * left + 1) z.y (omega arith)
          ∙ take-set-le (2 * left) zs (2 * left) z.x (omega arith)

      module _ (is : z ≡ corner (corners zs₀) i) where
        pub keep-pass : test z ≡ true → Keeping test zs₀ (i + 1) (left + 1) out
        keep-pass holds =
            let more = kept-pass test (corners zs₀) i below (ap test (sym is) ∙ holds) in record {
              long = put-length zs left z ∙ keeping.long;
              turn = omega arith;
              count = rw (more, length-append, ← keeping.count);
              first = rw (more, ← is) (put-after zs (kept test (take i (corners zs₀))) left z keep-room keeping.first);
              rest = rest-kept;
            }

        pub keep-fail : test z ≡ false → Keeping test zs₀ (i + 1) left out
        keep-fail fails =
            let same = kept-fail test (corners zs₀) i below (ap test (sym is) ∙ fails) in record {
              long = put-length zs left z ∙ keeping.long;
              turn = omega arith;
              count = rw same keeping.count;
              first = rw same (first-kept ∙ keeping.first);
              rest = rest-kept;
            }

  pub keep-end : length (corners zs₀) ≤ i
      → (length zs ≡ length zs₀) × ((left ≡ length (kept test (corners zs₀))) × (take (2 * left) zs ≡ coordinates (kept test (corners zs₀))))
  keep-end past =
      let all = take_all i (corners zs₀) past in
      (keeping.long, (rw all at keeping.count, rw all at keeping.first))

-- for the candidates from p
pub keeps-candidates : {s p : Corner} {zs₀ : List ℤ} {i left : ℕ} {zs : List ℤ} → Keeping (is_candidate s p) zs₀ i left zs
    → length (corners zs₀) ≤ i → KeepsCandidates s p zs₀ left zs
keeps-candidates keeping past =
    let (long, (count, first)) = keep-end keeping past in record { long = long; count = count; first = first }

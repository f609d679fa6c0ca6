-- `wrapping::convex_hull` copies the points to a list of its own, and wraps them from the lowest.
use mathlib.Core.List.{[]}
use mathlib.Core.Path.{◌≡◌, refl, sym, ap, ◌∙◌}
use mathlib.Core.List.{List, ◌∷◌, ◌++◌, Memᴰ}
use native.Mathlib.Omega.{arith}
use Prim.Native.Nat.{ℕ, ◌%◌, ◌≤◌, ◌<◌}
use lib.IntN.{ℤ}
use lib.ListN.{length, take, drop, length-take}
use lib.Seq.{take_at, length-take-le}
use Rattle.lists.proofs.FirstByLaws.{first_by-member}
use Rattle.plane.specs.declared.Corner.{Corner}
use Rattle.plane.specs.code.Tests.{is_lower}
use Rattle.outline.specs.Corners.{corners, corner, most}
use Rattle.outline.proofs.CornersLaws.{length-corners}
use Rattle.hull.specs.Call.{filled_up}
use Rattle.hull.specs.code.Wrapping.{lowest, is_candidate, kept, hull_from, convex_hull}
use Rattle.hull.proofs.Filled.{filled-whole}
use Rattle.wrapping.specs.Steps.{Wraps}
use Rattle.wrapping.proofs.convex_hull.Goals as goal

-- the list of its own has the points
copied : (s zs : List ℤ) {filled : List ℤ} → length s ≤ length zs → filled ≡ filled_up (length (take (length s) zs)) s
    → take (length s) (filled ++ drop (length s) zs) ≡ s
copied s zs {filled} room is =
    let same : filled ≡ s = is ∙ filled-whole (length (take (length s) zs)) s (sym (length-take-le (length s) zs room)) in
    take_at filled (drop (length s) zs) (length s) (ap length same) ∙ same

-- the list of its own is long enough
own-room : (s : List ℤ) {n : ℕ} → length s % 2 ≡ 0 → length (corners s) ≤ most → 512 ≡ n → length s ≤ n
own-room s even fits long = omega (arith, length-corners s)

taken-fits : (n : ℕ) (l s : List ℤ) → take n l ≡ s → length s ≤ length l
taken-fits n l s is = omega (arith, length-take n l, ap length is)

-- the lowest is one of the points, and the hull starts there
module _ (cs : List Corner) (some : 0 < length cs) {low : Corner} (is : low ≡ lowest (corner cs 0) (drop 1 cs)) where
  low-member : Memᴰ low cs
  low-member = go cs some is
    where
      go : (cs : List Corner) → 0 < length cs → low ≡ lowest (corner cs 0) (drop 1 cs) → Memᴰ low cs
      go [] some is = absurd (omega arith)
      go (c ∷ cs) some is = rw is (first_by-member is_lower c cs)

  from_low : hull_from low (kept (is_candidate low low) cs) ≡ convex_hull cs
  unfolding convex_hull
  from_low = go cs some is
    where
      go : (cs : List Corner) → 0 < length cs → low ≡ lowest (corner cs 0) (drop 1 cs)
          → hull_from low (kept (is_candidate low low) cs) ≡ convex_hull cs
      go [] some is = absurd (omega arith)
      go (c ∷ cs) some is = rw is

no-points : (cs : List Corner) (hull : List ℤ) → length cs ≡ 0 → Wraps (convex_hull cs) 0 hull
unfolding convex_hull
no-points [] hull none = record { count = refl; first = refl }
no-points (c ∷ cs) hull none = absurd (omega arith)

pub returns-then-length-eq0 : goal.returns-then-length-eq0
returns-then-length-eq0 c = no-points _ _ (omega (arith, length-corners c.args.s.now))

pub slice_bounds-zs-end : goal.slice_bounds-zs-end
slice_bounds-zs-end c =
    own-room _ c.requires.s_len c.requires.s_len_bound c.no_numbers-zs.ensures

pub slice_bounds-fill-end : goal.slice_bounds-fill-end
slice_bounds-fill-end c = sym (length-take-le _ _ (own-room _ c.requires.s_len c.requires.s_len_bound c.no_numbers-zs.ensures))

pub fill-requires : goal.fill-requires
fill-requires c =
    let room = own-room _ c.requires.s_len c.requires.s_len_bound c.no_numbers-zs.ensures in
    omega (arith, length-take-le (length c.args.s.now) c.no_numbers-zs.result room)

pub lowest-requires : goal.lowest-requires
lowest-requires c =
    omega (arith, c.requires.s_len, length-corners c.args.s.now, c.if-length-eq0.false)

pub wrap-requires-clause-fact : goal.wrap-requires-clause-fact
wrap-requires-clause-fact c =
    let s = c.args.s.now in
    let own = own-room _ c.requires.s_len c.requires.s_len_bound c.no_numbers-zs.ensures in
    let some : 0 < length (corners s) = omega (arith, c.requires.s_len, length-corners s, c.if-length-eq0.false) in
    rw (copied _ c.no_numbers-zs.result own c.fill.ensures) (low-member (corners s) some c.lowest.ensures)

pub returns : goal.returns
returns c =
    let s = c.args.s.now in
    let own = own-room _ c.requires.s_len c.requires.s_len_bound c.no_numbers-zs.ensures in
    let some : 0 < length (corners s) = omega (arith, c.requires.s_len, length-corners s, c.if-length-eq0.false) in
    rw (copied _ c.no_numbers-zs.result own c.fill.ensures, from_low (corners s) some c.lowest.ensures) at c.wrap.ensures

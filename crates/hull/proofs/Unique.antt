-- The hull of some points is one list.
--     next-same         two polygons, each in the other's piece, that have a corner in common have the next one too
--     polygons-same     so they have the same corners, if they start at the same one
--     lowest-piece      a polygon's lowest, leftmost corner is the first of its piece, from the lowest on
--     hull-unique       so two hulls of the same points are the same list
--     Among, hull-points    the points matter, not their order nor how often each comes
--     hull-of-outline   an outline from its lowest corner on is the hull of its corners
use Prim.Native.Nat.{ℕ, zero, suc, ◌-◌, ◌≤◌, ◌<◌}
use native.Mathlib.Omega.{arith}
use mathlib.Core.Path.{◌≡◌, sym, ◌∙◌}
use mathlib.Core.Logic.{inl, inr}
use mathlib.Core.List.{List, [], ◌∷◌}
use lib.IntN.{ℤ, pos, negsuc, ◌+ℤ◌, ◌*ℤ◌}
use lib.ListN.{length}
use lib.Seq.{ext_get_or}
use lib.Signed.{◌≤ℤ◌, ◌<ℤ◌}
use Rattle.integers.proofs.Order.{<ℤ-≤ℤ, <ℤ-sub, ≤ℤ-antisym}
use Rattle.integers.proofs.Polynomial.{var, lit, ⊝◌, ◌⊕◌, ◌⊖◌, ◌⊗◌}
use Rattle.integers.proofs.Certificate.{◌≺◌, ◌≼◌, ◌≗◌, hyp, sq, eqn, ◌⊞◌, ◌⊠◌, prove}
use Rattle.plane.specs.declared.Corner.{Corner}
use Rattle.plane.specs.declared.Vector.{Vector}
use Rattle.plane.specs.Height.{NotAfter}
use Rattle.plane.specs.Point.{whole}
use Rattle.plane.specs.Vector.{◌⇀◌, cross, dot, side, coordinates}
use Rattle.plane.proofs.Algebra.{O, vec, cross_e, dot_e, ◌⇀E◌, side_e, components, cross-back, side-end, dot-swap, apart-0}
use Rattle.plane.proofs.Height.{not-after-both, level-falls, lowest-between}
use Rattle.outline.specs.Convex.{StrictlyConvex, Accepted}
use Rattle.outline.specs.Corners.{origin, corner, next, previous, edge, fewest}
use Rattle.outline.specs.code.Polygon.{Polygon}
use Rattle.outline.proofs.CornersLaws.{next-suc, next_last, next-below, next-previous, previous-below}
use Rattle.outline.proofs.EdgeLaws.{accepted-polygon, corner-number, length-above-0}
use Rattle.nearest.specs.Piece.{InPiece}
use Rattle.nearest.proofs.PieceLaws.{whole-in-piece}
use Rattle.nearest.proofs.Support.{corner-in-piece, turns-left, turns-on}
use Rattle.hull.specs.Hull.{HoldsPoints, IsHull}
use Rattle.hull.proofs.HullLaws.{piece_inside}

-- ---- a point of the piece in the line of an edge a: its vector b from the edge's start
-- e is the edge before, and the point is not right of it
not_back : (e a b : Vector) → pos 0 <ℤ cross e a → pos 0 ≤ℤ cross e b → cross a b ≡ pos 0 → pos 0 ≤ℤ dot a b
unfolding cross dot
not_back e a b =
    let e' = vec 0 in let a' = vec 2 in let b' = vec 4 in
    prove (components (e ∷ a ∷ b ∷ [])) (O ≺ cross_e e' a' ∷ O ≼ cross_e e' b' ∷ cross_e a' b' ≗ O ∷ []) (O ≼ dot_e a' b')
    (hyp 0 ⊠ hyp 1 ⊞ hyp 2 ⊠ sq a'.x ⊞ hyp 2 ⊠ sq a'.y ⊞ eqn 3 (dot_e e' a')) tt

-- f is the edge after, and the point is not right of it
not-past : (a f b : Vector) → pos 0 <ℤ cross a f → cross f a ≤ℤ cross f b → cross a b ≡ pos 0 → dot a b ≤ℤ dot a a
unfolding cross dot
not-past a f b =
    let a' = vec 0 in let f' = vec 2 in let b' = vec 4 in
    prove (components (a ∷ f ∷ b ∷ [])) (O ≺ cross_e a' f' ∷ cross_e f' a' ≼ cross_e f' b' ∷ cross_e a' b' ≗ O ∷ [])
    (dot_e a' b' ≼ dot_e a' a')
    (hyp 0 ⊠ hyp 1 ⊞ hyp 2 ⊠ sq a'.x ⊞ hyp 2 ⊠ sq a'.y ⊞ eqn 3 (dot_e a' f')) tt

-- a side number from another start
side-from : (p q r v : Corner) → pos 0 ≤ℤ side q r v → cross (q ⇀ r) (p ⇀ q) ≤ℤ cross (q ⇀ r) (p ⇀ v)
unfolding cross ◌⇀◌
side-from p q r v =
    let p' = vec 0 in let q' = vec 2 in let r' = vec 4 in let v' = vec 6 in let f = q' ⇀E r' in
    prove (coordinates (p ∷ q ∷ r ∷ v ∷ [])) (O ≼ side_e q' r' v' ∷ []) (cross_e f (p' ⇀E q') ≼ cross_e f (p' ⇀E v'))
    (hyp 0 ⊞ hyp 1) tt

-- it lies between the ends of the edge
record OnEdge (a b : Vector) : Type 0 where
  pub ahead : pos 0 ≤ℤ dot a b
  pub within : dot a b ≤ℤ dot a a

module _ {cs : List Corner} (polygon : Polygon cs) (i : ℕ) (below : i < length cs) (v : Corner)
    (inside : InPiece cs (whole v)) where
  abbrev n : ℕ
  n = length cs

  abbrev right_of_none : (e : ℕ) → e < n → pos 0 ≤ℤ side (corner cs e) (corner cs (next n e)) v
  right_of_none = (whole-in-piece cs v).0 inside

  on_edge : cross (edge cs i) (corner cs i ⇀ v) ≡ pos 0 → OnEdge (edge cs i) (corner cs i ⇀ v)
  on_edge line =
      let p = corner cs i in let into = next-previous n i below in let o = corner cs (previous n i) in record {
        ahead = not_back (o ⇀ p) (edge cs i) (p ⇀ v) (turns-left polygon i below)
            (rw (into, side-end o p v) at (right_of_none (previous n i) (previous-below n i below))) line;
        within = not-past (edge cs i) (edge cs (next n i)) (p ⇀ v) (turns-on polygon i below)
            (side-from p (corner cs (next n i)) (corner cs (next n (next n i))) v
            (right_of_none (next n i) (next-below n i (omega arith)))) line;
      }

-- ---- two vectors in one line, neither longer than the other
-- t is their dot product, and A and B are their squared lengths
module _ (A B t : ℤ) (a-some : pos 0 <ℤ A) (b-some : pos 0 <ℤ B) (ahead : pos 0 ≤ℤ t) (within_a : t ≤ℤ A) (within_b : t ≤ℤ B)
    (line : t *ℤ t ≡ A *ℤ B) where
  some : pos 0 <ℤ t
  some =
      prove (A ∷ B ∷ t ∷ []) (O ≺ var 0 ∷ O ≺ var 1 ∷ O ≼ var 2 ∷ var 2 ⊗ var 2 ≗ var 0 ⊗ var 1 ∷ []) (O ≺ var 2)
      (hyp 1 ⊠ hyp 2 ⊞ hyp 0 ⊠ hyp 3 ⊞ eqn 4 (lit (negsuc 0))) tt a-some b-some ahead line

  no_longer : (A +ℤ B) ≤ℤ (t +ℤ t)
  no_longer =
      prove (A ∷ B ∷ t ∷ []) (O ≺ var 2 ∷ var 2 ≼ var 0 ∷ var 2 ≼ var 1 ∷ var 2 ⊗ var 2 ≗ var 0 ⊗ var 1 ∷ [])
      (var 0 ⊕ var 1 ≼ var 2 ⊕ var 2) (hyp 0 ⊠ hyp 1 ⊞ hyp 2 ⊠ hyp 3 ⊞ eqn 4 (lit (negsuc 0))) tt some within_a within_b line

line-squares : (a b : Vector) → cross a b ≡ pos 0 → dot a b *ℤ dot a b ≡ dot a a *ℤ dot b b
unfolding cross dot
line-squares a b =
    let a' = vec 0 in let b' = vec 2 in
    prove (components (a ∷ b ∷ [])) (cross_e a' b' ≗ O ∷ []) (dot_e a' b' ⊗ dot_e a' b' ≗ dot_e a' a' ⊗ dot_e b' b')
    (hyp 0 ⊞ eqn 1 (⊝ cross_e a' b')) tt

-- so their ends are the same
module _ (p q r : Corner) where
  apart : (dot (p ⇀ q) (p ⇀ q) +ℤ dot (p ⇀ r) (p ⇀ r)) ≤ℤ (dot (p ⇀ q) (p ⇀ r) +ℤ dot (p ⇀ q) (p ⇀ r))
      → dot (q ⇀ r) (q ⇀ r) ≤ℤ pos 0
  unfolding dot ◌⇀◌
  apart =
      let p' = vec 0 in let q' = vec 2 in let r' = vec 4 in let a = p' ⇀E q' in let b = p' ⇀E r' in let c = q' ⇀E r' in
      prove (coordinates (p ∷ q ∷ r ∷ [])) (dot_e a a ⊕ dot_e b b ≼ dot_e a b ⊕ dot_e a b ∷ []) (dot_e c c ≼ O) (hyp 0 ⊞ hyp 1) tt

  in-one-line : pos 0 ≤ℤ side p q r → pos 0 ≤ℤ side p r q → cross (p ⇀ q) (p ⇀ r) ≡ pos 0
  in-one-line left right = ≤ℤ-antisym (back right) left
    where
      back : pos 0 ≤ℤ side p r q → side p q r ≤ℤ pos 0
      back = (cross-back (p ⇀ r) (p ⇀ q)).0

  same_end : pos 0 <ℤ dot (p ⇀ q) (p ⇀ q) → pos 0 <ℤ dot (p ⇀ r) (p ⇀ r) → cross (p ⇀ q) (p ⇀ r) ≡ pos 0
      → OnEdge (p ⇀ q) (p ⇀ r) → OnEdge (p ⇀ r) (p ⇀ q) → q ≡ r
  same_end q-some r_some line r-on q-on =
      apart-0 q r (apart (no_longer _ _ _ q-some r_some r-on.ahead r-on.within
      (rw (dot-swap (p ⇀ r) (p ⇀ q)) at q-on.within) (line-squares (p ⇀ q) (p ⇀ r) line)))

-- ---- two polygons, each in the other's piece
module _ {cs ds : List Corner} (one : Polygon cs) (two : Polygon ds) (in-ds : HoldsPoints ds cs) (in-cs : HoldsPoints cs ds) where
  -- the ends of the two edges are in each other's lines, and on each other's edges
  pub next-same : (i j : ℕ) → i < length cs → j < length ds → corner cs i ≡ corner ds j
      → corner cs (next (length cs) i) ≡ corner ds (next (length ds) j)
  next-same i j i-below j-below same =
      let p = corner cs i in let q = corner cs (next (length cs) i) in let r = corner ds (next (length ds) j) in
      let q-in : InPiece ds (whole q) = in-ds (next (length cs) i) (next-below (length cs) i (omega arith)) in
      let r-in : InPiece cs (whole r) = in-cs (next (length ds) j) (next-below (length ds) j (omega arith)) in
      let line : cross (p ⇀ q) (p ⇀ r) ≡ pos 0 = in-one-line p q r ((whole-in-piece cs r).0 r-in i i-below)
      (rw (← same) at ((whole-in-piece ds q).0 q-in j j-below)) in
      let back : cross (p ⇀ r) (p ⇀ q) ≡ pos 0 = in-one-line p r q
      (rw (← same) at ((whole-in-piece ds q).0 q-in j j-below)) ((whole-in-piece cs r).0 r-in i i-below) in
      same_end p q r (length-above-0 one i i-below) (rw (← same) at (length-above-0 two j j-below)) line
      (on_edge one i i-below r r-in line)
      (rw (← same) at (on_edge two j j-below q q-in (rw same at back)))

  module _ (start : corner cs 0 ≡ corner ds 0) where
    corners-same : (i : ℕ) → i < length cs → i < length ds → corner cs i ≡ corner ds i
    corners-same zero i-below j-below = start
    corners-same (suc i) i-below j-below =
        rw (next-suc (length cs) i i-below, next-suc (length ds) i j-below) at
        (next-same i i (omega arith) (omega arith) (corners-same i (omega arith) (omega arith)))

    -- after its last corner cs is at corner 0 again, and ds at no corner twice
    not-shorter : ¬ (length cs < length ds)
    not-shorter less =
        let n = length cs in let three = one.at_least in
        let last : suc (n - 1) ≡ n = omega arith in
        let again = rw (next_last n (n - 1) (omega arith), next-suc (length ds) (n - 1) (omega arith)) at
        (next-same (n - 1) (n - 1) (omega arith) (omega arith) (corners-same (n - 1) (omega arith) (omega arith))) in
        let twice = corner-number two 0 (suc (n - 1)) (omega arith) (omega arith) (sym start ∙ again) in
        absurd (omega arith)

pub polygons-same : {cs ds : List Corner} → Polygon cs → Polygon ds → HoldsPoints ds cs → HoldsPoints cs ds
    → corner cs 0 ≡ corner ds 0 → cs ≡ ds
polygons-same {cs} {ds} one two in-ds in-cs start =
    let not_less = not-shorter one two in-ds in-cs start in let not_more = not-shorter two one in-cs in-ds (sym start) in
    let long : length cs ≡ length ds = omega arith in
    ext_get_or origin cs ds long (λ i below. corners-same one two in-ds in-cs start i below (omega arith))

-- ---- the lowest, leftmost corner
not_lower : (p q : Corner) → NotAfter p q → pos 0 ≤ℤ (p ⇀ q).y
unfolding ◌⇀◌
not_lower p q (inl up) = <ℤ-≤ℤ (<ℤ-sub up)
not_lower p q (inr (level, _)) =
    prove (p.y ∷ q.y ∷ []) (var 0 ≗ var 1 ∷ []) (O ≼ var 1 ⊖ var 0) (hyp 0 ⊞ eqn 1 (lit (pos 1))) tt level

-- the edge from o to p, and then f
falls : (o p : Corner) (f : Vector) → pos 0 <ℤ cross (o ⇀ p) f → pos 0 ≤ℤ f.y → NotAfter p o → (o ⇀ p).y <ℤ pos 0
unfolding ◌⇀◌
falls o p f turn up (inl down) = prove (o.y ∷ p.y ∷ []) (var 1 ≺ var 0 ∷ []) (var 1 ⊖ var 0 ≺ O) (hyp 0 ⊞ hyp 1) tt down
falls o p f turn up (inr (level, left)) =
    level-falls (o ⇀ p) f turn up
    (prove (o.y ∷ p.y ∷ []) (var 1 ≗ var 0 ∷ []) (var 1 ⊖ var 0 ≗ O) (hyp 0 ⊞ eqn 1 (lit (pos 1))) tt level)
    (prove (o.x ∷ p.x ∷ []) (var 1 ≼ var 0 ∷ []) (var 1 ⊖ var 0 ≼ O) (hyp 0 ⊞ hyp 1) tt left)

-- the edge into it falls, and the edge out of it does not
pub lowest-piece : {cs : List Corner} → Polygon cs → ((i : ℕ) → i < length cs → NotAfter (corner cs 0) (corner cs i))
    → (v : Corner) → InPiece cs (whole v) → NotAfter (corner cs 0) v
lowest-piece {cs} polygon lowest v inside =
    let n = length cs in let three = polygon.at_least in
    let some : 0 < n = omega arith in
    let w = previous n 0 in let known = previous-below n 0 some in
    let into = next-previous n 0 some in
    let o = corner cs w in let p = corner cs 0 in let q = corner cs (next n 0) in
    let turn : pos 0 <ℤ cross (o ⇀ p) (p ⇀ q) = turns-left polygon 0 some in
    let up : pos 0 ≤ℤ (p ⇀ q).y = not_lower p q (lowest (next n 0) (next-below n 0 some)) in
    lowest-between o p q v turn (falls o p (p ⇀ q) turn up (lowest w known)) up
    (rw into at ((whole-in-piece cs v).0 inside w known)) ((whole-in-piece cs v).0 inside 0 some)

-- ---- hulls
module _ {ps hs : List Corner} (hull : IsHull ps hs) where
  -- each piece that holds the points holds the corners
  hull-inside : (gs : List Corner) → StrictlyConvex gs → HoldsPoints gs ps → HoldsPoints gs hs
  hull-inside gs convex holds i below =
      hull.smallest gs convex holds (whole (corner hs i)) (corner-in-piece (accepted-polygon hull.accepted) i below)

  -- so the hull starts at the first of the points of any hull, from the lowest on
  start_first : (gs : List Corner) → HoldsPoints hs gs → fewest ≤ length gs → NotAfter (corner hs 0) (corner gs 0)
  start_first gs inside enough =
      lowest-piece (accepted-polygon hull.accepted) hull.starts (corner gs 0) (inside 0 (omega arith))

pub hull-unique : {ps hs gs : List Corner} → IsHull ps hs → IsHull ps gs → hs ≡ gs
hull-unique {hs} {gs} one two =
    let hs-in = hull-inside one gs two.accepted.convex two.holds in
    let gs_in = hull-inside two hs one.accepted.convex one.holds in
    polygons-same (accepted-polygon one.accepted) (accepted-polygon two.accepted) hs-in gs_in
    (not-after-both _ _ (start_first one gs gs_in two.accepted.at_least) (start_first two hs hs-in one.accepted.at_least))

-- each point of ps is one of qs
abbrev pub Among : List Corner → List Corner → Type 0
Among ps qs = (i : ℕ) → i < length ps → (j : ℕ) × (j < length qs) × (corner qs j ≡ corner ps i)

-- what holds some points holds points that are among them
holds-among : (ps qs cs : List Corner) → Among ps qs → HoldsPoints cs qs → HoldsPoints cs ps
holds-among ps qs cs among holds i below = let (j, known, is) = among i below in rw is at (holds j known)

-- the hull goes by the points, not by their order nor by how often each comes
pub hull-points : {ps hs : List Corner} (qs : List Corner) → Among ps qs → Among qs ps → IsHull ps hs → IsHull qs hs
hull-points {ps} {hs} qs ps-among qs-among hull = record {
  accepted = hull.accepted;
  holds = holds-among qs ps hs qs-among hull.holds;
  smallest = λ gs convex holds. hull.smallest gs convex (holds-among ps qs gs ps-among holds);
  starts = hull.starts;
}

-- an outline from its lowest, leftmost corner on is the hull of its corners
pub hull-of-outline : {hs : List Corner} → Accepted hs
    → ((i : ℕ) → i < length hs → NotAfter (corner hs 0) (corner hs i)) → IsHull hs hs
hull-of-outline ok lowest = record {
  accepted = ok;
  holds = corner-in-piece (accepted-polygon ok);
  smallest = λ qs convex. piece_inside (accepted-polygon ok) qs;
  starts = lowest;
}

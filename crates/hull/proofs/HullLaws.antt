-- The convex hull, as it is computed.
--     hull-members, hull-point    every corner is one of the points, and so has the number of a point
--     hull-length           so there are not more
--     hull-convex           they are strictly convex
--     hull-covers           where they are right of no line, neither are the points
--     hull-starts           the first is the lowest, of several the leftmost
--     hull-short-iff        there are fewer than three exactly where all points lie in one line
--     InHalfPlane           a x + b y is at most c at a point
--     piece-half-plane      every half plane with whole coefficients that holds the corners of a polygon holds its piece
--     piece_inside          so a piece that holds the corners of a polygon holds its piece
-- Of points that do not lie in one line:
--     hull-polygon          the corners are a polygon
--     hull-holds            its piece holds the points
--     hull-half-plane, hull-smallest    a half plane, and a piece, that holds the points holds all of it
--     hull-is               so they are the hull of the points, if those are in range and not more than 256
use Prim.Native.Nat.{ℕ, ◌≤◌, ◌<◌}
use native.Mathlib.Decide.{dec_lt}
use native.Mathlib.Omega.{arith}
use mathlib.Core.Path.{◌≡◌, refl, sym, ap, ◌∙◌}
use mathlib.Core.Logic.{◌↔◌, ◌≢◌, ◌⊎◌, inl, inr, ⊎_elim}
use mathlib.Core.Bool.{Bool, true, false}
use mathlib.Core.List.Memᴰ
use mathlib.Core.List.{List, [], ◌∷◌, Memᴰ}
use lib.IntN.{ℤ, pos, negsuc, neg_ℤ, ◌+ℤ◌, ◌-ℤ◌, ◌*ℤ◌}
use lib.ListN.{length}
use lib.Signed.{◌≤ℤ◌, ◌<ℤ◌, ≤ℤ_refl, <ℤ_irrefl}
use Rattle.integers.proofs.Order.{<ℤ-sub, <ℤ-lt_z, ≰ℤ-<ℤ, ≤ℤ-antisym}
use Rattle.integers.proofs.Polynomial.{var, lit, ⊝◌, ◌⊕◌, ◌⊖◌, ◌⊗◌}
use Rattle.integers.proofs.Certificate.{◌≺◌, ◌≼◌, ◌≗◌, hyp, num, eqn, ◌⊞◌, ◌⊠◌, prove, refute}
use Rattle.integers.proofs.Reflect.{test-false, test-stable}
use Rattle.lists.proofs.FirstByLaws.{first_by-member, first_by-first}
use Rattle.plane.specs.declared.Corner.{Corner}
use Rattle.plane.specs.declared.Point.{Point}
use Rattle.plane.specs.declared.Vector.{Vector}
use Rattle.plane.specs.Direction.{is_first_half}
use Rattle.plane.specs.Height.{NotAfter}
use Rattle.plane.specs.Point.{whole, ◌⇢◌}
use Rattle.plane.specs.Vector.{◌⇀◌, cross, dot, side, coordinates}
use Rattle.plane.specs.code.Tests.{same, is_lower}
use Rattle.plane.proofs.Algebra.{O, vec, cross_e, dot_e, ◌⇀E◌, side_e, components, side-start, side-stop, distinct-length}
use Rattle.plane.proofs.Height.{not-after-refl, not-after-trans, lower-test}
use Rattle.plane.proofs.Tests.{same_true}
use Rattle.outline.specs.Convex.{AllInRange, StrictlyConvex}
use Rattle.outline.specs.Corners.{origin, corner, next, fewest, most}
use Rattle.outline.specs.code.Polygon.{Polygon}
use Rattle.outline.proofs.LeftTurns.{convex-turns}
use Rattle.nearest.specs.Piece.{InPiece}
use Rattle.nearest.proofs.PieceLaws.{whole-in-piece}
use Rattle.nearest.proofs.Support.{not_right, support}
use Rattle.hull.specs.Call.{InLine}
use Rattle.hull.specs.Hull.{HoldsPoints, IsHull}
use Rattle.hull.specs.code.Wrapping.{lowest, is_candidate, kept, convex_hull}
use Rattle.hull.proofs.Points.{corner-member, member-corner, kept-member, member-kept, kept-shorter}
use Rattle.hull.proofs.Wrapping.{candidate-self, candidate-first, wrap-members, wrap-length, First, wrap-convex, wrap-covers}

-- ---- the points seen from the lowest, of several the leftmost
-- one that comes after it is in the first half turn
after-half : (s z : Corner) → NotAfter s z → s ≢ z → is_first_half (s ⇀ z) ≡ true
unfolding is_first_half ◌⇀◌
after-half s z (inl up) other = rw (<ℤ-lt_z (<ℤ-sub up))
after-half s z (inr (level, right)) other = rw (flat, <ℤ-lt_z (<ℤ-sub to-right))
  where
    flat : z.y -ℤ s.y ≡ pos 0
    flat = prove (z.y ∷ s.y ∷ []) (var 1 ≗ var 0 ∷ []) (var 0 ⊖ var 1 ≗ O) (hyp 0 ⊞ eqn 1 (lit (negsuc 0))) tt level

    to-right : s.x <ℤ z.x
    to-right = ≰ℤ-<ℤ (λ not. other (λ t. record { x = ≤ℤ-antisym right not t; y = level t }))

module _ (p : Corner) (ps : List Corner) where
  abbrev s : Corner
  s = lowest p ps

  -- the candidates from it
  abbrev zs : List Corner
  zs = kept (is_candidate s s) (p ∷ ps)

  start-member : Memᴰ s (p ∷ ps)
  start-member = first_by-member is_lower p ps

  start_first : (z : Corner) → Memᴰ z (p ∷ ps) → NotAfter s z
  start_first =
      first_by-first is_lower (λ _. Unit {0}) NotAfter not-after-refl lower-test (λ a b c _ _ _. not-after-trans a b c)
      p ps (λ _ _. tt)

  firsts : (w : Corner) → Memᴰ w zs → First s w
  firsts w there =
      let (among, holds) = kept-member (is_candidate s s) (p ∷ ps) w there in
      let other = (candidate-first s w).0 holds in
      record { other = other; half = after-half s w (start_first w among) other }

  fewer : length zs ≤ length ps
  fewer = let less = kept-shorter (is_candidate s s) (p ∷ ps) s start-member (candidate-self s s) in omega arith

-- ---- of any points
pub hull-members : (ps : List Corner) (h : Corner) → Memᴰ h (convex_hull ps) → Memᴰ h ps
unfolding convex_hull
hull-members [] h there = there
hull-members (p ∷ ps) h there = elim (Memᴰ.cases_cons there) [
  | inl is ↦ Memᴰ.cast is (start-member p ps)
  | inr later ↦ (kept-member (is_candidate (s p ps) (s p ps)) (p ∷ ps) h
      (wrap-members (s p ps) (length (zs p ps)) (s p ps) (zs p ps) h later)).0
]

pub hull-length : (ps : List Corner) → length (convex_hull ps) ≤ length ps
unfolding convex_hull
hull-length [] = omega arith
hull-length (p ∷ ps) = omega (arith, wrap-length (s p ps) (length (zs p ps)) (s p ps) (zs p ps), fewer p ps)

pub hull-convex : (ps : List Corner) → StrictlyConvex (convex_hull ps)
unfolding convex_hull
hull-convex [] = λ e c known. absurd (omega arith)
hull-convex (p ∷ ps) = wrap-convex (length (zs p ps)) (s p ps) (zs p ps) (firsts p ps)

pub hull-covers : (o r : Corner) (ps : List Corner) → ((h : Corner) → Memᴰ h (convex_hull ps) → pos 0 ≤ℤ side o r h)
    → (w : Corner) → Memᴰ w ps → pos 0 ≤ℤ side o r w
unfolding convex_hull
hull-covers o r [] over w there = absurd (Memᴰ.not-nil there)
hull-covers o r (p ∷ ps) over w there = go (is_candidate start start w) refl
  where
    start : Corner
    start = s p ps

    over-start : pos 0 ≤ℤ side o r start
    over-start = over start (Memᴰ.head refl)

    -- another point is a candidate
    go : (t : Bool) → is_candidate start start w ≡ t → pos 0 ≤ℤ side o r w
    go true holds = wrap-covers o r start over-start (length (zs p ps)) (zs p ps) (omega arith) (firsts p ps)
        (λ h later. over h (Memᴰ.tail later)) w (member-kept (is_candidate start start) (p ∷ ps) w there holds)
    go false fails =
        let is = test-stable (same start w) (same_true start w) ((test-false _ (candidate-first start w)).0 fails) in
        rw is at over-start

hull-start : (p : Corner) (ps : List Corner) → corner (convex_hull (p ∷ ps)) 0 ≡ s p ps
unfolding convex_hull
hull-start p ps = refl

pub hull-starts : (ps : List Corner) (i : ℕ) → i < length (convex_hull ps)
    → NotAfter (corner (convex_hull ps) 0) (corner (convex_hull ps) i)
hull-starts [] i below = absurd (omega (arith, hull-length []))
hull-starts (p ∷ ps) i below = rw (hull-start p ps)
    (start_first p ps _ (hull-members (p ∷ ps) _ (corner-member (convex_hull (p ∷ ps)) i below)))

-- ---- points in one line
-- two vectors in the line of a third are in one line
in-line : (u a b : Vector) → pos 0 <ℤ dot u u → cross u a ≡ pos 0 → cross u b ≡ pos 0 → cross a b ≡ pos 0
unfolding cross dot
in-line u a b =
    let u' = vec 0 in let a' = vec 2 in let b' = vec 4 in
    prove (components (u ∷ a ∷ b ∷ [])) (O ≺ dot_e u' u' ∷ cross_e u' a' ≗ O ∷ cross_e u' b' ≗ O ∷ []) (cross_e a' b' ≗ O)
    (hyp 0 ⊠ hyp 1 ⊞ eqn 2 (⊝ dot_e u' b') ⊞ eqn 3 (dot_e u' a')) tt

-- from one point of a line to another
along : (o r z w : Corner) → side o r z ≡ pos 0 → side o r w ≡ pos 0 → cross (o ⇀ r) (z ⇀ w) ≡ pos 0
unfolding cross ◌⇀◌
along o r z w =
    let o' = vec 0 in let r' = vec 2 in let z' = vec 4 in let w' = vec 6 in
    prove (coordinates (o ∷ r ∷ z ∷ w ∷ [])) (side_e o' r' z' ≗ O ∷ side_e o' r' w' ≗ O ∷ [])
    (cross_e (o' ⇀E r') (z' ⇀E w') ≗ O) (hyp 0 ⊞ eqn 1 (lit (negsuc 0)) ⊞ eqn 2 (lit (pos 1))) tt

-- the line the other way round
side-turned : (o r z : Corner) → side o r z ≡ pos 0 → pos 0 ≤ℤ side r o z
unfolding cross ◌⇀◌
side-turned o r z =
    let o' = vec 0 in let r' = vec 2 in let z' = vec 4 in
    prove (coordinates (o ∷ r ∷ z ∷ [])) (side_e o' r' z' ≗ O ∷ []) (O ≼ side_e r' o' z') (hyp 0 ⊞ eqn 1 (lit (pos 1))) tt

not-right-back : (o r z : Corner) → pos 0 ≤ℤ side r o z → side o r z ≤ℤ pos 0
unfolding cross ◌⇀◌
not-right-back o r z =
    let o' = vec 0 in let r' = vec 2 in let z' = vec 4 in
    prove (coordinates (o ∷ r ∷ z ∷ [])) (O ≼ side_e r' o' z' ∷ []) (side_e o' r' z' ≼ O) (hyp 0 ⊞ hyp 1) tt

-- where the corners lie in the line from o to r, so do the points
hull-line : (o r : Corner) → o ≢ r → (ps : List Corner)
    → ((h : Corner) → Memᴰ h (convex_hull ps) → side o r h ≡ pos 0) → InLine ps
hull-line o r other ps corners-on i j k i-below j-below k-below =
    in-line (o ⇀ r) (corner ps i ⇀ corner ps j) (corner ps i ⇀ corner ps k) (distinct-length o r other)
    (along o r _ _ (on i i-below) (on j j-below)) (along o r _ _ (on i i-below) (on k k-below))
  where
    on : (i : ℕ) → i < length ps → side o r (corner ps i) ≡ pos 0
    on i below =
        let there = corner-member ps i below in
        ≤ℤ-antisym
        (not-right-back o r _ (hull-covers r o ps (λ h among. side-turned o r h (corners-on h among)) _ there))
        (hull-covers o r ps (λ h among. rw (corners-on h among) (≤ℤ_refl (pos 0))) _ there)

-- each corner is a point
pub hull-point : (ps : List Corner) (i : ℕ) → i < length (convex_hull ps)
    → (j : ℕ) × (j < length ps) × (corner ps j ≡ corner (convex_hull ps) i)
hull-point ps i below = member-corner (hull-members ps _ (corner-member (convex_hull ps) i below))

-- where there are at most two corners, all points lie in one line
module _ (ps : List Corner) where
  -- the corners are all at h: a line through h and another point
  one-corner : (h : Corner) → ((w : Corner) → Memᴰ w (convex_hull ps) → w ≡ h) → InLine ps
  one-corner h all = hull-line h beside other ps (λ w among. rw (all w among) (side-start h beside))
    where
      beside : Corner
      beside = record { x = h.x +ℤ pos 1; y = h.y }

      other : h ≢ beside
      other is =
          refute (h.x ∷ []) (var 0 ≗ var 0 ⊕ lit (pos 1) ∷ []) (num 0 ⊞ eqn 0 (lit (negsuc 0))) tt
          (ap (λ (r : Corner). r.x) is)

  two-corners : (h g : Corner) → ((w : Corner) → Memᴰ w (convex_hull ps) → (w ≡ h) ⊎ (w ≡ g)) → InLine ps
  two-corners h g all = go (same h g) refl
    where
      go : (t : Bool) → same h g ≡ t → InLine ps
      go true is = one-corner h (λ w among. ⊎_elim (λ e. e) (λ e. e ∙ sym ((same_true h g).0 is)) (all w among))
      go false not = hull-line h g ((test-false (same h g) (same_true h g)).0 not) ps
          (λ w among. elim (all w among) [ inl e ↦ rw e (side-start h g) | inr e ↦ rw e (side-stop h g) ])

  few-corners : (hs : List Corner) → convex_hull ps ≡ hs → length hs < fewest → InLine ps
  few-corners [] is few = one-corner origin (λ w among. absurd (Memᴰ.not-nil (rw is at among)))
  few-corners (h ∷ []) is few = one-corner h (λ w among. Memᴰ.eq_of_singleton (rw is at among))
  few-corners (h ∷ (g ∷ [])) is few = two-corners h g (λ w among.
      ⊎_elim inl (λ later. inr (Memᴰ.eq_of_singleton later)) (Memᴰ.cases_cons (rw is at among)))
  few-corners (h ∷ (g ∷ (f ∷ more))) is few = absurd (omega arith)

  -- three corners turn left, and each is one of the points
  line-few : InLine ps → length (convex_hull ps) < fewest
  line-few line = elim (dec_lt (length (convex_hull ps)) fewest) [
    | yes few ↦ few
    | no not ↦
        let hs = convex_hull ps in
        let (i, i-below, i-is) = hull-point ps 0 (omega arith) in
        let (j, j-below, j-is) = hull-point ps 1 (omega arith) in
        let (k, k-below, k-is) = hull-point ps 2 (omega arith) in
        absurd (<ℤ_irrefl (rw (← i-is, ← j-is, ← k-is, line i j k i-below j-below k-below) at
        (convex-turns hs (hull-convex ps) 0 1 2 (omega arith) (omega arith) (omega arith))))
  ]

pub hull-short-iff : (ps : List Corner) → (length (convex_hull ps) < fewest) ↔ InLine ps
hull-short-iff ps = (few-corners ps (convex_hull ps) refl, line-few ps)

-- ---- half planes
-- a x + b y is at most c, at the point X/D, Y/D
abbrev pub InHalfPlane : ℤ → ℤ → ℤ → Point → Type 0
InHalfPlane a b c z = (a *ℤ z.x +ℤ b *ℤ z.y) ≤ℤ (c *ℤ pos z.lower)

-- in the direction (a, b) no point of the piece lies farther than some corner
pub piece-half-plane : {cs : List Corner} → Polygon cs → (a b c : ℤ)
    → ((i : ℕ) → i < length cs → InHalfPlane a b c (whole (corner cs i))) → (z : Point) → InPiece cs z → InHalfPlane a b c z
unfolding dot ◌⇢◌
piece-half-plane {cs} polygon a b c corners-in z inside =
    let (w, below, far) = support polygon (record { x = a; y = b }) in
    let v = corner cs w in
    let a' = var 0 in let b' = var 1 in let c' = var 2 in let d' = var 7 in
    prove (a ∷ b ∷ c ∷ v.x ∷ v.y ∷ z.x ∷ z.y ∷ pos z.lower ∷ [])
    (a' ⊗ var 3 ⊕ b' ⊗ var 4 ≼ c' ⊗ lit (pos 1) ∷ O ≺ d'
    ∷ a' ⊗ (var 5 ⊗ lit (pos 1) ⊖ var 3 ⊗ d') ⊕ b' ⊗ (var 6 ⊗ lit (pos 1) ⊖ var 4 ⊗ d') ≼ O ∷ [])
    (a' ⊗ var 5 ⊕ b' ⊗ var 6 ≼ c' ⊗ d')
    (hyp 0 ⊞ hyp 1 ⊠ hyp 2 ⊞ hyp 3) tt (corners-in w below) inside.proper (far z inside)

-- the points that are not right of a line are those of a half plane
module _ (o r : Corner) where
  abbrev across : ℤ
  across = (o ⇀ r).y

  abbrev up : ℤ
  up = neg_ℤ (o ⇀ r).x

  abbrev limit : ℤ
  limit = (o ⇀ r).y *ℤ o.x -ℤ (o ⇀ r).x *ℤ o.y

  line-half-plane : (z : Point) → (pos 0 ≤ℤ cross (o ⇀ r) (whole o ⇢ z)) ↔ InHalfPlane across up limit z
  unfolding cross ◌⇢◌
  line-half-plane z =
      let e = vec 0 in let ox = var 2 in let oy = var 3 in let zx = var 4 in let zy = var 5 in let d = var 6 in
      let one = lit (pos 1) in
      let env : List ℤ = (o ⇀ r).x ∷ (o ⇀ r).y ∷ o.x ∷ o.y ∷ z.x ∷ z.y ∷ pos z.lower ∷ [] in
      let left = e.x ⊗ (zy ⊗ one ⊖ oy ⊗ d) ⊖ e.y ⊗ (zx ⊗ one ⊖ ox ⊗ d) in
      let under = e.y ⊗ zx ⊕ (⊝ e.x) ⊗ zy in let bound = (e.y ⊗ ox ⊖ e.x ⊗ oy) ⊗ d in (
        prove env (O ≼ left ∷ []) (under ≼ bound) (hyp 0 ⊞ hyp 1) tt,
        prove env (under ≼ bound ∷ []) (O ≼ left) (hyp 0 ⊞ hyp 1) tt,
      )

-- a piece is what is right of no edge, and that is a half plane for each edge; so it need not even be convex
pub piece_inside : {cs : List Corner} → Polygon cs → (qs : List Corner) → HoldsPoints qs cs → (z : Point) → InPiece cs z → InPiece qs z
piece_inside polygon qs holds z inside = record {
  proper = inside.proper;
  right_of_none = λ i below.
      (let o = corner qs i in let r = corner qs (next (length qs) i) in
      (line-half-plane o r z).1 (piece-half-plane polygon (across o r) (up o r) (limit o r)
      (λ j known. (line-half-plane o r _).0 ((holds j known).right_of_none i below)) z inside));
}

-- ---- the hull of points that do not lie in one line
module _ (ps : List Corner) (apart : ¬ InLine ps) where
  pub hull-polygon : Polygon (convex_hull ps)
  hull-polygon = record {
    at_least = elim (dec_lt (length (convex_hull ps)) fewest) [ yes few ↦ absurd (apart ((hull-short-iff ps).0 few)) | no not ↦ omega arith ];
    convex = hull-convex ps;
  }

  -- no corner is right of an edge, so no point is
  pub hull-holds : HoldsPoints (convex_hull ps) ps
  hull-holds i below =
      let hs = convex_hull ps in
      (whole-in-piece hs (corner ps i)).1 (λ e known. hull-covers (corner hs e) (corner hs (next (length hs) e)) ps
      (λ h among. (let (k, k-below, is) = member-corner among in rw is at (not_right hull-polygon e k known k-below)))
      _ (corner-member ps i below))

  -- each corner is a point, and the half plane holds the points
  pub hull-half-plane : (a b c : ℤ) → ((i : ℕ) → i < length ps → InHalfPlane a b c (whole (corner ps i)))
      → (z : Point) → InPiece (convex_hull ps) z → InHalfPlane a b c z
  hull-half-plane a b c points-in =
      piece-half-plane hull-polygon a b c (λ i below. (let (j, j-below, is) = hull-point ps i below in rw is at (points-in j j-below)))

  pub hull-smallest : (qs : List Corner) → HoldsPoints qs ps → (z : Point) → InPiece (convex_hull ps) z → InPiece qs z
  hull-smallest qs holds =
      piece_inside hull-polygon qs (λ i below. (let (j, j-below, is) = hull-point ps i below in rw is at (holds j j-below)))

  pub hull-is : length ps ≤ most → AllInRange ps → IsHull ps (convex_hull ps)
  hull-is at_most all_in_range = record {
    accepted = record {
      at_least = hull-polygon.at_least;
      at_most = omega (arith, hull-length ps);
      all_in_range = λ i below. (let (j, j-below, is) = hull-point ps i below in rw is at (all_in_range j j-below));
      convex = hull-convex ps;
    };
    holds = hull-holds;
    smallest = λ qs convex. hull-smallest qs;
    starts = hull-starts ps;
  }

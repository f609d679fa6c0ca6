-- Rule 1.9: the orientation of a list of corners, and their numbers as held and as given.
--     given-first                      corner 0 stays corner 0
--     given_below, given-twice         the number as given is a corner's; taken twice it is the number as held
--     given-injective                  so it is one corner's
--     edge-below, edge-twice           and so of an edge
--     given-rest                       clockwise, corner j + 1 is corner n - (j + 1) as given
--     given-edge-start, given-edge-end    clockwise, an edge as given starts where the edge as held ends, and ends where
--                                      that starts
--     held-length, held-corner-given   as many corners are held, and corner j is the one with its number as given
--     held-range                       in range exactly if those of the list are
--     clockwise-convex                 a list is clockwise exactly where it is strictly convex as held
--     held-convex                      so a list fits an orientation exactly where it is strictly convex as held
--     held-distinct                    a list that is a polygon as held has no equal neighbours
--     one-orientation                  three or more corners fit at most one orientation
--     orientation-found                which their first three tell
use Prim.Native.Nat.{ℕ, zero, suc, ◌-◌, ◌%◌, ◌≤◌, ◌<◌}
use mathlib.Core.Path.{◌≡◌, refl, sym, ap, ◌∙◌}
use mathlib.Core.Logic.{◌↔◌, ◌≢◌, ⊎_elim}
use mathlib.Core.List.{List, [], ◌∷◌, reverse, reverse-cons}
use native.Mathlib.Nat.{eq-or-lt_of_le, le_of_suc-le-suc}
use native.Mathlib.Omega.{arith}
use lib.Arith.{digits_mod}
use lib.IntN.{pos}
use lib.ListN.{length, length-reverse, get_or-append}
use lib.Seq.{get_or_at}
use lib.Signed.{◌<ℤ◌, <ℤ_irrefl}
use Rattle.integers.proofs.Order.{<ℤ-trans, <ℤ-lt_z, <ℤ-≤ℤ, ≤ℤ-lt_z}
use Rattle.plane.proofs.Algebra.{side-back}
use Rattle.plane.specs.declared.Corner.{Corner}
use Rattle.plane.specs.Vector.{side}
use Rattle.outline.specs.declared.Orientation.{Orientation}
use Rattle.outline.specs.declared.Orientation.TheVariants.{Counterclockwise, Clockwise}
use Rattle.outline.specs.Convex.{AllInRange, LeftOf, StrictlyConvex}
use Rattle.outline.specs.Corners.{origin, corner, next}
use Rattle.outline.specs.Orientation.{RightOf, StrictlyClockwise, HasOrientation, reversed, as_held}
use Rattle.outline.specs.Orientation.{given_corner, given_edge}
use Rattle.outline.specs.code.Either.{orientation_of}
use Rattle.outline.specs.code.Polygon.{Polygon}
use Rattle.outline.proofs.CornersLaws.{next-suc, next_last, next-below}
use Rattle.outline.proofs.EdgeLaws.{polygon-distinct}

-- ---- numbers
pub given-rest : (n j : ℕ) → j < n → given_corner Clockwise n (suc j) ≡ n - suc j
unfolding given_corner
given-rest n j below = ap (λ (m : ℕ). m % n) (omega arith) ∙ digits_mod 0 {m = n} {r = n - suc j} (omega arith)

pub given-first : (o : Orientation) (n : ℕ) → 0 < n → given_corner o n 0 ≡ 0
unfolding given_corner
given-first Counterclockwise n some = refl
given-first Clockwise n some = ap (λ (m : ℕ). m % n) (omega arith) ∙ digits_mod 1 some

pub given_below : (o : Orientation) (n j : ℕ) → j < n → given_corner o n j < n
unfolding given_corner
given_below Counterclockwise n j below = below
given_below Clockwise n zero below = rw (given-first Clockwise n below) below
given_below Clockwise n (suc j) below = omega (arith, given-rest n j (omega arith))

pub given-twice : (o : Orientation) (n j : ℕ) → j < n → given_corner o n (given_corner o n j) ≡ j
unfolding given_corner
given-twice Counterclockwise n j below = refl
given-twice Clockwise n zero below = rw (given-first Clockwise n below) (given-first Clockwise n below)
given-twice Clockwise n (suc j) below =
    rw (given-rest n j (omega arith), back) (given-rest n (n - suc (suc j)) (omega arith) ∙ omega arith)
  where
    back : n - suc j ≡ suc (n - suc (suc j))
    back = omega arith

-- a number as given is one corner's
pub given-injective : (o : Orientation) (n i j : ℕ) → i < n → j < n → given_corner o n i ≡ given_corner o n j → i ≡ j
given-injective o n i j i-below j-below same =
    sym (given-twice o n i i-below) ∙ ap (given_corner o n) same ∙ given-twice o n j j-below

pub edge-below : (o : Orientation) (n j : ℕ) → j < n → given_edge o n j < n
edge-below Counterclockwise n j below = below
edge-below Clockwise n j below = omega arith

pub edge-twice : (o : Orientation) (n j : ℕ) → j < n → given_edge o n (given_edge o n j) ≡ j
edge-twice Counterclockwise n j below = refl
edge-twice Clockwise n j below = omega arith

-- clockwise, the edge that is held as edge j ends, as given, at corner j as held
pub given-edge-end : (n j : ℕ) → j < n → next n (given_edge Clockwise n j) ≡ given_corner Clockwise n j
given-edge-end n zero below = next_last n (n - 1 - 0) (omega arith) ∙ sym (given-first Clockwise n below)
given-edge-end n (suc j) below =
    next-suc n (n - 1 - suc j) (omega arith) ∙ omega (arith, given-rest n j (omega arith))

-- and it starts at the one after
pub given-edge-start : (n j : ℕ) → j < n → given_edge Clockwise n j ≡ given_corner Clockwise n (next n j)
given-edge-start n j below = ⊎_elim
    (λ last. rw (next_last n j (omega arith)) (omega (arith, given-first Clockwise n (omega arith))))
    (λ more. rw (next-suc n j more) (omega (arith, given-rest n j below)))
    (eq-or-lt_of_le below)

-- ---- corners
-- all corners in the opposite order
reverse-corner : (cs : List Corner) (j : ℕ) → j < length cs → corner (reverse cs) j ≡ corner cs (length cs - 1 - j)
reverse-corner [] j below = absurd (omega arith)
reverse-corner (c ∷ cs) j below =
    ap (λ (ds : List Corner). corner ds j) (reverse-cons c cs)
    ∙ ⊎_elim
    (λ last. rw last (rw here (get_or_at (reverse cs) c [] origin (length cs) (length-reverse cs))))
    (λ less. get_or-append (reverse cs) (c ∷ []) origin j (rw (length-reverse cs) less)
    ∙ reverse-corner cs j less ∙ ap (corner (c ∷ cs)) (sym (later less)))
    (eq-or-lt_of_le (le_of_suc-le-suc below))
  where
    here : suc (length cs) - 1 - length cs ≡ 0
    here = omega arith

    later : j < length cs → suc (length cs) - 1 - j ≡ suc (length cs - 1 - j)
    later less = omega arith

pub held-length : (o : Orientation) (cs : List Corner) → length (as_held o cs) ≡ length cs
held-length Counterclockwise cs = refl
held-length Clockwise [] = refl
held-length Clockwise (c ∷ cs) = ap suc (length-reverse cs)

pub held-corner-given : (o : Orientation) (cs : List Corner) (j : ℕ) → j < length cs
    → corner (as_held o cs) j ≡ corner cs (given_corner o (length cs) j)
unfolding given_corner
held-corner-given Counterclockwise cs j below = refl
held-corner-given Clockwise [] j below = absurd (omega arith)
held-corner-given Clockwise (c ∷ cs) zero below = rw (given-first Clockwise (suc (length cs)) below)
held-corner-given Clockwise (c ∷ cs) (suc j) below =
    reverse-corner cs j (omega arith)
    ∙ ap (corner (c ∷ cs)) (one_more ∙ sym (given-rest (suc (length cs)) j (omega arith)))
  where
    one_more : suc (length cs - 1 - j) ≡ suc (length cs) - suc j
    one_more = omega arith

pub held-range : (o : Orientation) (cs : List Corner) → AllInRange cs ↔ AllInRange (as_held o cs)
held-range o cs = (
  λ all j below. (let known = rw (held-length o cs) at below in
      rw (held-corner-given o cs j known) (all _ (given_below o (length cs) j known))),
  λ all j below. (let there = given_below o (length cs) j below in
      rw (held-corner-given o cs _ there, given-twice o (length cs) j below)
      at (all (given_corner o (length cs) j) (rw (held-length o cs) there))),
)

-- ---- orientation
-- clockwise, seen from the edge as held: its ends are those of the edge as given, exchanged
held-side : (cs : List Corner) (e c : ℕ) → e < length cs → c < length cs
    → side (corner (reversed cs) e) (corner (reversed cs) (next (length cs) e)) (corner (reversed cs) c)
    ≡ side (corner cs (next (length cs) (given_edge Clockwise (length cs) e)))
    (corner cs (given_edge Clockwise (length cs) e)) (corner cs (given_corner Clockwise (length cs) c))
held-side cs e c e-below c-below =
    rw (
      held-corner-given Clockwise cs e e-below,
      held-corner-given Clockwise cs (next (length cs) e) (next-below (length cs) e (omega arith)),
      held-corner-given Clockwise cs c c-below,
      given-edge-end (length cs) e e-below,
      given-edge-start (length cs) e e-below,
    )

-- so a corner is left of an edge as held exactly where it is right of it as given
held-left : (cs : List Corner) (e c : ℕ) → e < length cs → c < length cs
    → LeftOf (reversed cs) e c ↔ RightOf cs (given_edge Clockwise (length cs) e) (given_corner Clockwise (length cs) c)
held-left cs e c e-below c-below = rw (held-length Clockwise cs, held-side cs e c e-below c-below) (side-back _ _ _)

-- so other corners have other numbers as given
given-other : (o : Orientation) (n i j : ℕ) → i < n → j < n → i ≢ j → given_corner o n i ≢ given_corner o n j
given-other o n i j i-below j-below other same = other (given-injective o n i j i-below j-below same)

-- an edge and a corner as given are those of an edge and a corner as held
pub clockwise-convex : (cs : List Corner) → StrictlyClockwise cs ↔ StrictlyConvex (reversed cs)
clockwise-convex cs = (there, back)
  where
    n : ℕ
    n = length cs

    -- the start and the end of an edge as given, as those of the edge as held
    ends : (e : ℕ) → e < n
        → (given_edge Clockwise n e ≡ given_corner Clockwise n (next n e))
        × (next n (given_edge Clockwise n e) ≡ given_corner Clockwise n e)
    ends e below = (given-edge-start n e below, given-edge-end n e below)

    there : StrictlyClockwise cs → StrictlyConvex (reversed cs)
    there right e c e-known c-known not_start not_end =
        let e-below : e < n = rw (held-length Clockwise cs) at e-known in
        let c-below : c < n = rw (held-length Clockwise cs) at c-known in
        let not-next : c ≢ next n e = rw (held-length Clockwise cs) at not_end in
        (held-left cs e c e-below c-below).1
        (right (given_edge Clockwise n e) (given_corner Clockwise n c) (edge-below Clockwise n e e-below)
        (given_below Clockwise n c c-below)
        (rw (ends e e-below).0 (given-other Clockwise n c (next n e) c-below (next-below n e (omega arith)) not-next))
        (rw (ends e e-below).1 (given-other Clockwise n c e c-below e-below not_start)))

    back : StrictlyConvex (reversed cs) → StrictlyClockwise cs
    back left e c e-below c-below not_start not_end =
        let f = given_edge Clockwise n e in let d = given_corner Clockwise n c in
        let f-below : f < n = edge-below Clockwise n e e-below in
        let d-below : d < n = given_below Clockwise n c c-below in
        let e-is : given_edge Clockwise n f ≡ e = edge-twice Clockwise n e e-below in
        let c-is : given_corner Clockwise n d ≡ c = given-twice Clockwise n c c-below in
        rw (e-is, c-is) at ((held-left cs f d f-below d-below).0
        (left f d (rw (held-length Clockwise cs) f-below) (rw (held-length Clockwise cs) d-below)
        (λ same. not_end (sym c-is ∙ ap (given_corner Clockwise n) same ∙ sym (ends f f-below).1 ∙ ap (next n) e-is))
        (rw (held-length Clockwise cs)
        (λ same. not_start (sym c-is ∙ ap (given_corner Clockwise n) same ∙ sym (ends f f-below).0 ∙ e-is)))))

pub held-convex : (o : Orientation) (cs : List Corner) → HasOrientation o cs ↔ StrictlyConvex (as_held o cs)
held-convex Counterclockwise cs = (λ fits. fits, λ convex. convex)
held-convex Clockwise cs = clockwise-convex cs

-- equal neighbours as given would be equal as held
pub held-distinct : (o : Orientation) (cs : List Corner) → Polygon (as_held o cs)
    → (i : ℕ) → i < length cs → corner cs i ≢ corner cs (next (length cs) i)
held-distinct Counterclockwise cs polygon i below = polygon-distinct polygon i below
held-distinct Clockwise cs polygon i below = λ same. polygon-distinct polygon f (rw (held-length Clockwise cs) f-below) (
    held-corner-given Clockwise cs f f-below
    ∙ ap (corner cs) (sym (given-edge-end n f f-below) ∙ ap (next n) back)
    ∙ sym same
    ∙ ap (corner cs) (sym back ∙ given-edge-start n f f-below)
    ∙ sym (held-corner-given Clockwise cs (next n f) (next-below n f (omega arith)))
    ∙ ap (λ (m : ℕ). corner (reversed cs) (next m f)) (sym (held-length Clockwise cs)))
  where
    n : ℕ
    n = length cs

    f : ℕ
    f = given_edge Clockwise n i

    f-below : f < n
    f-below = edge-below Clockwise n i below

    back : given_edge Clockwise n f ≡ i
    back = edge-twice Clockwise n i below

module _ (cs : List Corner) (three : 3 ≤ length cs) where
  -- edge 0 runs to corner 1
  first-left : StrictlyConvex cs → pos 0 <ℤ side (corner cs 0) (corner cs 1) (corner cs 2)
  first-left convex =
      rw (next-suc (length cs) 0 (omega arith))
      at (convex 0 2 (omega arith) (omega arith) (λ e. omega arith) (omega (arith, next-suc (length cs) 0 (omega arith))))

  first-right : StrictlyClockwise cs → side (corner cs 0) (corner cs 1) (corner cs 2) <ℤ pos 0
  first-right right =
      rw (next-suc (length cs) 0 (omega arith))
      at (right 0 2 (omega arith) (omega arith) (λ e. omega arith) (omega (arith, next-suc (length cs) 0 (omega arith))))

  -- corner 2 is not on both sides of edge 0
  both-sides : StrictlyConvex cs → StrictlyClockwise cs → ⊥
  both-sides convex right = <ℤ_irrefl (<ℤ-trans (first-left convex) (first-right right))

  pub one-orientation : (o q : Orientation) → HasOrientation o cs → HasOrientation q cs → o ≡ q
  one-orientation Counterclockwise Counterclockwise p q = refl
  one-orientation Counterclockwise Clockwise p q = absurd (both-sides p q)
  one-orientation Clockwise Counterclockwise p q = absurd (both-sides q p)
  one-orientation Clockwise Clockwise p q = refl

  pub orientation-found : (o : Orientation) → HasOrientation o cs → orientation_of cs ≡ o
  unfolding orientation_of
  orientation-found Counterclockwise fits = rw (<ℤ-lt_z (first-left fits))
  orientation-found Clockwise fits = rw (≤ℤ-lt_z (<ℤ-≤ℤ (first-right fits)))

-- The corners that wrapping finds, from a corner p of a hull that starts at s.
--     candidate-self        no point can come after itself
--     candidate-first, candidate-later    the candidates from s, and from a later corner
--     wrap-members, wrap-length    what is found is among the candidates, and not more
--     First                 seen from s, a point is in the first half turn: it comes after s, from the lowest on
--     wrap-convex           s and what is found from it are strictly convex
--     wrap-covers           where they are right of no line, neither are the candidates
use Prim.Native.Nat.{ℕ, zero, suc, ◌-◌, ◌≤◌, ◌<◌}
use native.Mathlib.Omega.{arith}
use mathlib.Core.Path.{◌≡◌, refl}
use mathlib.Core.Logic.{◌↔◌, ◌≢◌, inl, inr}
use mathlib.Core.Bool.{Bool, true, false, not, cond}
use mathlib.Core.List.Memᴰ
use mathlib.Core.List.{List, [], ◌∷◌, Memᴰ}
use lib.IntN.{pos}
use lib.ListN.{length}
use lib.Signed.{◌≤ℤ◌, ◌<ℤ◌, ≤ℤ_refl, <ℤ_irrefl, clash_ℤ}
use Rattle.integers.proofs.Order.{<ℤ-≤ℤ, ≮ℤ-≤ℤ, <ℤ-lt_z}
use Rattle.integers.proofs.Polynomial.{lit, ⊝◌}
use Rattle.integers.proofs.Certificate.{◌≺◌, ◌≼◌, ◌≗◌, hyp, eqn, ◌⊞◌, ◌⊠◌, prove, refute}
use Rattle.integers.proofs.Reflect.{test-not, test-false}
use Rattle.lists.specs.Fold.{fold}
use Rattle.lists.proofs.FoldLaws.{all_true}
use Rattle.plane.specs.declared.Corner.{Corner}
use Rattle.plane.specs.declared.Vector.{Vector}
use Rattle.plane.specs.Direction.{is_first_half}
use Rattle.plane.specs.Vector.{◌⇀◌, cross, side, coordinates}
use Rattle.plane.specs.code.Tests.{is_left, same}
use Rattle.plane.proofs.Algebra.{O, vec, cross_e, ◌⇀E◌, side_e, side-end, side-start, side-stop, distinct-length}
use Rattle.plane.proofs.Halves.{reference}
use Rattle.plane.proofs.Tests.{same_true, is_left-true}
use Rattle.outline.specs.Convex.{StrictlyConvex}
use Rattle.outline.specs.Corners.{corner}
use Rattle.outline.specs.code.Turns.{keeps_left, keeps_left_at, is_convex}
use Rattle.outline.proofs.TurnsLaws.{is_convex-true}
use Rattle.hull.specs.code.Wrapping.{is_candidate, kept, foremost, wrap}
use Rattle.hull.proofs.Points.{kept-member, member-kept, kept-shorter}
use Rattle.hull.proofs.Ahead.{Behind, behind-trans, not-farther, foremost-member, foremost-first}

-- ---- candidates
module _ (s : Corner) where
  pub candidate-self : (q : Corner) → is_candidate s q q ≡ false
  unfolding is_candidate
  candidate-self q = go (same s q)
    where
      go : (t : Bool) → cond t (not t) (is_left s (s ⇀ q) q) ≡ false
      go true = refl
      go false = rw (side-stop s q)

  pub candidate-first : (z : Corner) → (is_candidate s s z ≡ true) ↔ (s ≢ z)
  unfolding is_candidate
  candidate-first z = rw ((same_true s s).1 refl) (test-not (same s z) (same_true s z))

  pub candidate-later : (p z : Corner) → s ≢ p → (is_candidate s p z ≡ true) ↔ (pos 0 <ℤ side s p z)
  unfolding is_candidate
  candidate-later p z other = rw ((test-false (same s p) (same_true s p)).1 other) (is_left-true s (s ⇀ p) z)

  -- a point strictly left of a line from s is another
  left_other : (p z : Corner) → pos 0 <ℤ side s p z → s ≢ z
  left_other p z left is = <ℤ_irrefl (rw (← is, side-start s p) at left)

  pub wrap-members : (left : ℕ) (p : Corner) (zs : List Corner) (h : Corner) → Memᴰ h (wrap left s p zs) → Memᴰ h zs
  unfolding wrap
  wrap-members zero p zs h there = absurd (Memᴰ.not-nil there)
  wrap-members (suc left) p [] h there = absurd (Memᴰ.not-nil there)
  wrap-members (suc left) p (z ∷ zs) h there = elim (Memᴰ.cases_cons there) [
    | inl is ↦ Memᴰ.cast is (foremost-member p z zs)
    | inr later ↦ (kept-member (is_candidate s (foremost p z zs)) (z ∷ zs) h
        (wrap-members left (foremost p z zs) (kept (is_candidate s (foremost p z zs)) (z ∷ zs)) h later)).0
  ]

-- the first of some candidates is none from then on
fewer : (s p z : Corner) (zs : List Corner) (left : ℕ) → length (z ∷ zs) ≤ suc left
    → length (kept (is_candidate s (foremost p z zs)) (z ∷ zs)) ≤ left
fewer s p z zs left most =
    let less = kept-shorter (is_candidate s (foremost p z zs)) (z ∷ zs) (foremost p z zs) (foremost-member p z zs)
    (candidate-self s (foremost p z zs)) in
    omega arith

pub wrap-length : (s : Corner) (left : ℕ) (p : Corner) (zs : List Corner) → length (wrap left s p zs) ≤ length zs
unfolding wrap
wrap-length s zero p zs = omega arith
wrap-length s (suc left) p [] = omega arith
wrap-length s (suc left) p (z ∷ zs) =
    let q = foremost p z zs in
    omega (arith, wrap-length s left q (kept (is_candidate s q) (z ∷ zs)), fewer s p z zs (length zs) (omega arith))

-- in the line of p and q, w is beyond the line from s to q where it is farther along than q
past : (s p q w : Corner) → side p q w ≡ pos 0 → pos 0 <ℤ side s q w
    → cross (s ⇀ p) (p ⇀ w) ≤ℤ cross (s ⇀ p) (p ⇀ q) → ⊥
unfolding cross ◌⇀◌
past s p q w =
    let s' = vec 0 in let p' = vec 2 in let q' = vec 4 in let w' = vec 6 in let e = s' ⇀E p' in
    refute (coordinates (s ∷ p ∷ q ∷ w ∷ []))
    (side_e p' q' w' ≗ O ∷ O ≺ side_e s' q' w' ∷ cross_e e (p' ⇀E w') ≼ cross_e e (p' ⇀E q') ∷ [])
    (hyp 1 ⊞ hyp 2 ⊞ eqn 0 (lit (pos 1))) tt

-- a point of a triangle is right of no line that the triangle's corners are right of none of
triangle : (s p q z o r : Corner) → pos 0 <ℤ side s p q → pos 0 ≤ℤ side s p z → pos 0 ≤ℤ side p q z → side s q z ≤ℤ pos 0
    → pos 0 ≤ℤ side o r s → pos 0 ≤ℤ side o r p → pos 0 ≤ℤ side o r q → pos 0 ≤ℤ side o r z
unfolding cross ◌⇀◌
triangle s p q z o r =
    let s' = vec 0 in let p' = vec 2 in let q' = vec 4 in let z' = vec 6 in let o' = vec 8 in let r' = vec 10 in
    prove (coordinates (s ∷ p ∷ q ∷ z ∷ o ∷ r ∷ []))
    (O ≺ side_e s' p' q' ∷ O ≼ side_e s' p' z' ∷ O ≼ side_e p' q' z' ∷ side_e s' q' z' ≼ O ∷ O ≼ side_e o' r' s'
    ∷ O ≼ side_e o' r' p' ∷ O ≼ side_e o' r' q' ∷ []) (O ≼ side_e o' r' z')
    (hyp 0 ⊠ hyp 1 ⊞ hyp 2 ⊠ hyp 7 ⊞ hyp 3 ⊠ hyp 5 ⊞ hyp 4 ⊠ hyp 6) tt

-- and so is a point between s and q, seen from a direction e that has both on its left
segment : (e : Vector) (s q z o r : Corner) → pos 0 <ℤ cross e (s ⇀ q) → pos 0 <ℤ cross e (s ⇀ z)
    → cross e (s ⇀ z) ≤ℤ cross e (s ⇀ q) → side s q z ≡ pos 0 → pos 0 ≤ℤ side o r s → pos 0 ≤ℤ side o r q
    → pos 0 ≤ℤ side o r z
unfolding cross ◌⇀◌
segment e s q z o r =
    let e' = vec 0 in let s' = vec 2 in let q' = vec 4 in let z' = vec 6 in let o' = vec 8 in let r' = vec 10 in
    let of-q = cross_e e' (s' ⇀E q') in let of-z = cross_e e' (s' ⇀E z') in
    prove (e.x ∷ e.y ∷ coordinates (s ∷ q ∷ z ∷ o ∷ r ∷ []))
    (O ≺ of-q ∷ O ≺ of-z ∷ of-z ≼ of-q ∷ side_e s' q' z' ≗ O ∷ O ≼ side_e o' r' s' ∷ O ≼ side_e o' r' q' ∷ [])
    (O ≼ side_e o' r' z')
    (hyp 0 ⊠ hyp 1 ⊞ hyp 2 ⊠ hyp 6 ⊞ hyp 3 ⊠ hyp 5 ⊞ eqn 4 (⊝ cross_e e' (o' ⇀E r'))) tt

-- ---- a step from a corner p after s: the candidates z and zs are left of the line from s to it
module _ (s p z : Corner) (zs : List Corner) (left : (w : Corner) → Memᴰ w (z ∷ zs) → pos 0 <ℤ side s p w) where
  abbrev q : Corner
  q = foremost p z zs

  later-left : pos 0 <ℤ side s p q
  later-left = left q (foremost-member p z zs)

  later-other : s ≢ q
  later-other = left_other s p q later-left

  later_first : (w : Corner) → Memᴰ w (z ∷ zs) → Behind (p ⇀ q) (p ⇀ w)
  later_first = foremost-first p (λ w. pos 0 <ℤ side s p w)
      (λ a b c of_a of_b of_c. behind-trans (s ⇀ p) (p ⇀ a) (p ⇀ b) (p ⇀ c)
      (rw side-end at of_a) (rw side-end at of_b) (rw side-end at of_c)) z zs left

  -- the candidates from q
  later-candidate : (w : Corner) → Memᴰ w (kept (is_candidate s q) (z ∷ zs))
      → Memᴰ w (z ∷ zs) × (pos 0 <ℤ side s q w)
  later-candidate w there =
      let (among, holds) = kept-member (is_candidate s q) (z ∷ zs) w there in
      (among, (candidate-later s q w later-other).0 holds)

  -- are left of the edge from p to q: in its line none is farther than q, and so none left of the line from s to q
  later_edge : (w : Corner) → Memᴰ w (z ∷ zs) → pos 0 <ℤ side s q w → pos 0 <ℤ side p q w
  later_edge w there beyond = elim (later_first w there) [
    | inl is ↦ is
    | inr (line, near) ↦ absurd (past s p q w line beyond
        (not-farther (s ⇀ p) (p ⇀ q) (p ⇀ w) (rw side-end at later-left) (rw side-end at (left w there)) line near))
  ]

-- ---- the corners after edge 0, which goes from s to `start`
-- the test of convexity for each corner after p, of which a is the one before
abbrev Keeps : Corner → Corner → Corner → Corner → List Corner → Type 0
Keeps s start a p [] = Unit {0}
Keeps s start a p (c ∷ cs) = (keeps_left s (s ⇀ start) a p c ≡ true) × Keeps s start p c cs

keeps-at : (s start a p : Corner) (cs : List Corner) → Keeps s start a p cs → (i : ℕ) → i < length cs
    → keeps_left s (s ⇀ start) (corner (a ∷ p ∷ cs) i) (corner (p ∷ cs) i) (corner cs i) ≡ true
keeps-at s start a p [] keeps i below = absurd (omega arith)
keeps-at s start a p (c ∷ cs) (here, later) zero below = here
keeps-at s start a p (c ∷ cs) (here, later) (suc i) below = keeps-at s start p c cs later i (omega arith)

-- what a candidate from p passes
record Open (s start a p w : Corner) : Type 0 where
  pub of_first : pos 0 <ℤ side s start w
  pub of_fan : pos 0 <ℤ side s p w
  pub of_edge : pos 0 <ℤ side a p w

open-keeps : {s start a p w : Corner} → Open s start a p w → keeps_left s (s ⇀ start) a p w ≡ true
open-keeps w = rw (<ℤ-lt_z w.of_first, <ℤ-lt_z w.of_fan, <ℤ-lt_z w.of_edge)

wrap-keeps : (left : ℕ) (s start a p : Corner) (zs : List Corner) → ((w : Corner) → Memᴰ w zs → Open s start a p w)
    → Keeps s start a p (wrap left s p zs)
unfolding wrap
wrap-keeps zero s start a p zs opens = tt
wrap-keeps (suc left) s start a p [] opens = tt
wrap-keeps (suc left) s start a p (z ∷ zs) opens =
    let fan : (w : Corner) → Memᴰ w (z ∷ zs) → pos 0 <ℤ side s p w = λ w there. (opens w there).of_fan in
    let q = foremost p z zs in (
      open-keeps (opens q (foremost-member p z zs)),
      wrap-keeps left s start p q (kept (is_candidate s q) (z ∷ zs)) (λ w there.
          (let (among, beyond) = later-candidate s p z zs fan w there in record {
            of_first = (opens w among).of_first;
            of_fan = beyond;
            of_edge = later_edge s p z zs fan w among beyond;
          })),
    )

-- where s, p and the corners found from p are right of no line, neither are the candidates from p: what is none from the
-- next corner q on is in the triangle of s, p and q
covers-later : (o r s : Corner) → pos 0 ≤ℤ side o r s → (left : ℕ) (p : Corner) (zs : List Corner) → length zs ≤ left
    → ((w : Corner) → Memᴰ w zs → pos 0 <ℤ side s p w) → pos 0 ≤ℤ side o r p
    → ((h : Corner) → Memᴰ h (wrap left s p zs) → pos 0 ≤ℤ side o r h)
    → (w : Corner) → Memᴰ w zs → pos 0 ≤ℤ side o r w
unfolding wrap
covers-later o r s over-s zero p [] most left over-p over w there = absurd (Memᴰ.not-nil there)
covers-later o r s over-s zero p (z ∷ zs) most left over-p over w there = absurd (omega arith)
covers-later o r s over-s (suc n) p [] most left over-p over w there = absurd (Memᴰ.not-nil there)
covers-later o r s over-s (suc n) p (z ∷ zs) most left over-p over w there =
    go (is_candidate s q w) refl (covers-later o r s over-s n q (kept (is_candidate s q) (z ∷ zs))
    (fewer s p z zs n most) (λ y among. (later-candidate s p z zs left y among).1) over-q
    (λ h later. over h (Memᴰ.tail later)) w)
  where
    q : Corner
    q = foremost p z zs

    over-q : pos 0 ≤ℤ side o r q
    over-q = over q (Memᴰ.head refl)

    not_right : Behind (p ⇀ q) (p ⇀ w) → pos 0 ≤ℤ side p q w
    not_right (inl is) = <ℤ-≤ℤ is
    not_right (inr (line, _)) = rw line (≤ℤ_refl (pos 0))

    go : (t : Bool) → is_candidate s q w ≡ t
        → (Memᴰ w (kept (is_candidate s q) (z ∷ zs)) → pos 0 ≤ℤ side o r w) → pos 0 ≤ℤ side o r w
    go true holds later = later (member-kept (is_candidate s q) (z ∷ zs) w there holds)
    go false fails later = triangle s p q w o r (later-left s p z zs left) (<ℤ-≤ℤ (left w there))
        (not_right (later_first s p z zs left w there))
        (≮ℤ-≤ℤ ((test-false _ (candidate-later s q w (later-other s p z zs left))).0 fails)) over-s over-p over-q

-- ---- the first step, from s: the candidates are in the first half turn
pub record First (s z : Corner) : Type 0 where
  pub other : s ≢ z
  pub half : is_first_half (s ⇀ z) ≡ true

-- a direction that has three of them on its left
module _ (s a b c : Corner) (of_a : First s a) (of_b : First s b) (of_c : First s c) where
  record Below : Type 0 where
    pub from : Vector
    pub left-a : pos 0 <ℤ cross from (s ⇀ a)
    pub left-b : pos 0 <ℤ cross from (s ⇀ b)
    pub left-c : pos 0 <ℤ cross from (s ⇀ c)

  below : Below
  below =
      let seen = reference (s ⇀ a) (s ⇀ b) (s ⇀ c) (distinct-length s a of_a.other) (distinct-length s b of_b.other)
      (distinct-length s c of_c.other) in
      record {
        from = seen.from;
        left-a = rw of_a.half at seen.of_e;
        left-b = rw of_b.half at seen.of_f;
        left-c = rw of_c.half at seen.of_t;
      }

module _ (s z : Corner) (zs : List Corner) (firsts : (w : Corner) → Memᴰ w (z ∷ zs) → First s w) where
  abbrev start : Corner
  start = foremost s z zs

  first-start : First s start
  first-start = firsts start (foremost-member s z zs)

  first-first : (w : Corner) → Memᴰ w (z ∷ zs) → Behind (s ⇀ start) (s ⇀ w)
  first-first = foremost-first s (First s) (λ a b c of_a of_b of_c.
      (let seen = below s a b c of_a of_b of_c in
      behind-trans seen.from (s ⇀ a) (s ⇀ b) (s ⇀ c) seen.left-a seen.left-b seen.left-c)) z zs firsts

  -- the candidates from start
  first-candidate : (w : Corner) → Memᴰ w (kept (is_candidate s start) (z ∷ zs)) → pos 0 <ℤ side s start w
  first-candidate w there =
      (candidate-later s start w first-start.other).0 (kept-member (is_candidate s start) (z ∷ zs) w there).1

  -- the others are between s and start
  first-between : (o r : Corner) → pos 0 ≤ℤ side o r s → pos 0 ≤ℤ side o r start → (w : Corner) → Memᴰ w (z ∷ zs)
      → side s start w ≤ℤ pos 0 → pos 0 ≤ℤ side o r w
  first-between o r over-s over-start w there not_left = go (first-first w there)
    where
      go : Behind (s ⇀ start) (s ⇀ w) → pos 0 ≤ℤ side o r w
      go (inl left) = clash_ℤ left not_left
      go (inr (line, near)) =
          let seen = below s start w w first-start (firsts w there) (firsts w there) in
          segment seen.from s start w o r seen.left-a seen.left-b
          (not-farther seen.from (s ⇀ start) (s ⇀ w) seen.left-a seen.left-b line near) line over-s over-start

pub wrap-convex : (left : ℕ) (s : Corner) (zs : List Corner) → ((w : Corner) → Memᴰ w zs → First s w)
    → StrictlyConvex (s ∷ wrap left s s zs)
unfolding wrap is_convex fold
wrap-convex zero s zs firsts = (is_convex-true (s ∷ [])).0 refl
wrap-convex (suc left) s [] firsts = (is_convex-true (s ∷ [])).0 refl
wrap-convex (suc left) s (z ∷ zs) firsts =
    let q = foremost s z zs in let more = kept (is_candidate s q) (z ∷ zs) in
    let hs : List Corner = s ∷ q ∷ wrap left s q more in
    (is_convex-true hs).0 ((all_true (keeps_left_at hs) (length hs - 2)).1 (λ i known.
    keeps-at s q s q (wrap left s q more) (wrap-keeps left s q s q more (λ w there.
    (let beyond = first-candidate s z zs firsts w there in record { of_first = beyond; of_fan = beyond; of_edge = beyond })))
    i (omega arith)))

pub wrap-covers : (o r s : Corner) → pos 0 ≤ℤ side o r s → (left : ℕ) (zs : List Corner) → length zs ≤ left
    → ((w : Corner) → Memᴰ w zs → First s w) → ((h : Corner) → Memᴰ h (wrap left s s zs) → pos 0 ≤ℤ side o r h)
    → (w : Corner) → Memᴰ w zs → pos 0 ≤ℤ side o r w
unfolding wrap
wrap-covers o r s over-s zero [] most firsts over w there = absurd (Memᴰ.not-nil there)
wrap-covers o r s over-s zero (z ∷ zs) most firsts over w there = absurd (omega arith)
wrap-covers o r s over-s (suc left) [] most firsts over w there = absurd (Memᴰ.not-nil there)
wrap-covers o r s over-s (suc left) (z ∷ zs) most firsts over w there = go (is_candidate s q w) refl
  where
    q : Corner
    q = foremost s z zs

    over-q : pos 0 ≤ℤ side o r q
    over-q = over q (Memᴰ.head refl)

    go : (t : Bool) → is_candidate s q w ≡ t → pos 0 ≤ℤ side o r w
    go true holds =
        covers-later o r s over-s left q (kept (is_candidate s q) (z ∷ zs)) (fewer s s z zs left most)
        (first-candidate s z zs firsts) over-q (λ h later. over h (Memᴰ.tail later)) w
        (member-kept (is_candidate s q) (z ∷ zs) w there holds)
    go false fails = first-between s z zs firsts o r over-s over-q w there
        (≮ℤ-≤ℤ ((test-false _ (candidate-later s q w (first-start s z zs firsts).other)).0 fails))

-- Which edge is next: what the code chooses is the next edge of the angular order.
--     is_next_b          B's edge is next: A has no edge to come, or both have some and B's first to come is strictly
--                      right of A's
--     next_side         the side of the next edge
--     next_edge        the next edge of the order is that side's, and starts at its support corner
--     next-to-come     that side has an edge to come
--     begin-to-come    before step 1 all edges of a side are to come
--     step-to-come     after a step one less of the side whose edge was next, and as many of the other
-- The directions of A's and of B's first edge to come are less than half a turn apart, so the sign of their side
-- number orders them: each outline turns by less than half a turn at a corner, and the edge before lies behind
-- both.
use Prim.Native.Nat.{ℕ, zero, suc, ◌+◌, ◌-◌, ◌<◌}
use native.Mathlib.Omega.{arith}
use mathlib.Core.Path.{◌≡◌, refl, sym, ◌∙◌, subst}
use mathlib.Core.Logic.{◌⊎◌, inl, inr, ⊎_elim}
use mathlib.Core.Bool.{Bool, true, false, cond}
use mathlib.Core.List.Memᴰ
use mathlib.Core.List.{List, [], ◌∷◌, ◌++◌, Memᴰ}
use mathlib.Core.List.{Permᴰ}
use mathlib.Core.List.Pairwise
use mathlib.Core.List.{Pairwise, rel_of_Pairwise-cons}
use lib.Dec.{eqb-suc-zero}
use lib.IntN.{pos}
use lib.ListN.{length, get_or, take, drop, length-append}
use lib.Seq.{drop-cons, split_at}
use lib.Signed.{◌≤ℤ◌, ◌<ℤ◌, ≤ℤ_refl, clash_ℤ}
use Rattle.integers.proofs.Order.{<ℤ-lt_z, ≤ℤ-lt_z, <ℤ-≤ℤ, ≰ℤ-<ℤ}
use Rattle.integers.proofs.Certificate.{◌≺◌, ◌≗◌, hyp, sq, eqn, ◌⊞◌, ◌⊠◌, prove}
use Rattle.plane.specs.declared.Vector.{Vector}
use Rattle.plane.specs.Vector.{cross, dot}
use Rattle.plane.proofs.Algebra.{O, vec, cross_e, dot_e, components, cross-back}
use Rattle.plane.proofs.Halves.{NonZero}
use Rattle.plane.proofs.DirectionLaws.{Before, Along, Apart, along?, along-iff, before-asym, before-irrefl}
use Rattle.plane.proofs.DirectionLaws.{cross-between, cross-first}
use Rattle.outline.specs.Corners.{previous, edge}
use Rattle.outline.proofs.CornersLaws.{next-other, previous-below, next-previous}
use Rattle.nearest.proofs.Support.{turns-on}
use Rattle.outline.specs.declared.Side.{Side}
use Rattle.outline.specs.declared.Side.TheVariants.{A, B}
use Rattle.hausdorff.specs.Pair.{Pair, same_side, step_count}
use Rattle.hausdorff.specs.code.Pair.{Polygons}
use Rattle.lists.specs.Fold.{fold}
use Rattle.lists.specs.code.Lists.{head_or}
use Rattle.hausdorff.specs.AngularOrder.{PairEdge, direction, edges_below, angular_order}
use Rattle.hausdorff.specs.code.Own.{cons_if, own}
use Rattle.hausdorff.specs.Support.{pass_all, support_after}
use Rattle.hausdorff.proofs.OrderLaws.{Rounds, polygons-go-round, order-arranges, order-length, order-members}
use Rattle.hausdorff.proofs.OrderLaws.{order-not-falling, order-ties, own-iff, own-append, own-members, own-rising}
use Rattle.hausdorff.proofs.SweepLaws.{support-after}
use Rattle.sweep.specs.State.{to_come, next_is_b}

abbrev pub is_next_b : Pair → ℕ → Bool
is_next_b pair k =
    next_is_b (to_come pair k A) (to_come pair k B)
    (cross (edge (pair A) (support_after pair k A)) (edge (pair B) (support_after pair k B)))

abbrev pub next_side : Pair → ℕ → Side
next_side pair k = cond (is_next_b pair k) B A

-- ---- how many edges are to come

-- An edge is one more of its side.
count-first : (t : Bool) (i : ℕ) (js : List ℕ) → length (cons_if t i js) ≡ cond t 1 0 + length js
count-first true i js = omega arith
count-first false i js = omega arith

-- However edges are arranged, as many are a side's own.
count-arranged : (s : Side) {es fs : List PairEdge} → Permᴰ es fs → length (own s es) ≡ length (own s fs)
unfolding own
count-arranged s Permᴰ.nil = refl
count-arranged s (Permᴰ.cons e arranged) = rw e (simp count-first (omega (arith, count-arranged s arranged)))
count-arranged s (Permᴰ.swap e f) = rw (e, f) (simp count-first (omega arith))
count-arranged s (Permᴰ.trans arranged again) = count-arranged s arranged ∙ count-arranged s again

-- Of the n edges of a side that side has n.
count-below : (s t : Side) (n : ℕ) → length (own s (edges_below t n)) ≡ cond (same_side s t) n 0
unfolding own fold
count-below s t zero = none (same_side s t)
  where
    none : (b : Bool) → zero ≡ cond b 0 0
    none true = refl
    none false = refl
count-below s t (suc n) = simp (own-append, length-append, count-below s t n) (more (same_side s t))
  where
    more : (b : Bool) → cond b n 0 + length (cons_if b n []) ≡ cond b (suc n) 0
    more true = omega arith
    more false = omega arith

-- One less is to come after an edge of the side, and as many after another.
count-rest : (t : Bool) (i : ℕ) (js : List ℕ) → length js ≡ cond t (length (cons_if t i js) - 1) (length (cons_if t i js))
count-rest true i js = omega arith
count-rest false i js = refl

-- The edge that comes first is the first of its side's own.
own-here : (e : PairEdge) (es : List PairEdge) → own e.side (e ∷ es) ≡ e.number ∷ own e.side es
unfolding own
own-here e es = rw (same e.side)
  where
    same : (s : Side) → same_side s s ≡ true
    same A = refl
    same B = refl

-- ---- less than half a turn

-- y is left of p, and x comes before y and not before p where p comes before y. Then x lies from p to y, and y is
-- left of x.
left-of : (p x y : Vector) → NonZero p → NonZero x → pos 0 <ℤ cross p y → Apart p y → (Before p y → ¬ Before x p) → Before x y
    → pos 0 <ℤ cross x y
unfolding cross dot
left-of p x y p-some x-some turn (inr wraps) behind before = (cross-first p y x turn wraps before).1
left-of p x y p-some x-some turn (inl rises) behind before = elim (along? p x) [
  | inl along ↦
      let (line, same_way) = (along-iff p x p-some x-some).0 along in
      let p' = vec 0 in let x' = vec 2 in let y' = vec 4 in
      prove (components (p ∷ x ∷ y ∷ [])) (O ≺ cross_e p' y' ∷ cross_e p' x' ≗ O ∷ O ≺ dot_e p' x' ∷ []) (O ≺ cross_e x' y')
      (hyp 1 ⊠ hyp 3 ⊞ hyp 0 ⊠ sq p'.x ⊞ hyp 0 ⊠ sq p'.y ⊞ eqn 2 (dot_e p' y')) tt turn line same_way
  | inr (inl first) ↦ (cross-between p y x turn first before).1
  | inr (inr back) ↦ absurd (behind rises back)
]

-- In a list whose elements are related in pairs, x is related to those after it, and those before it to x.
module _ {X : Type 0} {R : X → X → Type 0} {x : X} where
  later : (xs : List X) {ys : List X} → Pairwise R (xs ++ (x ∷ ys)) → {y : X} → Memᴰ y ys → R x y
  later [] related there = rel_of_Pairwise-cons related ∣ there ∣₁
  later (w ∷ xs) related there = later xs (Pairwise.of_cons related) there

  earlier : (xs ys : List X) → Pairwise R (xs ++ (x ∷ ys)) → {w : X} → Memᴰ w xs → R w x
  earlier [] ys related there = absurd (Memᴰ.not-nil there)
  earlier (v ∷ xs) ys related there =
      ⊎_elim (λ same. rw same (rel_of_Pairwise-cons related ∣ Memᴰ.append_right xs (Memᴰ.head refl) ∣₁))
      (earlier xs ys (Pairwise.of_cons related)) (Memᴰ.cases_cons there)

module _ (pair : Pair) (polygons : Polygons pair) where
  abbrev rounds : Rounds pair
  rounds = polygons-go-round polygons

  -- The edges of `front` are passed, e is next, and y is the first edge to come of the other side, t.
  module _ (front : List PairEdge) (e : PairEdge) (rest : List PairEdge) (split : angular_order pair ≡ front ++ (e ∷ rest))
      (t : Side) (other : same_side t e.side ≡ false) (y : ℕ) (ys : List ℕ) (first : own t rest ≡ y ∷ ys) where
    abbrev x : Vector
    x = direction pair e

    abbrev d : ℕ → Vector
    d = edge (pair t)

    x-some : NonZero x
    x-some =
        (rounds e.side).nonzero e.number ((order-members pair e).0 (rw split (Memᴰ.append_right front (Memᴰ.head refl))))

    own_split : own t (angular_order pair) ≡ own t front ++ (y ∷ ys)
    unfolding own
    own_split = rw (split, own-append t front (e ∷ rest), other, first)

    y-known : y < length (pair t)
    y-known = (own-members pair t y).0 (rw own_split (Memᴰ.append_right (own t front) (Memᴰ.head refl)))

    -- the edge before y
    abbrev p : ℕ
    p = previous (length (pair t)) y

    p-known : p < length (pair t)
    p-known = previous-below (length (pair t)) y y-known

    -- Where it comes before y it is passed, so it does not come after e.
    behind : Before (d p) (d y) → ¬ Before x (d p)
    behind rises = ⊎_elim (λ passed. earlier front rest (rw split at (order-not-falling pair rounds)) ((own-iff t p front).0 passed))
        (λ to-come. absurd (⊎_elim (λ same. before-irrefl _ (rw same at rises))
        (λ after-y. before-asym _ _ rises (later (own t front) (rw own_split at (own-rising pair rounds t)) after-y))
        (Memᴰ.cases_cons to-come)))
        (Memᴰ.append_cases (own t front) (rw own_split at ((own-members pair t p).1 p-known)))

    -- The outline turns left from p to y, so where e comes before y, y is left of e.
    left_after : Before x (d y) → pos 0 <ℤ cross x (d y)
    left_after =
        let n = length (pair t) in
        let into = next-previous n y y-known in
        left-of (d p) x (d y) ((rounds t).nonzero p p-known) x-some
        (subst (λ (j : ℕ). pos 0 <ℤ cross (d p) (d j)) into (turns-on (polygons t) p p-known))
        ((rounds t).distinct p y p-known y-known (λ same. next-other n p (rounds t).at_least (into ∙ sym same))) behind

    y-later : Memᴰ (record { side = t; number = y }) rest
    y-later = (own-iff t y rest).0 (rw first (Memᴰ.head refl))

    -- It comes before y, unless they have the same direction.
    left-or-along : (pos 0 <ℤ cross x (d y)) ⊎ Along x (d y)
    left-or-along = elim (along? x (d y)) [
      | inl along ↦ inr along
      | inr (inl before) ↦ inl (left_after before)
      | inr (inr back) ↦ absurd (later front (rw split at (order-not-falling pair rounds)) y-later back)
    ]

    -- So y is not right of e, and if e is B's and y A's, e is right of y.
    not_right : pos 0 ≤ℤ cross x (d y)
    not_right = ⊎_elim <ℤ-≤ℤ
        (λ along. rw ((along-iff x (d y) x-some ((rounds t).nonzero y y-known)).0 along).0 (≤ℤ_refl (pos 0))) left-or-along

    is_right : e.side ≡ B → t ≡ A → cross (d y) x <ℤ pos 0
    is_right of_b of_a = ⊎_elim (λ left. ≰ℤ-<ℤ (λ not_left. clash_ℤ left ((cross-back (d y) x).0 not_left)))
        (λ along. absurd (later front (rw split at (order-ties pair rounds)) y-later (of_b, of_a, along))) left-or-along

-- ---- the next edge

-- what `next_side` chooses where `is` and `js` are the edges of A and of B to come; a and b stand for none
abbrev choose : Pair → ℕ → ℕ → List ℕ → List ℕ → Side
choose pair a b is js =
    cond (next_is_b (length is) (length js) (cross (edge (pair A) (head_or a is)) (edge (pair B) (head_or b js)))) B A

-- This is the side of the edge that comes first.
chosen : (pair : Pair) → Polygons pair → (a b i : ℕ) (front rest : List PairEdge) (s : Side)
    → angular_order pair ≡ front ++ (record { side = s; number = i } ∷ rest)
    → choose pair a b (own A (record { side = s; number = i } ∷ rest)) (own B (record { side = s; number = i } ∷ rest)) ≡ s
unfolding own
chosen pair polygons a b i front rest A split = go (own B rest) refl
  where
    go : (js : List ℕ) → own B rest ≡ js → choose pair a b (i ∷ own A rest) js ≡ A
    go [] none = simp eqb-suc-zero
    go (j ∷ js) first = simp (eqb-suc-zero, ≤ℤ-lt_z (not_right pair polygons front _ rest split B refl j js first))
chosen pair polygons a b i front rest B split = go (own A rest) refl
  where
    go : (is : List ℕ) → own A rest ≡ is → choose pair a b is (i ∷ own B rest) ≡ B
    go [] none = refl
    go (j ∷ is) first = simp (eqb-suc-zero, <ℤ-lt_z (is_right pair polygons front _ rest split A refl j is first refl refl))

module _ (pair : Pair) (polygons : Polygons pair) where
  abbrev order : List PairEdge
  order = angular_order pair

  pub begin-to-come : (s : Side) → to_come pair 0 s ≡ length (pair s)
  begin-to-come s = count-arranged s (order-arranges pair) ∙ simp (own-append, length-append, count-below) (go s)
    where
      go : (s : Side)
          → cond (same_side s A) (length (pair A)) 0 + cond (same_side s B) (length (pair B)) 0 ≡ length (pair s)
      go A = omega arith
      go B = omega arith

  module _ (k : ℕ) (below : k < step_count pair) where
    -- `none` stands for an edge past the end of the order
    module _ (none : PairEdge) where
      abbrev e : PairEdge
      e = get_or order k none

      in_order : k < length order
      in_order = rw (order-length pair) below

      split : order ≡ take k order ++ (e ∷ drop (suc k) order)
      split = split_at order k none in_order

      to-come : drop k order ≡ e ∷ drop (suc k) order
      to-come = drop-cons order k none in_order

      supports : (s : Side) → support_after pair k s ≡ head_or (support_after pair 0 s) (own s (e ∷ drop (suc k) order))
      unfolding pass_all
      supports = support-after pair (polygons-go-round polygons) (take k order) _ split

      next-side : next_side pair k ≡ e.side
      next-side = rw (to-come, supports A, supports B) (chosen pair polygons _ _ e.number (take k order) _ e.side split)

      pub next_edge : get_or (angular_order pair) k none
          ≡ record { side = next_side pair k; number = support_after pair k (next_side pair k) }
      next_edge = rw (next-side, supports, own-here)

    abbrev none : PairEdge
    none = record { side = A; number = 0 }

    pub next-to-come : 0 < to_come pair k (next_side pair k)
    next-to-come = rw (next-side none, to-come none, own-here) (omega arith)

    pub step-to-come : (s : Side) → to_come pair (suc k) s ≡ cond (same_side s (next_side pair k)) (to_come pair k s - 1) (to_come pair k s)
    unfolding own
    step-to-come s =
        rw (next-side none, to-come none) (count-rest (same_side s (e none).side) (e none).number (own s (drop (suc k) order)))

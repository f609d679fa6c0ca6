-- The angular order is a sorted arrangement of exactly all edges, and in it each outline's own edges go round the
-- outline.
--     Rounds, polygons-go-round    both outlines' directions go round once; those of polygons do
--     order-arranges, order-members, order-length    it is an arrangement of all edges of both outlines
--     order-distinct       no edge stands twice
--     order-sorted         none is to come before an earlier one
--     order-not-falling    so directions do not fall
--     order-ties           and no edge of B stands before one of A that has its direction
--     own-iff              a side's own edges in a list are those of the list that are of that side
--     own-append           those in a joined list are those in its parts
--     first-own            the start of its first edge in a list is the first of them
--     own-members          a side's own edges in the order are all its edges
--     own-rising           their directions rise
--     own-cyclic           each is followed by the one that starts where it ends, and the last by the first
use Prim.Native.Nat.{ℕ, zero, suc, ◌<◌}
use native.Mathlib.Omega.{arith}
use mathlib.Core.Path.{◌≡◌, refl, sym, ◌∙◌}
use mathlib.Core.Logic.Iff
use mathlib.Core.Logic.{◌↔◌, ◌≢◌, ◌⊎◌, inl, inr, ⊎_elim, ∥∥₁_elim}
use mathlib.Core.HLevel.{⊥_prop, ¬_prop}
use mathlib.Core.Bool.{Bool, true, false, cond, ◌&&◌, Bool-set, true≢false, false≢true}
use mathlib.Core.List.Memᴰ
use mathlib.Core.List.{List, [], ◌∷◌, ◌++◌, Memᴰ}
use mathlib.Core.List.Perm
use mathlib.Core.List.Permᴰ
use mathlib.Core.List.{Permᴰ, Nodup, Nodup-append}
use mathlib.Core.List.Pairwise
use mathlib.Core.List.{Pairwise, rel_of_Pairwise-cons}
use mathlib.Core.List.{Pairwise-singleton}
use lib.ListN.{length, length-append}
use Rattle.integers.proofs.Reflect.{test-and, test-or, test-false}
use Rattle.plane.specs.Direction.{same_direction}
use Rattle.outline.specs.Corners.{edge}
use Rattle.outline.specs.declared.Side.{Side}
use Rattle.outline.specs.declared.Side.TheVariants.{A, B}
use Rattle.hausdorff.specs.Pair.{Pair, same_side, step_count}
use Rattle.hausdorff.specs.code.Pair.{Polygons}
use Rattle.hausdorff.specs.AngularOrder.{PairEdge, direction, precedes, edges_below, all_edges, angular_order}
use Rattle.lists.specs.Fold.{fold}
use Rattle.lists.specs.code.Lists.{head_or}
use Rattle.lists.proofs.FoldLaws.{joined-member}
use Rattle.hausdorff.specs.Support.{first_start}
use Rattle.hausdorff.specs.code.Own.{cons_if, own}
use Rattle.plane.proofs.Halves.{NonZero}
use Rattle.plane.proofs.DirectionLaws.{Before, before-asym, before-trans, before_split, same-iff, Along}
use Rattle.hausdorff.proofs.GoesRound.{GoesRound, polygon-goes-round}
use Rattle.lists.proofs.SortLaws.{related-cons, related-map, arranged-member, arranged-length}
use Rattle.lists.proofs.SortLaws.{sort-arranges, Sorted, sort_sorted}
use Rattle.hausdorff.proofs.Cyclic.{Rising, Cyclic, rising-cyclic}

-- both outlines' directions go round once
abbrev pub Rounds : Pair → Type 0
Rounds pair = (s : Side) → GoesRound (length (pair s)) (edge (pair s))

pub polygons-go-round : {pair : Pair} → Polygons pair → Rounds pair
polygons-go-round polygons s = polygon-goes-round (polygons s)

-- The sides are two.
A-not-B : A ≢ B
A-not-B same = let z : ◌≡◌ {A = ℕ} 0 1 = cc in omega arith

-- The edges of a side below n are those of that side with a number below n.
below-members : (s : Side) (n : ℕ) (e : PairEdge) → Memᴰ e (edges_below s n) ↔ ((e.side ≡ s) × (e.number < n))
below-members s n e = Iff.trans (joined-member _ n e) (
  λ (i, below, here). (let equal = Memᴰ.eq_of_singleton here in rw equal (refl, below)),
  λ (same, below). (e.number, below, Memᴰ.head (rw (← same))),
)

-- There are n of them.
below_length : (s : Side) (n : ℕ) → length (edges_below s n) ≡ n
unfolding fold
below_length s zero = refl
below_length s (suc n) = simp length-append (omega (arith, below_length s n))

-- Two lists without repeats and without a common member, one after the other, have no repeats.
joined-distinct : (ds es : List PairEdge) → Nodup ds → Nodup es → ((e : PairEdge) → Memᴰ e ds → ¬ Memᴰ e es)
    → Nodup (ds ++ es)
joined-distinct ds es first second apart = Nodup-append.1 (
  first,
  second,
  λ e here there. ∥∥₁_elim here ⊥_prop (λ in-ds. ∥∥₁_elim there ⊥_prop (apart e in-ds)),
)

-- Each stands there once.
below-distinct : (s : Side) (n : ℕ) → Nodup (edges_below s n)
unfolding fold
below-distinct s zero = Pairwise.nil
below-distinct s (suc n) = joined-distinct (edges_below s n) _ (below-distinct s n) (Pairwise-singleton _ _)
    (λ e here last. omega (arith, rw (Memᴰ.eq_of_singleton last) at ((below-members s n e).0 here).1))

-- An edge stays among a side's own where it is of that side.
cons_if-side : (s t : Side) (i : ℕ) (js : List ℕ)
    → ((s ≡ t) × (cons_if (same_side s t) i js ≡ i ∷ js)) ⊎ ((s ≢ t) × (cons_if (same_side s t) i js ≡ js))
cons_if-side A A i js = inl (refl, refl)
cons_if-side A B i js = inr (A-not-B, refl)
cons_if-side B A i js = inr (λ e. A-not-B (sym e), refl)
cons_if-side B B i js = inl (refl, refl)

pub own-iff : (s : Side) (i : ℕ) (es : List PairEdge) → Memᴰ i (own s es) ↔ Memᴰ (record { side = s; number = i }) es
unfolding own
own-iff s i [] = (λ there. absurd (Memᴰ.not-nil there), λ there. absurd (Memᴰ.not-nil there))
own-iff s i (e ∷ es) = elim (cons_if-side s e.side e.number (own s es)) [
  | inl (same, stays) ↦ rw stays (
    λ there. ⊎_elim (λ (equal : i ≡ e.number). Memᴰ.head (rw (same, equal))) (λ later. Memᴰ.tail ((own-iff s i es).0 later))
        (Memᴰ.cases_cons there),
    λ there. ⊎_elim (λ equal. Memᴰ.head (cc)) (λ later. Memᴰ.tail ((own-iff s i es).1 later)) (Memᴰ.cases_cons there),
  )
  | inr (other, goes) ↦ rw goes (
    λ there. Memᴰ.tail ((own-iff s i es).0 there),
    λ there. ⊎_elim (λ equal. absurd (other (cc))) (own-iff s i es).1 (Memᴰ.cases_cons there),
  )
]

-- An edge put before a joined list is put before its first part.
cons_if-append : (t : Bool) (i : ℕ) (js ks : List ℕ) → cons_if t i (js ++ ks) ≡ cons_if t i js ++ ks
cons_if-append true i js ks = refl
cons_if-append false i js ks = refl

pub own-append : (s : Side) (front rest : List PairEdge) → own s (front ++ rest) ≡ own s front ++ own s rest
unfolding own
own-append s [] rest = refl
own-append s (e ∷ front) rest =
    rw (own-append s front rest) (cons_if-append (same_side s e.side) e.number (own s front) (own s rest))

-- What relates the edges of a list in pairs relates a side's own.
own-related : {R : PairEdge → PairEdge → Type 0} → ((e f : PairEdge) → IsProp (R e f)) → (s : Side) (es : List PairEdge) → Pairwise R es
    → Pairwise (λ i j. R (record { side = s; number = i }) (record { side = s; number = j })) (own s es)
unfolding own
own-related one_way s [] related = Pairwise.nil
own-related one_way s (e ∷ es) related = elim (cons_if-side s e.side e.number (own s es)) [
  | inl (same, stays) ↦ rw stays (related-cons (λ i j. one_way _ _) (λ j there.
      let equal : e ≡ record { side = s; number = e.number } = rw same in
      rw equal at (rel_of_Pairwise-cons related ∣ (own-iff s j es).0 there ∣₁)) (own-related one_way s es (Pairwise.of_cons related)))
  | inr (other, goes) ↦ rw goes (own-related one_way s es (Pairwise.of_cons related))
]

module _ (pair : Pair) where
  pub order-arranges : Permᴰ (angular_order pair) (all_edges pair)
  unfolding angular_order
  order-arranges = sort-arranges (precedes pair) (all_edges pair)

  -- All edges are those of each side with a number below its count.
  all-members : (e : PairEdge) → Memᴰ e (all_edges pair) ↔ (e.number < length (pair e.side))
  all-members e = (
    λ there. ⊎_elim (λ in-a. let (same, below) = (below-members A (length (pair A)) e).0 in-a in rw same below)
        (λ in_b. let (same, below) = (below-members B (length (pair B)) e).0 in_b in rw same below)
        (Memᴰ.append_cases (edges_below A (length (pair A))) there),
    go e.side refl,
  )
    where
      go : (s : Side) → e.side ≡ s → e.number < length (pair e.side) → Memᴰ e (all_edges pair)
      go A same below = Memᴰ.append_left _ ((below-members A (length (pair A)) e).1 (same, rw same at below))
      go B same below = Memᴰ.append_right (edges_below A (length (pair A))) ((below-members B (length (pair B)) e).1 (same, rw same at below))

  pub order-members : (e : PairEdge) → Memᴰ e (angular_order pair) ↔ (e.number < length (pair e.side))
  order-members e = Iff.trans (arranged-member order-arranges, arranged-member (Permᴰ.symm order-arranges)) (all-members e)

  -- No edge stands twice.
  pub order-distinct : Nodup (angular_order pair)
  order-distinct = Perm.nodup ∣ Permᴰ.symm order-arranges ∣₁
      (joined-distinct (edges_below A (length (pair A))) (edges_below B (length (pair B))) (below-distinct A _) (below-distinct B _)
      (λ e in-a in_b. A-not-B (sym ((below-members A _ e).0 in-a).0 ∙ ((below-members B _ e).0 in_b).0)))

  pub order-length : length (angular_order pair) ≡ step_count pair
  order-length = arranged-length order-arranges ∙ simp (length-append, below_length)

  pub own-members : (s : Side) (i : ℕ) → Memᴰ i (own s (angular_order pair)) ↔ (i < length (pair s))
  own-members s i = Iff.trans (own-iff s i (angular_order pair)) (order-members (record { side = s; number = i }))

-- The start of a side's own first edge is the first of its own.
pub first-own : (es : List PairEdge) (s : Side) → first_start es s ≡ head_or 0 (own s es)
unfolding first_start own
first-own [] s = refl
first-own (e ∷ es) s = go (same_side s e.side) (first-own es s)
  where
    go : (t : Bool) → first_start es s ≡ head_or 0 (own s es)
        → cond t e.number (first_start es s) ≡ head_or 0 (cons_if t e.number (own s es))
    go true rest = refl
    go false rest = rest

-- the first is A and the second B
abbrev is_a_then_b : Side → Side → Bool
is_a_then_b s t = same_side s A && same_side t B

-- The test holds of A and B alone, in this order.
A-then-B : (s t : Side) → is_a_then_b s t ≡ true → (s ≡ A) × (t ≡ B)
A-then-B A A e = absurd (false≢true e)
A-then-B A B e = (refl, refl)
A-then-B B A e = absurd (false≢true e)
A-then-B B B e = absurd (false≢true e)

-- What comes second as an edge of B does not come first as one of A.
A-then-B-ends : (e f g : PairEdge) → is_a_then_b e.side f.side ≡ true → ¬ (is_a_then_b f.side g.side ≡ true)
A-then-B-ends e f g this that = A-not-B (sym (A-then-B f.side g.side that).0 ∙ (A-then-B e.side f.side this).1)

module _ (pair : Pair) where
  -- an edge's direction comes before another's, or they have the same and it is A's and the other B's
  abbrev Precedes : PairEdge → PairEdge → Type 0
  Precedes e f = Before (direction pair e) (direction pair f)
      ⊎ ((same_direction (direction pair e) (direction pair f) ≡ true) × (is_a_then_b e.side f.side ≡ true))

  -- This is what the test says.
  precedes-iff : (e f : PairEdge) → (precedes pair e f ≡ true) ↔ Precedes e f
  unfolding precedes
  precedes-iff e f = test-or _ _ Iff.rfl (test-and _ _ Iff.rfl Iff.rfl)

  -- It is a strict order on edges that are not 0.
  precedes-asym : (e f : PairEdge) → Precedes e f → ¬ Precedes f e
  precedes-asym e f (inl before) (inl back) = before-asym _ _ before back
  precedes-asym e f (inl before) (inr (same, _)) = ((same-iff _ _).0 same).1 before
  precedes-asym e f (inr (same, _)) (inl back) = ((same-iff _ _).0 same).1 back
  precedes-asym e f (inr (_, this)) (inr (_, that)) = A-then-B-ends e f e this that

  precedes-trans : (e f g : PairEdge) → NonZero (direction pair e) → NonZero (direction pair g)
      → Precedes e f → Precedes f g → Precedes e g
  precedes-trans e f g e-some g_some (inl before) (inl again) = inl (before-trans _ _ _ before again)
  precedes-trans e f g e-some g_some (inl before) (inr (same, _)) =
      inl (⊎_elim (λ h. h) (λ back. absurd (((same-iff _ _).0 same).1 back)) (before_split _ _ _ g_some before))
  precedes-trans e f g e-some g_some (inr (same, _)) (inl before) =
      inl (⊎_elim (λ back. absurd (((same-iff _ _).0 same).1 back)) (λ h. h) (before_split _ _ _ e-some before))
  precedes-trans e f g e-some g_some (inr (_, this)) (inr (_, that)) = absurd (A-then-B-ends e f g this that)

module _ (pair : Pair) (rounds : Rounds pair) where
  pub order-sorted : Sorted (precedes pair) (angular_order pair)
  unfolding angular_order
  order-sorted = sort_sorted (precedes pair) (λ e. e.number < length (pair e.side))
      (λ e f this. (test-false (precedes pair f e) (precedes-iff pair f e)).1 (precedes-asym pair e f ((precedes-iff pair e f).0 this)))
      (λ e f g e-known g_known this that. (precedes-iff pair e g).1 (precedes-trans pair e f g
      ((rounds e.side).nonzero e.number e-known) ((rounds g.side).nonzero g.number g_known)
      ((precedes-iff pair e f).0 this) ((precedes-iff pair f g).0 that)))
      (all_edges pair) (λ e. (all-members pair e).0)

  pub order-not-falling : Pairwise (λ e f. ¬ Before (direction pair f) (direction pair e)) (angular_order pair)
  order-not-falling = Pairwise.imp (λ e f later before. true≢false (sym ((precedes-iff pair f e).1 (inl before)) ∙ later)) order-sorted

  -- at equal direction A's edge comes first
  pub order-ties : Pairwise (λ e f. ¬ ((e.side ≡ B) × (f.side ≡ A) × Along (direction pair e) (direction pair f))) (angular_order pair)
  order-ties = Pairwise.imp (λ e f later (of_b, of_a, along).
      let this : is_a_then_b f.side e.side ≡ true = rw (of_a, of_b) in
      true≢false (sym ((precedes-iff pair f e).1 (inr ((same-iff _ _).1 (along.1, along.0), this))) ∙ later)) order-sorted

  pub own-rising : (s : Side) → Rising (edge (pair s)) (own s (angular_order pair))
  own-rising s = related-map (λ _ _. Bool-set _ _)
      (λ i j i-in j-in (other, not_back). ⊎_elim (λ before. before) (λ back. absurd (not_back back))
      ((rounds s).distinct i j ((own-members pair s i).0 i-in) ((own-members pair s j).0 j-in) (λ same. other (rw same))))
      (Pairwise.and (own-related (λ _ _. ¬_prop) s _ (order-distinct pair)) (own-related (λ _ _. ¬_prop) s _ order-not-falling))

  pub own-cyclic : (s : Side) → Cyclic (length (pair s)) (head_or 0 (own s (angular_order pair))) (own s (angular_order pair))
  own-cyclic s = rising-cyclic (rounds s) (own s (angular_order pair)) (own-rising s) (own-members pair s)

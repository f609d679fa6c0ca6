-- The pass over the edges of an outline that `nearest` makes. It stops at the first edge that has the nearest point.
--     NoPart, Means, part-means    what the part of an edge that `nearest_part` finds says of the tests
--     none_found           if no edge has a part that is nearest, v is in the piece
--     at-not-here, at_here    edge i has no such part; or it has the nearest point
--     Passing              the invariant: no edge before i has such a part, and the vector from v to the start of edge i
--     pass-start, pass-none     at the start; after the last edge the answer is Within
--     pass-vectors         at edge i its two vectors are known
--     pass_on, pass-here   it has not the nearest point, and the loop goes on; or it has
-- For the code of an edge:
--     vectors-not-here, vectors-right    its two vectors tell whether v is right of it; if not, it has no nearest point
--     vectors-span         they are in reach
--     Turn                 what is read: the ends of edge i and the corners before and after them
--     turn-read            they are read as they are held
--     turn-right           v is right of the edge
--     turn-answer          so what edge i has goes by its part
use Prim.Native.Nat.{ℕ, ◌+◌, ◌<◌, ◌≤◌}
use mathlib.Core.Path.{◌≡◌, refl, sym, ap, subst, ◌∙◌}
use mathlib.Core.Logic.{◌↔◌, ⊎_elim}
use mathlib.Core.Bool.{Bool, true, false, cond, true≢false}
use mathlib.Core.List.{List}
use native.Mathlib.Decide.{ℕ_discrete}
use native.Mathlib.Numerals.{add-one}
use native.Mathlib.Omega.{arith}
use lib.IntN.{pos}
use lib.ListN.{length}
use lib.Signed.{◌<ℤ◌}
use Rattle.std.specs.Prelude.{Option, Some, None}
use Rattle.std.proofs.lemmas.Option.{none-some, same_Some}
use Rattle.integers.proofs.Order.{<ℤ-lt_z, lt_z-true}
use Rattle.plane.specs.declared.Corner.{Corner}
use Rattle.plane.specs.declared.Vector.{Vector}
use Rattle.plane.specs.Range.{InRange}
use Rattle.plane.specs.Vector.{◌⇀◌, side}
use Rattle.plane.specs.code.Range.{Span, reach}
use Rattle.plane.specs.code.Tests.{is_right}
use Rattle.plane.specs.code.Turn.{turns_left}
use Rattle.plane.proofs.Algebra.{side-turn, side-back}
use Rattle.plane.proofs.Range.{span-difference}
use Rattle.outline.specs.code.Polygon.{Polygon}
use Rattle.outline.specs.Convex.{AllInRange, Accepted}
use Rattle.outline.specs.Corners.{corner, next, previous}
use Rattle.outline.proofs.EdgeLaws.{accepted-polygon}
use Rattle.outline.proofs.CornersLaws.{after-below, previous-below, next-suc, next-previous, previous-next}
use Rattle.nearest.specs.declared.Feature.{Feature}
use Rattle.nearest.specs.declared.NearestPoint.{NearestPoint}
use Rattle.projection.specs.declared.local.Part.{Part}
use Rattle.projection.specs.declared.local.Part.TheVariants.{Start, Between, End}
use Rattle.nearest.specs.Feature.{values, within_values}
use Rattle.nearest.specs.code.Local.{foot_is_between, corner_is_nearest, edge_is_nearest, is_corner, Tested, feature, nearest}
use Rattle.projection.specs.Part.{nearest_part}
use Rattle.projection.specs.AtEdge.{EdgeVectors, edge_answer_for, part_at, at_edge}
use Rattle.nearest.proofs.AnswerLaws.{feature-tested, feature-iff}
use Rattle.nearest.proofs.LocalLaws.{corner-visible}
use Rattle.nearest.proofs.Walk.{edge_test}

-- the edge from p to q, with the corners before and after it
module _ (v before p q after : Corner) where
  pub record NoPart : Type 0 where
    pub not-between : edge_is_nearest v p q ≡ false
    pub not_start : corner_is_nearest v before p q ≡ false
    pub not_end : corner_is_nearest v p q after ≡ false

  abbrev pub Means : Option Part → Type 0
  Means None = is_right p (p ⇀ q) v ≡ true → NoPart
  Means (Some Start) = corner_is_nearest v before p q ≡ true
  Means (Some Between) = edge_is_nearest v p q ≡ true
  Means (Some End) = corner_is_nearest v p q after ≡ true

  pub part-means : Means (nearest_part v before p q after)
  part-means =
      by_tests (is_right p (p ⇀ q) v) (foot_is_between v p q) (corner_is_nearest v before p q) (corner_is_nearest v p q after)
      refl refl refl refl
    where
      by_tests : (r b s e : Bool) → is_right p (p ⇀ q) v ≡ r → foot_is_between v p q ≡ b → corner_is_nearest v before p q ≡ s
          → corner_is_nearest v p q after ≡ e → Means (cond r (cond b (Some Between) (cond s (Some Start) (cond e (Some End) None))) None)
      by_tests false b s e right between start end = λ holds. absurd (true≢false (sym holds ∙ right))
      by_tests true true s e right between start end = rw (right, between)
      by_tests true false true e right between start end = start
      by_tests true false false true right between start end = end
      by_tests true false false false right between start end =
          λ holds. record { not-between = rw (right, between); not_start = start; not_end = end }

module _ (cs : List Corner) (v : Corner) where
  -- no part of edge i is nearest
  abbrev NoPartAt : ℕ → Type 0
  NoPartAt i =
      let n = length cs in let p = corner cs i in let q = corner cs (next n i) in
      is_right p (p ⇀ q) v ≡ true → NoPart v (corner cs (previous n i)) p q (corner cs (next n (next n i)))

  -- a feature whose test holds is a part of an edge that v is strictly right of
  none_found : Polygon cs → ((i : ℕ) → i < length cs → NoPartAt i) → (f : Feature) → Tested cs v f → f ≡ Feature.Within
  none_found polygon none Feature.Within holds = refl
  none_found polygon none (Feature.Corner i) (below, holds) = ⊎_elim
      (λ out. absurd (true≢false (sym holds ∙ (none i below out).not_start)))
      (λ into. let b = previous (length cs) i in
      let is = next-previous (length cs) i below in
      absurd (true≢false (sym holds ∙ ((rw is at (none b (previous-below (length cs) i below))) into).not_end)))
      (corner-visible polygon v i below holds)
  none_found polygon none (Feature.Edge i) (below, holds) =
      let right = <ℤ-lt_z ((edge_test v _ _).0 holds).0 in
      absurd (true≢false (sym holds ∙ (none i below right).not-between))

module _ (cs : List Corner) (v : Corner) (i : ℕ) where
  -- the part that is found says which tests hold
  means : (r : Option Part) → part_at cs v i ≡ r
      → (let n = length cs in
      Means v (corner cs (previous n i)) (corner cs i) (corner cs (next n i)) (corner cs (next n (next n i))) r)
  means r e = subst (Means v _ _ _ _) e (part-means v _ _ _ _)

  -- nothing is found: no part is nearest
  pub at-not-here : at_edge cs v i ≡ None → NoPartAt cs v i
  unfolding at_edge
  at-not-here = go (part_at cs v i) refl
    where
      j : ℕ
      j = next (length cs) i

      go : (r : Option Part) → part_at cs v i ≡ r → edge_answer_for v i j (corner cs i) (corner cs j) r ≡ None → NoPartAt cs v i
      go None e nothing = means None e
      go (Some Start) e nothing = absurd (none-some _ (sym nothing))
      go (Some Between) e nothing = absurd (none-some _ (sym nothing))
      go (Some End) e nothing = absurd (none-some _ (sym nothing))

  -- what is found is the nearest point, since only one feature's test holds
  pub at_here : {a : NearestPoint} → Polygon cs → i < length cs → at_edge cs v i ≡ Some a → a ≡ nearest cs v
  unfolding at_edge
  at_here {a} polygon known = go (part_at cs v i) refl
    where
      j : ℕ
      j = next (length cs) i

      found : (f : Feature) → Tested cs v f → values cs v f ≡ nearest cs v
      found f holds = ap (values cs v) (sym ((feature-iff polygon v f).1 holds))

      go : (r : Option Part) → part_at cs v i ≡ r → edge_answer_for v i j (corner cs i) (corner cs j) r ≡ Some a → a ≡ nearest cs v
      go None e is = absurd (none-some _ is)
      go (Some Start) e is = sym (same_Some _ _ is) ∙ found (Feature.Corner i) (known, means (Some Start) e)
      go (Some Between) e is = sym (same_Some _ _ is) ∙ found (Feature.Edge i) (known, means (Some Between) e)
      go (Some End) e is =
          let holds : is_corner cs v j ≡ true = rw (previous-next (length cs) i known) (means (Some End) e) in
          sym (same_Some _ _ is) ∙ found (Feature.Corner j) (after-below refl known, holds)

-- v is strictly right of the edge from p to q: seen from v, p is to the left of q
right-iff : (v p q : Corner) → (turns_left (v ⇀ q) (v ⇀ p) ≡ true) ↔ (is_right p (p ⇀ q) v ≡ true)
right-iff v p q = (
  λ left. let here : pos 0 <ℤ side v q p = lt_z-true left in
      <ℤ-lt_z ((side-back p q v).0 (rw (side-turn v q p) at here)),
  λ right. <ℤ-lt_z (rw (← side-turn v q p) at ((side-back p q v).1 (lt_z-true right))),
)

module _ {cs : List Corner} {v : Corner} {i : ℕ} {to_start to_end : Vector} (seen : EdgeVectors cs v i to_start to_end) where
  -- so where it is not, there is nothing to find
  pub vectors-not-here : turns_left to_end to_start ≡ false → None ≡ at_edge cs v i
  unfolding at_edge
  vectors-not-here not_left = rw not_right
    where
      p : Corner
      p = corner cs i

      q : Corner
      q = corner cs (next (length cs) i)

      not_right : is_right p (p ⇀ q) v ≡ false
      not_right = go (is_right p (p ⇀ q) v) refl
        where
          go : (t : Bool) → is_right p (p ⇀ q) v ≡ t → t ≡ false
          go false e = refl
          go true e = absurd (true≢false (sym ((right-iff v p q).1 e) ∙ (rw (seen.start, seen.end) at not_left)))

  -- and where it is, an end of the edge, or a point between, may be nearest
  pub vectors-right : turns_left to_end to_start ≡ true
      → is_right (corner cs i) (corner cs i ⇀ corner cs (next (length cs) i)) v ≡ true
  vectors-right left = (right-iff v _ _).0 (rw (seen.start, seen.end) at left)

  pub vectors-span : AllInRange cs → InRange v → Span reach to_start × Span reach to_end
  vectors-span all all_in_range = (
    span-difference seen.start all_in_range (all i seen.known),
    span-difference seen.end all_in_range (all _ (after-below refl seen.known)),
  )

-- the invariant: no edge before i has a part that is nearest
pub record Passing (cs : List Corner) (v : Corner) (n i : ℕ) (to_start : Vector) : Type 0 where
  pub counted : n ≡ length cs
  pub none : (k : ℕ) → k < i → NoPartAt cs v k
  pub start : i < n → to_start ≡ v ⇀ corner cs i

pub pass-start : {cs : List Corner} {v : Corner} {n : ℕ} {to_start : Vector} → n ≡ length cs
    → to_start ≡ v ⇀ corner cs 0 → Passing cs v n 0 to_start
pass-start counted start = record { counted = counted; none = λ k below. absurd (omega arith); start = λ below. start }

module _ {cs : List Corner} {v : Corner} {n i : ℕ} {to_start : Vector} (pass : Passing cs v n i to_start) where
  pub pass-none : Accepted cs → n ≤ i → within_values v ≡ nearest cs v
  pass-none ok past =
      let none = none_found cs v (accepted-polygon ok) (λ k below. pass.none k (omega (arith, pass.counted))) in
      ap (values cs v) (sym (none (feature cs v) (feature-tested cs v)))

  module _ (known : i < n) {j : ℕ} {to_end : Vector} (following : j ≡ next n i) (end : to_end ≡ v ⇀ corner cs j) where
    pub pass-vectors : EdgeVectors cs v i to_start to_end
    pass-vectors = record {
      known = omega (arith, pass.counted);
      start = pass.start known;
      end = rw (following, pass.counted) at end;
    }

    module _ {found : Option NearestPoint} (is : found ≡ at_edge cs v i) where
      -- nothing is found there: the next edge begins where this one ends
      pub pass_on : found ≡ None → Passing cs v n (i + 1) to_end
      pass_on nothing = record {
        counted = pass.counted;
        none = λ k below. elim (ℕ_discrete k i) [
          | yes last ↦ rw last (at-not-here cs v i (sym is ∙ nothing))
          | no other ↦ pass.none k (omega arith)
        ];
        start = λ more. rw (end, following, next-suc n i (omega arith), add-one);
      }

      pub pass-here : {a : NearestPoint} → Accepted cs → found ≡ Some a → a ≡ nearest cs v
      pass-here ok here = at_here cs v i (accepted-polygon ok) pass-vectors.known (sym is ∙ here)

pub record Turn (cs : List Corner) (i j : ℕ) (before p q after : Corner) : Type 0 where
  pub known : i < length cs
  pub following : j ≡ next (length cs) i
  pub before_is : before ≡ corner cs (previous (length cs) i)
  pub start_is : p ≡ corner cs i
  pub end_is : q ≡ corner cs j
  pub after_is : after ≡ corner cs (next (length cs) j)

pub turn-read : {cs : List Corner} {n i j b a : ℕ} {before p q after : Corner} → n ≡ length cs → i < n
    → j ≡ next n i → b ≡ previous n i → a ≡ next n j → before ≡ corner cs b → p ≡ corner cs i → q ≡ corner cs j
    → after ≡ corner cs a → Turn cs i j before p q after
turn-read counted known j-is b-is a-is before_is start_is end_is after_is = record {
  known = omega arith;
  following = rw counted at j-is;
  before_is = rw (b-is, counted) at before_is;
  start_is = start_is;
  end_is = end_is;
  after_is = rw (a-is, counted) at after_is;
}

module _ {cs : List Corner} {i j : ℕ} {before p q after : Corner} (turn : Turn cs i j before p q after) where
  pub turn-right : (v : Corner) → is_right (corner cs i) (corner cs i ⇀ corner cs (next (length cs) i)) v ≡ true
      → is_right p (p ⇀ q) v ≡ true
  turn-right v right = rw (turn.start_is, turn.end_is, turn.following) right

  -- what is found there
  pub turn-answer : (v : Corner) {part : Option Part} → part ≡ nearest_part v before p q after → (r : Option Part) → part ≡ r
      → edge_answer_for v i j p q r ≡ at_edge cs v i
  unfolding at_edge
  turn-answer v is r e =
      let n = length cs in
      let end : q ≡ corner cs (next n i) = turn.end_is ∙ ap (corner cs) turn.following in
      let later : after ≡ corner cs (next n (next n i)) =
      turn.after_is ∙ ap (λ (k : ℕ). corner cs (next n k)) turn.following in
      let part-is : r ≡ part_at cs v i =
      sym e ∙ is ∙ λ k. nearest_part v (turn.before_is k) (turn.start_is k) (end k) (later k) in
      λ k. edge_answer_for v i (turn.following k) (turn.start_is k) (end k) (part-is k)

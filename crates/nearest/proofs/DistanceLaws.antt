-- Gaps are squared distances, and compare as these do.
--     IsSquaredDistance   a fraction is |v - y|², as a value
--     Known               a corner or edge of the outline, or Within
--     values-distance     the gap that is answered with a feature is the squared distance of the point that is answered
--     gap-order           of two squared distances from v one is at most the other, as fractions, exactly where its
--                         point is not farther
--     gap-order-strict    and less exactly where its point is nearer
--     squared_distance-is  `squared_distance` is that of two points with lower numbers above 0
--     distance-same       fractions that are the squared distance of the same points are equal as values
use Prim.Native.Nat.{◌*◌, ◌<◌}
use native.Mathlib.Nat.{le_antisymm, lt_of_not-le, not-le_of_lt}
use mathlib.Core.Path.{◌≡◌, ap, ◌∙◌}
use mathlib.Core.Logic.Iff
use mathlib.Core.Logic.{◌↔◌}
use mathlib.Core.List.{List, [], ◌∷◌}
use lib.Dec.{T}
use lib.IntN.{ℤ, pos, ◌+ℤ◌, ◌-ℤ◌, ◌*ℤ◌}
use lib.ListN.{length}
use lib.Signed.{◌<ℤ◌, ≤ℤ_refl, clash_ℤ}
use Rattle.integers.specs.declared.fraction.Fraction.{Fraction}
use Rattle.integers.specs.Fraction.{NotGreater, SameValue}
use Rattle.integers.proofs.Polynomial.{var, lit, ◌⊕◌, ◌⊗◌, ⊝◌, solve}
use Rattle.integers.proofs.Certificate.{Claim, ◌≺◌, ◌≼◌, ◌≗◌, Holds, Cert, hyp, sq, eqn, ◌⊞◌, ◌⊠◌, proves, prove}
use Rattle.integers.proofs.Order.{≰ℤ-<ℤ, nat_abs-nonneg, square-nonneg, *ℤ-pos}
use Rattle.integers.proofs.Ring.{*ℤ-assoc}
use Rattle.integers.proofs.Reflect.{≤-≤ℤ}
use Rattle.plane.specs.declared.Corner.{Corner}
use Rattle.plane.specs.declared.Point.{Point}
use Rattle.plane.specs.declared.Vector.{Vector}
use Rattle.plane.specs.Point.{Proper, whole, ◌⇢◌, squared_distance}
use Rattle.plane.specs.Vector.{◌⇀◌, cross, dot, coordinates}
use Rattle.plane.proofs.Algebra.{O, vec, cross_e, dot_e, ◌⇀E◌, dot-self}
use Rattle.plane.proofs.Points.{NotFarther, Nearer, PointE, whole_e, ◌⇢E◌, whole-proper, whole-⇢}
use Rattle.outline.specs.code.Polygon.{Polygon}
use Rattle.outline.specs.Corners.{corner, edge}
use Rattle.nearest.specs.declared.Feature.{Feature}
use Rattle.nearest.specs.Feature.{values}
use Rattle.outline.proofs.EdgeLaws.{lower-above-0}

-- |v - y|² is dot (y ⇢ v) (y ⇢ v) over the square of both lower numbers; the equation is multiplied out
pub record IsSquaredDistance (v y : Point) (g : Fraction) : Type 0 where
  pub from_proper : Proper v
  pub to_proper : Proper y
  pub lower_positive : pos 0 <ℤ pos g.lower
  pub equal : pos g.upper *ℤ (pos y.lower *ℤ pos v.lower) *ℤ (pos y.lower *ℤ pos v.lower)
      ≡ dot (y ⇢ v) (y ⇢ v) *ℤ pos g.lower

-- a corner or edge of the outline, or Within
abbrev pub Known : List Corner → Feature → Type 0
Known cs Feature.Within = Unit {0}
Known cs (Feature.Corner i) = i < length cs
Known cs (Feature.Edge i) = i < length cs

-- n is the squared distance of two points with whole coordinates
whole-distance : (c v : Corner) {n : ℤ} → n ≡ dot (c ⇀ v) (c ⇀ v)
    → n *ℤ (pos 1 *ℤ pos 1) *ℤ (pos 1 *ℤ pos 1) ≡ dot (whole c ⇢ whole v) (whole c ⇢ whole v) *ℤ pos 1
whole-distance c v {n} distance =
    rw (whole-⇢ c v, ← distance) (solve (n ∷ []) (var 0 ⊗ lit (pos 1) ⊗ lit (pos 1)) (var 0 ⊗ lit (pos 1)) tt)

-- The vector to v from its foot on the line through p along e, times the foot's lower number |e|², here l.
abbrev from_foot : Corner → Vector → Corner → ℤ → Vector
from_foot p e v l = record {
  x = v.x *ℤ l -ℤ (dot e e *ℤ p.x +ℤ dot (p ⇀ v) e *ℤ e.x) *ℤ pos 1;
  y = v.y *ℤ l -ℤ (dot e e *ℤ p.y +ℤ dot (p ⇀ v) e *ℤ e.y) *ℤ pos 1;
}

-- Its squared length is |e|² times the square n of the side number.
foot-distance : (p : Corner) (e : Vector) (v : Corner) {n l : ℤ} → n ≡ cross e (p ⇀ v) *ℤ cross e (p ⇀ v) → l ≡ dot e e
    → n *ℤ (l *ℤ pos 1) *ℤ (l *ℤ pos 1) ≡ dot (from_foot p e v l) (from_foot p e v l) *ℤ l
unfolding cross dot ◌⇀◌
foot-distance p e v square length =
    let p' = vec 0 in let e' = vec 2 in let v' = vec 4 in let one = lit (pos 1) in
    let l = dot_e e' e' in let t = dot_e (p' ⇀E v') e' in let s = cross_e e' (p' ⇀E v') in
    let foot : PointE = record { x = l ⊗ p'.x ⊕ t ⊗ e'.x; y = l ⊗ p'.y ⊕ t ⊗ e'.y; lower = l } in
    let w = foot ⇢E whole_e v' in
    rw (square, length)
    (solve (p.x ∷ p.y ∷ e.x ∷ e.y ∷ v.x ∷ v.y ∷ []) (s ⊗ s ⊗ (l ⊗ one) ⊗ (l ⊗ one)) (dot_e w w ⊗ l) tt)

module _ {cs : List Corner} (polygon : Polygon cs) (v : Corner) where
  -- both lower numbers are above 0: 1, or an edge's squared length
  lowers : (f : Feature) → Known cs f → (pos 0 <ℤ pos (values cs v f).gap.lower) × Proper (values cs v f).point
  lowers Feature.Within known = (whole-proper v, whole-proper v)
  lowers (Feature.Corner i) known = (whole-proper v, whole-proper v)
  lowers (Feature.Edge i) known =
      let long = lower-above-0 polygon i known in (long, long)

  equal : (f : Feature)
      → pos (values cs v f).gap.upper *ℤ (pos (values cs v f).point.lower *ℤ pos 1) *ℤ (pos (values cs v f).point.lower *ℤ pos 1)
      ≡ dot ((values cs v f).point ⇢ whole v) ((values cs v f).point ⇢ whole v) *ℤ pos (values cs v f).gap.lower
  unfolding dot ◌⇀◌ ◌⇢◌
  equal Feature.Within = whole-distance v v (solve (coordinates (v ∷ [])) O (dot_e (vec 0 ⇀E vec 0) (vec 0 ⇀E vec 0)) tt)
  equal (Feature.Corner i) = whole-distance (corner cs i) v (nat_abs-nonneg (dot-self (corner cs i ⇀ v)))
  equal (Feature.Edge i) =
      foot-distance (corner cs i) (edge cs i) v
      (nat_abs-nonneg (square-nonneg (cross (edge cs i) (corner cs i ⇀ v)))) (nat_abs-nonneg (dot-self (edge cs i)))

  pub values-distance : (f : Feature) → Known cs f → IsSquaredDistance (whole v) (values cs v f).point (values cs v f).gap
  values-distance f known = record {
    from_proper = whole-proper v;
    to_proper = (lowers f known).1;
    lower_positive = (lowers f known).0;
    equal = equal f;
  }

-- With a/k and b/l the fractions, d and e the squared distances times the squares of the lower numbers r and t, s
-- and t: the cross products a l and b k, times (r s t)², are the two sides of `NotFarther`, times k l.
module _ {v y z : Point} {g h : Fraction} (at_y : IsSquaredDistance v y g) (at-z : IsSquaredDistance v z h) where
  pub gap-order : NotGreater g h ↔ NotFarther v y z
  gap-order =
      let a = var 0 in let k = var 1 in let b = var 2 in let l = var 3 in
      let d = var 4 in let e = var 5 in let r = var 6 in let s = var 7 in let t = var 8 in
      let numbers : List ℤ = pos g.upper ∷ pos g.lower ∷ pos h.upper ∷ pos h.lower
      ∷ dot (y ⇢ v) (y ⇢ v) ∷ dot (z ⇢ v) (z ⇢ v) ∷ pos y.lower ∷ pos z.lower ∷ pos v.lower ∷ [] in
      let hypotheses : Claim → List Claim = λ c. a ⊗ (r ⊗ t) ⊗ (r ⊗ t) ≗ d ⊗ k ∷ b ⊗ (s ⊗ t) ⊗ (s ⊗ t) ≗ e ⊗ l
      ∷ O ≺ k ∷ O ≺ l ∷ O ≺ r ∷ O ≺ s ∷ O ≺ t ∷ c ∷ [] in
      let from : (c goal : Claim) (w : Cert) → T (proves (hypotheses c) goal w) → Holds numbers c → Holds numbers goal =
      λ c goal w sound. prove numbers (hypotheses c) goal w sound at_y.equal at-z.equal
      at_y.lower_positive at-z.lower_positive at_y.to_proper at-z.to_proper at_y.from_proper in
      let at_most = a ⊗ l ≼ b ⊗ k in let not-farther = d ⊗ (s ⊗ s) ≼ e ⊗ (r ⊗ r) in
      Iff.trans (≤-≤ℤ (g.upper * h.lower) (h.upper * g.lower)) (
        from at_most not-farther
            (hyp 0 ⊠ hyp 3 ⊠ hyp 4 ⊞ hyp 8 ⊠ sq (r ⊗ s ⊗ t) ⊞ eqn 1 (⊝ (l ⊗ s ⊗ s)) ⊞ eqn 2 (k ⊗ r ⊗ r)) tt,
        from not-farther at_most
            (hyp 0 ⊠ hyp 5 ⊠ hyp 5 ⊠ hyp 6 ⊠ hyp 6 ⊠ hyp 7 ⊠ hyp 7 ⊞ hyp 8 ⊠ hyp 3 ⊠ hyp 4 ⊞ eqn 1 (l ⊗ s ⊗ s) ⊞ eqn 2 (⊝ (k ⊗ r ⊗ r))) tt,
      )

pub gap-order-strict : {v y z : Point} {g h : Fraction} → IsSquaredDistance v y g → IsSquaredDistance v z h
    → (g.upper * h.lower < h.upper * g.lower) ↔ Nearer v y z
gap-order-strict at_y at-z =
    let back = gap-order at-z at_y in
    (λ less. ≰ℤ-<ℤ (λ h. not-le_of_lt less (back.1 h)), λ nearer. lt_of_not-le (λ h. clash_ℤ nearer (back.0 h)))

-- the upper number is the size of a sum of squares, and so that sum
pub squared_distance-is : (p q : Point) → Proper p → Proper q → IsSquaredDistance p q (squared_distance p q)
squared_distance-is p q from to =
    let r = pos q.lower *ℤ pos p.lower in let above = *ℤ-pos to from in
    record {
      from_proper = from;
      to_proper = to;
      lower_positive = *ℤ-pos above above;
      equal = *ℤ-assoc (pos (squared_distance p q).upper) r r
          ∙ ap (λ z. z *ℤ (r *ℤ r)) (nat_abs-nonneg (dot-self (q ⇢ p)));
    }

-- neither is greater, for no point is farther than itself
pub distance-same : {v y : Point} {g h : Fraction} → IsSquaredDistance v y g → IsSquaredDistance v y h → SameValue g h
distance-same one other = le_antisymm ((gap-order one other).1 (≤ℤ_refl _)) ((gap-order other one).1 (≤ℤ_refl _))

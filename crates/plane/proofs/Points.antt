-- The algebra of points with fractions for coordinates.
-- As expressions, for `solve` and `prove`:
--     pt i             the point whose x, y and lower number are the variables i, i + 1 and i + 2
--     whole_e, ◌⇢E◌     whole and ◌⇢◌ of these
--     numbers          the numbers of some points: the k-th is pt (3 k)
-- Distances from one point, multiplied out:
--     farness               the squared distance from v to y, on the scale that compares it with that from v to z
--     NotFarther, Nearer    y is not farther from v than z; y is nearer to v than z
-- Laws:
--     whole-proper, whole-⇢           a corner as a point: its lower number is above 0, and ◌⇢◌ of two corners is ◌⇀◌
--     dot-self-0                      the vector from a point to itself is 0, and so is its dot with any
--     line-end                        a point's side number against an edge, from the edge's other end
--     dot-trans                       if q is not farther in the direction u than p, nor r than q, then r is not
--                                     farther than p
--     same_refl, same-sym, same-trans, same?    being the same point is an equivalence, and it is decided
--     not-apart                       points at squared distance 0 are the same
--     obtuse-not-farther, obtuse-nearer    where the angle at y from v to z is not acute, y is not farther from v
--                                          than z, and nearer
--                                     unless z is the same point
--     obtuse-twice                    where that at z from v to y is not acute either, y and z are the same point
use Prim.Native.Nat.{ℕ, suc}
use mathlib.Core.Path.{◌≡◌, refl, sym}
use mathlib.Core.List.{List, [], ◌∷◌}
use lib.IntN.{ℤ, pos, ◌+ℤ◌, ◌-ℤ◌, ◌*ℤ◌, +ℤ_comm, ℤ_discrete}
use lib.Signed.{◌≤ℤ◌, ◌<ℤ◌}
use Rattle.integers.proofs.Polynomial.{Expr, var, lit, ◌⊕◌, ◌⊖◌, ◌⊗◌, solve}
use Rattle.integers.proofs.Certificate.{◌≺◌, ◌≼◌, ◌≗◌, hyp, num, sq, eqn, ◌⊞◌, ◌⊠◌, prove}
use Rattle.plane.specs.declared.Corner.{Corner}
use Rattle.plane.specs.declared.Point.{Point}
use Rattle.plane.specs.declared.Vector.{Vector}
use Rattle.plane.specs.Point.{Proper, whole, ◌⇢◌, Same}
use Rattle.plane.specs.Vector.{◌⇀◌, cross, dot}
use Rattle.plane.proofs.Algebra.{VecE, O, vec, cross_e, dot_e, ◌⇀E◌}

pub record PointE : Type 0 where
  pub x : Expr
  pub y : Expr
  pub lower : Expr

abbrev pub pt : ℕ → PointE
pt i = record { x = var i; y = var (suc i); lower = var (suc (suc i)) }

abbrev pub whole_e : VecE → PointE
whole_e p = record { x = p.x; y = p.y; lower = lit (pos 1) }

infix 60 ◌⇢E◌
abbrev pub ◌⇢E◌ : PointE → PointE → VecE
p ⇢E q = record { x = q.x ⊗ p.lower ⊖ p.x ⊗ q.lower; y = q.y ⊗ p.lower ⊖ p.y ⊗ q.lower }

-- |v - y|² is dot (y ⇢ v) (y ⇢ v) over the square of both lower numbers, of which v's stands on both sides
abbrev farness : Point → Point → Point → ℤ
farness v y z = dot (y ⇢ v) (y ⇢ v) *ℤ (pos z.lower *ℤ pos z.lower)

abbrev pub NotFarther : Point → Point → Point → Type 0
NotFarther v y z = farness v y z ≤ℤ farness v z y

abbrev pub Nearer : Point → Point → Point → Type 0
Nearer v y z = farness v y z <ℤ farness v z y

abbrev farness_e : PointE → PointE → PointE → Expr
farness_e v y z = dot_e (y ⇢E v) (y ⇢E v) ⊗ (z.lower ⊗ z.lower)

abbrev pub numbers : List Point → List ℤ
numbers [] = []
numbers (z ∷ zs) = z.x ∷ z.y ∷ pos z.lower ∷ numbers zs

pub whole-proper : (p : Corner) → Proper (whole p)
whole-proper p = record { lt = tt }

pub whole-⇢ : (p q : Corner) → whole p ⇢ whole q ≡ p ⇀ q
unfolding ◌⇢◌ ◌⇀◌
whole-⇢ p q = λ i. record { x = times-1 p.x q.x i; y = times-1 p.y q.y i }
  where
    times-1 : (a b : ℤ) → b *ℤ pos 1 -ℤ a *ℤ pos 1 ≡ b -ℤ a
    times-1 a b = solve (a ∷ b ∷ []) (var 1 ⊗ lit (pos 1) ⊖ var 0 ⊗ lit (pos 1)) (var 1 ⊖ var 0) tt

pub dot-self-0 : (z : Point) (u : Vector) → dot (z ⇢ z) u ≡ pos 0
unfolding dot ◌⇢◌
dot-self-0 z u = solve (u.x ∷ u.y ∷ numbers (z ∷ [])) (dot_e (pt 2 ⇢E pt 2) (vec 0)) O tt

pub line-end : (p q : Corner) (z : Point) → cross (p ⇀ q) (whole p ⇢ z) ≡ cross (p ⇀ q) (whole q ⇢ z)
unfolding cross ◌⇀◌ ◌⇢◌
line-end p q z =
    let p' = vec 0 in let q' = vec 2 in let z' = pt 4 in
    solve (p.x ∷ p.y ∷ q.x ∷ q.y ∷ numbers (z ∷ [])) (cross_e (p' ⇀E q') (whole_e p' ⇢E z')) (cross_e (p' ⇀E q') (whole_e q' ⇢E z')) tt

pub dot-trans : (u : Vector) (p q r : Point) → Proper p → Proper q → Proper r
    → dot u (p ⇢ q) ≤ℤ pos 0 → dot u (q ⇢ r) ≤ℤ pos 0 → dot u (p ⇢ r) ≤ℤ pos 0
unfolding dot ◌⇢◌
dot-trans u p q r =
    let u' = vec 0 in let p' = pt 2 in let q' = pt 5 in let r' = pt 8 in
    prove (u.x ∷ u.y ∷ numbers (p ∷ q ∷ r ∷ []))
    (O ≺ p'.lower ∷ O ≺ q'.lower ∷ O ≺ r'.lower ∷ dot_e u' (p' ⇢E q') ≼ O ∷ dot_e u' (q' ⇢E r') ≼ O ∷ []) (dot_e u' (p' ⇢E r') ≼ O)
    (hyp 0 ⊠ hyp 2 ⊞ hyp 3 ⊠ hyp 4 ⊞ hyp 1 ⊠ hyp 5) tt

pub same_refl : (y : Point) → Same y y
same_refl y = record { same_x = refl; same_y = refl }

pub same-sym : {y z : Point} → Same y z → Same z y
same-sym same = record { same_x = sym same.same_x; same_y = sym same.same_y }

-- the middle point's lower number is divided out
pub same-trans : {w y z : Point} → Proper y → Same w y → Same y z → Same w z
same-trans {w} {y} {z} proper a b = record {
  same_x = equal-trans w.x y.x z.x a.same_x b.same_x;
  same_y = equal-trans w.y y.y z.y a.same_y b.same_y;
}
  where
    equal-trans : (a b c : ℤ) → a *ℤ pos y.lower ≡ b *ℤ pos w.lower → b *ℤ pos z.lower ≡ c *ℤ pos y.lower
        → a *ℤ pos z.lower ≡ c *ℤ pos w.lower
    equal-trans a b c =
        let k = var 3 in let l = var 4 in let m = var 5 in
        prove (a ∷ b ∷ c ∷ pos w.lower ∷ pos y.lower ∷ pos z.lower ∷ [])
        (O ≺ l ∷ var 0 ⊗ l ≗ var 1 ⊗ k ∷ var 1 ⊗ m ≗ var 2 ⊗ l ∷ []) (var 0 ⊗ m ≗ var 2 ⊗ k)
        (hyp 0 ⊠ hyp 1 ⊞ eqn 2 m ⊞ eqn 3 k) tt proper

-- and whether two points are the same can be decided
pub same? : (y z : Point) → Dec (Same y z)
same? y z = go (ℤ_discrete _ _) (ℤ_discrete _ _)
  where
    go : Dec (y.x *ℤ pos z.lower ≡ z.x *ℤ pos y.lower) → Dec (y.y *ℤ pos z.lower ≡ z.y *ℤ pos y.lower) → Dec (Same y z)
    go (yes x) (yes y) = yes (record { same_x = x; same_y = y })
    go (yes x) (no other) = no (λ same. other same.same_y)
    go (no other) y = no (λ same. other same.same_x)

-- a sum of squares is not above 0 only where both are of 0
pub not-apart : (y z : Point) → dot (y ⇢ z) (y ⇢ z) ≤ℤ pos 0 → Same y z
unfolding dot ◌⇢◌
not-apart y z close =
    let d = y ⇢ z in
    record { same_x = equal _ _ d.y close; same_y = equal _ _ d.x (rw (+ℤ_comm (d.x *ℤ d.x) (d.y *ℤ d.y)) at close) }
  where
    equal : (a b c : ℤ) → ((b -ℤ a) *ℤ (b -ℤ a) +ℤ c *ℤ c) ≤ℤ pos 0 → a ≡ b
    equal a b c =
        let d = var 1 ⊖ var 0 in
        prove (a ∷ b ∷ c ∷ []) (d ⊗ d ⊕ var 2 ⊗ var 2 ≼ O ∷ []) (var 0 ≗ var 1) (hyp 0 ⊠ hyp 0 ⊞ sq (var 2) ⊞ hyp 1) tt

-- |v - z|² = |v - y|² - 2 (v - y)·(z - y) + |z - y|²
pub obtuse-not-farther : (v y z : Point) → Proper v → Proper z → dot (y ⇢ v) (y ⇢ z) ≤ℤ pos 0 → NotFarther v y z
unfolding dot ◌⇢◌
obtuse-not-farther v y z =
    let v' = pt 0 in let y' = pt 3 in let z' = pt 6 in let d = y' ⇢E z' in
    prove (numbers (v ∷ y ∷ z ∷ [])) (O ≺ v'.lower ∷ O ≺ z'.lower ∷ dot_e (y' ⇢E v') d ≼ O ∷ []) (farness_e v' y' z' ≼ farness_e v' z' y')
    (hyp 0 ⊞ num 1 ⊠ hyp 1 ⊠ hyp 2 ⊠ hyp 3 ⊞ sq (v'.lower ⊗ d.x) ⊞ sq (v'.lower ⊗ d.y)) tt

pub obtuse-nearer : (v y z : Point) → Proper v → Proper z → dot (y ⇢ v) (y ⇢ z) ≤ℤ pos 0 → pos 0 <ℤ dot (y ⇢ z) (y ⇢ z) → Nearer v y z
unfolding dot ◌⇢◌
obtuse-nearer v y z =
    let v' = pt 0 in let y' = pt 3 in let z' = pt 6 in let d = y' ⇢E z' in
    prove (numbers (v ∷ y ∷ z ∷ [])) (O ≺ v'.lower ∷ O ≺ z'.lower ∷ dot_e (y' ⇢E v') d ≼ O ∷ O ≺ dot_e d d ∷ [])
    (farness_e v' y' z' ≺ farness_e v' z' y') (hyp 0 ⊞ num 1 ⊠ hyp 1 ⊠ hyp 2 ⊠ hyp 3 ⊞ hyp 1 ⊠ hyp 1 ⊠ hyp 4) tt

-- |z - y|² = (v - y)·(z - y) + (v - z)·(y - z)
pub obtuse-twice : (v y z : Point) → Proper v → Proper y → Proper z
    → dot (y ⇢ v) (y ⇢ z) ≤ℤ pos 0 → dot (z ⇢ v) (z ⇢ y) ≤ℤ pos 0 → Same y z
unfolding dot ◌⇢◌
obtuse-twice v y z pv py pz a b =
    let v' = pt 0 in let y' = pt 3 in let z' = pt 6 in let d = y' ⇢E z' in
    not-apart y z (prove (numbers (v ∷ y ∷ z ∷ []))
    (O ≺ v'.lower ∷ O ≺ y'.lower ∷ O ≺ z'.lower ∷ dot_e (y' ⇢E v') d ≼ O ∷ dot_e (z' ⇢E v') (z' ⇢E y') ≼ O ∷ []) (dot_e d d ≼ O)
    (hyp 0 ⊠ hyp 1 ⊞ hyp 3 ⊠ hyp 4 ⊞ hyp 2 ⊠ hyp 5) tt pv py pz a b)

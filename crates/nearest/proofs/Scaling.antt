-- Points at V/D. Times D, the outline is a larger one and V has whole coordinates, so every law about such points
-- speaks of V/D too: those about the local tests, a foot on an end and the exhaustive search as they stand, for the
-- larger list.
--     scaled-polygon      the larger list is a polygon
--     scaled-piece        a point is in its piece exactly where the shrunk point is in the piece
--     scaled-nearest      its nearest point to V, shrunk, is the nearest point to V/D
--     scaled_fits         and the feature is the same
--     scaled-distance     the gap, over k², is the squared distance
--     nearest_at-is, nearest_at-fits, nearest_at-distance    so every point V/D has a nearest point, feature and gap:
--                         those of V, over D
--     one-nearest         and only one nearest point
use Prim.Native.Nat.{ℕ, ◌*◌}
use native.Mathlib.Nat.{one-mul}
use mathlib.Core.Path.{◌≡◌, sym, ap, ◌∙◌}
use mathlib.Core.Logic.{◌↔◌}
use mathlib.Core.List.{List, [], ◌∷◌, ◌++◌}
use lib.IntN.{ℤ, pos, ◌-ℤ◌, ◌*ℤ◌, *ℤ-zero, *ℤ_comm}
use lib.ListN.{length, get_or, length-map, get_or-map}
use lib.Signed.{◌<ℤ◌}
use Rattle.integers.proofs.Polynomial.{Expr, var, lit, ◌⊖◌, ◌⊗◌, solve}
use Rattle.integers.proofs.Order.{*ℤ-pos, *ℤ-nonneg, <ℤ-≤ℤ}
use Rattle.integers.proofs.Signs.{factor-pos, factor-nonneg, factor-zero, product-nonpos}
use Rattle.integers.proofs.Certificate.{◌≗◌, hyp, eqn, ◌⊞◌, prove}
use Rattle.integers.specs.declared.fraction.Fraction.{Fraction}
use Rattle.plane.specs.declared.Corner.{Corner}
use Rattle.plane.specs.declared.Point.{Point}
use Rattle.plane.specs.declared.Vector.{Vector}
use Rattle.plane.specs.Point.{Proper, whole, ◌⇢◌, Same}
use Rattle.plane.specs.Vector.{◌⇀◌, cross, dot, side, coordinates}
use Rattle.plane.proofs.Algebra.{VecE, vec, cross_e, dot_e, ◌⇀E◌, side_e}
use Rattle.plane.proofs.Points.{PointE, pt, whole_e, ◌⇢E◌, numbers, whole-proper, same-trans}
use Rattle.outline.specs.code.Polygon.{Polygon}
use Rattle.outline.specs.Convex.{StrictlyConvex}
use Rattle.outline.specs.Corners.{corner, next, origin}
use Rattle.nearest.specs.Piece.{side_of, InPiece}
use Rattle.nearest.specs.declared.Feature.{Feature}
use Rattle.nearest.specs.declared.NearestPoint.{NearestPoint}
use Rattle.nearest.specs.code.Local.{nearest}
use Rattle.nearest.specs.code.Scaling.{scaled, enlarged, shrunk, over, numerator, nearest_at}
use Rattle.nearest.specs.Nearest.{Nearest, Fits, Answers}
use Rattle.nearest.proofs.DistanceLaws.{IsSquaredDistance}
use Rattle.nearest.proofs.NearestLaws.{nearest-unique}
use Rattle.nearest.proofs.AnswerLaws.{nearest-is, nearest-distance}

-- as expressions: the variable after the points' numbers is k
abbrev scaled_e : Expr → VecE → VecE
scaled_e k c = record { x = k ⊗ c.x; y = k ⊗ c.y }

abbrev shrunk_e : Expr → PointE → PointE
shrunk_e k z = record { x = z.x; y = z.y; lower = z.lower ⊗ k }

module _ (k : ℕ) where
  -- seen from k p, z lies as z/k does from p; and the edge from k p to k q is k times that from p to q
  from-scaled : (p : Corner) (z : Point) → whole (scaled k p) ⇢ z ≡ whole p ⇢ shrunk k z
  unfolding ◌⇢◌
  from-scaled p z = λ i. record { x = coordinate p.x z.x i; y = coordinate p.y z.y i }
    where
      coordinate : (c x : ℤ) → x *ℤ pos 1 -ℤ (pos k *ℤ c) *ℤ pos z.lower ≡ x *ℤ pos 1 -ℤ c *ℤ (pos z.lower *ℤ pos k)
      coordinate c x =
          solve (c ∷ x ∷ pos z.lower ∷ pos k ∷ []) (var 1 ⊗ lit (pos 1) ⊖ (var 3 ⊗ var 0) ⊗ var 2)
          (var 1 ⊗ lit (pos 1) ⊖ var 0 ⊗ (var 2 ⊗ var 3)) tt

  to-scaled : (z : Point) (q : Corner) → z ⇢ whole (scaled k q) ≡ shrunk k z ⇢ whole q
  unfolding ◌⇢◌
  to-scaled z q = λ i. record { x = coordinate q.x z.x i; y = coordinate q.y z.y i }
    where
      coordinate : (c x : ℤ) → (pos k *ℤ c) *ℤ pos z.lower -ℤ x *ℤ pos 1 ≡ c *ℤ (pos z.lower *ℤ pos k) -ℤ x *ℤ pos 1
      coordinate c x =
          solve (c ∷ x ∷ pos z.lower ∷ pos k ∷ []) ((var 3 ⊗ var 0) ⊗ var 2 ⊖ var 1 ⊗ lit (pos 1))
          (var 0 ⊗ (var 2 ⊗ var 3) ⊖ var 1 ⊗ lit (pos 1)) tt

  cross-scaled : (p q : Corner) (d : Vector) → cross (scaled k p ⇀ scaled k q) d ≡ pos k *ℤ cross (p ⇀ q) d
  unfolding cross ◌⇀◌
  cross-scaled p q d =
      let k_e = var 6 in let p_e = vec 0 in let q_e = vec 2 in
      solve (coordinates (p ∷ q ∷ []) ++ (d.x ∷ d.y ∷ pos k ∷ []))
      (cross_e (scaled_e k_e p_e ⇀E scaled_e k_e q_e) (vec 4)) (k_e ⊗ cross_e (p_e ⇀E q_e) (vec 4)) tt

  run-scaled : (p q : Corner) (d : Vector) → dot (scaled k p ⇀ scaled k q) d ≡ pos k *ℤ dot (p ⇀ q) d
  unfolding dot ◌⇀◌
  run-scaled p q d =
      let k_e = var 6 in let p_e = vec 0 in let q_e = vec 2 in
      solve (coordinates (p ∷ q ∷ []) ++ (d.x ∷ d.y ∷ pos k ∷ []))
      (dot_e (scaled_e k_e p_e ⇀E scaled_e k_e q_e) (vec 4)) (k_e ⊗ dot_e (p_e ⇀E q_e) (vec 4)) tt

  -- points that are the same are the same over k
  same-shrunk : (y z : Point) → Same y z → Same (shrunk k y) (shrunk k z)
  same-shrunk y z same = record { same_x = coordinate y.x z.x same.same_x; same_y = coordinate y.y z.y same.same_y }
    where
      coordinate : (a b : ℤ) → a *ℤ pos z.lower ≡ b *ℤ pos y.lower
          → a *ℤ (pos z.lower *ℤ pos k) ≡ b *ℤ (pos y.lower *ℤ pos k)
      coordinate a b =
          prove (a ∷ b ∷ pos y.lower ∷ pos z.lower ∷ pos k ∷ []) (var 0 ⊗ var 3 ≗ var 1 ⊗ var 2 ∷ [])
          (var 0 ⊗ (var 3 ⊗ var 4) ≗ var 1 ⊗ (var 2 ⊗ var 4)) (hyp 0 ⊞ eqn 1 (var 4)) tt

  scaled-shrunk : (c : Corner) → Same (shrunk k (whole (scaled k c))) (whole c)
  scaled-shrunk c = record { same_x = coordinate c.x; same_y = coordinate c.y }
    where
      coordinate : (x : ℤ) → (pos k *ℤ x) *ℤ pos 1 ≡ x *ℤ (pos 1 *ℤ pos k)
      coordinate x = solve (x ∷ pos k ∷ []) ((var 1 ⊗ var 0) ⊗ lit (pos 1)) (var 0 ⊗ (lit (pos 1) ⊗ var 1)) tt

  corner-side-scaled : (p q v : Corner) → side (scaled k p) (scaled k q) (scaled k v) ≡ (pos k *ℤ pos k) *ℤ side p q v
  unfolding cross ◌⇀◌
  corner-side-scaled p q v =
      let k_e = var 6 in let p_e = vec 0 in let q_e = vec 2 in let v_e = vec 4 in
      solve (coordinates (p ∷ q ∷ v ∷ []) ++ (pos k ∷ []))
      (side_e (scaled_e k_e p_e) (scaled_e k_e q_e) (scaled_e k_e v_e)) ((k_e ⊗ k_e) ⊗ side_e p_e q_e v_e) tt

  dot-scaled : (v : Corner) (y : Point) (c : Corner)
      → dot (shrunk k y ⇢ over k v) (shrunk k y ⇢ whole c)
      ≡ pos k *ℤ dot (y ⇢ whole v) (y ⇢ whole (scaled k c))
  unfolding dot ◌⇢◌
  dot-scaled v y c =
      let k_e = var 7 in let v_e = vec 0 in let c_e = vec 2 in let y_e = pt 4 in
      solve (coordinates (v ∷ c ∷ []) ++ numbers (y ∷ []) ++ (pos k ∷ []))
      (dot_e (shrunk_e k_e y_e ⇢E record { x = v_e.x; y = v_e.y; lower = k_e }) (shrunk_e k_e y_e ⇢E whole_e c_e))
      (k_e ⊗ dot_e (y_e ⇢E whole_e v_e) (y_e ⇢E whole_e (scaled_e k_e c_e))) tt

  -- so |v - y|² over k² is the squared distance of v/k and y/k
  pub scaled-distance : (v : Corner) (y : Point) (g : Fraction) → pos 0 <ℤ pos k → IsSquaredDistance (whole v) y g
      → IsSquaredDistance (over k v) (shrunk k y) (record { upper = g.upper; lower = g.lower * (k * k) })
  unfolding dot ◌⇢◌
  scaled-distance v y g above is =
      let k_e = var 7 in let v_e = vec 0 in let y_e = pt 2 in let upper = var 5 in let lower = var 6 in
      let from = y_e ⇢E whole_e v_e in let to = shrunk_e k_e y_e ⇢E record { x = v_e.x; y = v_e.y; lower = k_e } in
      let d = y_e.lower ⊗ lit (pos 1) in let dk = (y_e.lower ⊗ k_e) ⊗ k_e in
      record {
        from_proper = above;
        to_proper = *ℤ-pos is.to_proper above;
        lower_positive = *ℤ-pos is.lower_positive (*ℤ-pos above above);
        equal = prove (coordinates (v ∷ []) ++ numbers (y ∷ []) ++ (pos g.upper ∷ pos g.lower ∷ pos k ∷ []))
            ((upper ⊗ d) ⊗ d ≗ dot_e from from ⊗ lower ∷ []) ((upper ⊗ dk) ⊗ dk ≗ dot_e to to ⊗ (lower ⊗ (k_e ⊗ k_e)))
            (hyp 0 ⊞ eqn 1 (k_e ⊗ k_e ⊗ k_e ⊗ k_e)) tt is.equal;
      }

module _ (k : ℕ) (cs : List Corner) where
  corner-enlarged : (i : ℕ) → corner (enlarged k cs) i ≡ scaled k (corner cs i)
  corner-enlarged i =
      let still : origin ≡ scaled k origin = λ j. record { x = sym (*ℤ-zero (pos k)) j; y = sym (*ℤ-zero (pos k)) j } in
      ap (λ (c : Corner). get_or (enlarged k cs) i c) still ∙ get_or-map (scaled k) cs i origin

  length-enlarged : length (enlarged k cs) ≡ length cs
  length-enlarged = length-map cs (scaled k)

  side_of-enlarged : (i : ℕ) (z : Point) → side_of (enlarged k cs) i z ≡ pos k *ℤ side_of cs i (shrunk k z)
  side_of-enlarged i z =
      rw (length-enlarged, corner-enlarged i, corner-enlarged (next (length cs) i), from-scaled k (corner cs i) z)
      (cross-scaled k (corner cs i) (corner cs (next (length cs) i)) _)

  -- from here on k is above 0
  module _ (above : pos 0 <ℤ pos k) where
    pub scaled-polygon : Polygon cs → Polygon (enlarged k cs)
    scaled-polygon polygon = record { at_least = rw length-enlarged polygon.at_least; convex = convex }
      where
        convex : StrictlyConvex (enlarged k cs)
        convex e c = rw (length-enlarged, corner-enlarged e, corner-enlarged (next (length cs) e), corner-enlarged c) (λ he hc start end.
            rw (corner-side-scaled k (corner cs e) (corner cs (next (length cs) e)) (corner cs c))
            (*ℤ-pos (*ℤ-pos above above) (polygon.convex e c he hc start end)))

    pub scaled-piece : (z : Point) → InPiece (enlarged k cs) z ↔ InPiece cs (shrunk k z)
    scaled-piece z = (
      λ inside. record {
        proper = *ℤ-pos inside.proper above;
        right_of_none = λ i below. factor-nonneg above (rw (← side_of-enlarged i z) (inside.right_of_none i (rw length-enlarged below)));
      },
      λ inside. record {
        proper = factor-pos above (rw *ℤ_comm inside.proper);
        right_of_none = λ i below. rw (side_of-enlarged i z)
            (*ℤ-nonneg (<ℤ-≤ℤ above) (inside.right_of_none i (rw length-enlarged at below)));
      },
    )

    pub scaled-nearest : (v : Corner) (y : Point) → Nearest (enlarged k cs) (whole v) y → Nearest cs (over k v) (shrunk k y)
    scaled-nearest v y nearest = record {
      in_piece = (scaled-piece y).0 nearest.in_piece;
      at_most_0 = λ i below. rw (dot-scaled k v y (corner cs i))
          (product-nonpos above (rw (corner-enlarged i) at (nearest.at_most_0 i (rw length-enlarged below))));
    }

    piece-over : (v : Corner) → InPiece (enlarged k cs) (whole v) ↔ InPiece cs (over k v)
    piece-over v = rw one-mul at (scaled-piece (whole v))

    pub scaled_fits : (v : Corner) (y : Point) (f : Feature) → Fits (enlarged k cs) (whole v) y f → Fits cs (over k v) (shrunk k y) f
    scaled_fits v y Feature.Within (inside, same) =
        ((piece-over v).0 inside, rw (one-mul k) at (same-shrunk k y (whole v) same))
    scaled_fits v y (Feature.Corner i) (outside, below, same) = (
      λ inside. outside ((piece-over v).1 inside),
      rw length-enlarged at below,
      same-trans (*ℤ-pos (whole-proper (corner cs i)) above) (same-shrunk k y _ (rw (corner-enlarged i) at same))
          (scaled-shrunk k (corner cs i)),
    )
    scaled_fits v y (Feature.Edge i) (outside, below, between) =
        let p = corner cs i in let q = corner cs (next (length cs) i) in (
          λ inside. outside ((piece-over v).1 inside),
          rw length-enlarged at below,
          record {
            on_line = factor-zero above (sym (side_of-enlarged i y) ∙ between.on_line);
            after_start = factor-pos above (rw (← run-scaled k p q _, ← from-scaled k p y)
                (rw (length-enlarged, corner-enlarged i, corner-enlarged (next (length cs) i))
                at between.after_start));
            before_end = factor-pos above (rw (← run-scaled k p q _, ← to-scaled k y q)
                (rw (length-enlarged, corner-enlarged i, corner-enlarged (next (length cs) i))
                at between.before_end));
          },
        )

module _ {cs : List Corner} (polygon : Polygon cs) (v : Point) (proper : Proper v) where
  larger : Polygon (enlarged v.lower cs)
  larger = scaled-polygon v.lower cs proper polygon

  abbrev there : NearestPoint
  there = nearest (enlarged v.lower cs) (numerator v)

  answers : Answers (enlarged v.lower cs) (numerator v) there
  answers = nearest-is larger (numerator v)

  pub nearest_at-is : Nearest cs v (nearest_at cs v).point
  nearest_at-is = scaled-nearest v.lower cs proper (numerator v) there.point answers.nearest

  -- rule 3.2: there is exactly one nearest point
  pub one-nearest : (y : Point) × Nearest cs v y × ((z : Point) → Nearest cs v z → Same y z)
  one-nearest = ((nearest_at cs v).point, nearest_at-is, λ z also. nearest-unique polygon proper nearest_at-is also)

  pub nearest_at-fits : Fits cs v (nearest_at cs v).point (nearest_at cs v).feature
  nearest_at-fits = scaled_fits v.lower cs proper (numerator v) there.point there.feature answers.fits

  pub nearest_at-distance : IsSquaredDistance v (nearest_at cs v).point (nearest_at cs v).gap
  nearest_at-distance = scaled-distance v.lower (numerator v) there.point there.gap proper (nearest-distance larger (numerator v))

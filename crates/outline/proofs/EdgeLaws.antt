-- An edge of an outline: its ends and its length.
--     accepted-polygon                      an accepted outline is a polygon
--     polygon-distinct                      of a polygon no corner is equal to the following one
--     corner-number                         and no two corners are at one point
--     length-above-0, lower-above-0         so an edge's squared length is above 0, also as a lower number
--     edge-span, length-size                an edge's differences, and its squared length, are bounded where the
--                                           corners are in range
use Prim.Native.Nat.{ℕ, ◌<◌}
use mathlib.Core.Path.{◌≡◌, sym, ap, subst, ◌∙◌}
use mathlib.Core.Logic.{◌⊎◌, inl, inr, ◌≢◌}
use mathlib.Core.List.{List}
use native.Mathlib.Decide.{ℕ_discrete}
use native.Mathlib.Omega.{arith}
use lib.IntN.{pos, nat_abs}
use lib.ListN.{length}
use lib.Signed.{◌<ℤ◌, <ℤ_irrefl}
use Rattle.integers.specs.Size.{AtMost}
use Rattle.integers.proofs.Order.{nat_abs-nonneg}
use Rattle.plane.specs.declared.Corner.{Corner}
use Rattle.plane.specs.code.Range.{Span, reach, product_limit}
use Rattle.plane.specs.Vector.{dot, side}
use Rattle.plane.proofs.Algebra.{dot-self, side_same, side-start, distinct-length}
use Rattle.plane.proofs.Arithmetic.{dot-is}
use Rattle.plane.proofs.Range.{span-⇀}
use Rattle.outline.specs.Convex.{AllInRange, Accepted}
use Rattle.outline.specs.code.Polygon.{Polygon}
use Rattle.outline.specs.Corners.{corner, next, edge}
use Rattle.outline.proofs.CornersLaws.{next-below, next-other, next-next-other}

pub accepted-polygon : {cs : List Corner} → Accepted cs → Polygon cs
accepted-polygon ok = record { at_least = ok.at_least; convex = ok.convex }

module _ {cs : List Corner} (polygon : Polygon cs) (i : ℕ) (below : i < length cs) where
  abbrev n : ℕ
  n = length cs

  -- such an edge would have every corner on its line, and there is a third corner
  pub polygon-distinct : corner cs i ≢ corner cs (next n i)
  polygon-distinct same = <ℤ_irrefl (subst (λ z. pos 0 <ℤ z) on_line left)
    where
      third : ℕ
      third = next n (next n i)

      left : pos 0 <ℤ side (corner cs i) (corner cs (next n i)) (corner cs third)
      left =
          polygon.convex i third below (next-below n (next n i) (omega arith))
          (next-next-other n i polygon.at_least) (next-other n (next n i) (omega (arith, polygon.at_least)))

      on_line : side (corner cs i) (corner cs (next n i)) (corner cs third) ≡ pos 0
      on_line = ap (λ q. side (corner cs i) q (corner cs third)) (sym same) ∙ side_same (corner cs i) (corner cs third)

  pub length-above-0 : pos 0 <ℤ dot (edge cs i) (edge cs i)
  length-above-0 = distinct-length (corner cs i) (corner cs (next n i)) polygon-distinct

  pub lower-above-0 : pos 0 <ℤ pos (nat_abs (dot (edge cs i) (edge cs i)))
  lower-above-0 = rw (nat_abs-nonneg (dot-self (edge cs i))) length-above-0

module _ {cs : List Corner} (polygon : Polygon cs) where
  -- a corner at the start of an edge is not strictly left of it, so it is the edge's start or its end
  at-start : (i j : ℕ) → i < length cs → j < length cs → corner cs j ≡ corner cs i → (j ≡ i) ⊎ (j ≡ next (length cs) i)
  at-start i j i-known j-known same = elim (ℕ_discrete j i) [
    | yes start ↦ inl start
    | no a ↦ elim (ℕ_discrete j (next (length cs) i)) [
      | yes end ↦ inr end
      | no b ↦ absurd (<ℤ_irrefl (rw (same, side-start) at (polygon.convex i j i-known j-known a b)))
    ]
  ]

  -- two corners at one point would be each the other's next
  pub corner-number : (i j : ℕ) → i < length cs → j < length cs → corner cs i ≡ corner cs j → i ≡ j
  corner-number i j i-known j-known same = elim (at-start i j i-known j-known (sym same)) [
    | inl e ↦ sym e
    | inr a ↦ elim (at-start j i j-known i-known same) [
      | inl e ↦ e
      | inr b ↦ absurd (next-next-other (length cs) i polygon.at_least (sym (rw a at b)))
    ]
  ]

pub edge-span : (cs : List Corner) → AllInRange cs → (i : ℕ) → i < length cs → Span reach (edge cs i)
edge-span cs all i below = span-⇀ (all i below) (all _ (next-below (length cs) i (omega arith)))

pub length-size : {cs : List Corner} → Accepted cs → (i : ℕ) → i < length cs
    → AtMost product_limit (dot (edge cs i) (edge cs i))
length-size {cs} ok i below = let run = edge-span cs ok.all_in_range i below in (dot-is run run).bound

-- Which of two corners of a side is the worse, and which of some corners of a side is the worst.
--     Preferred          its gap is greater, or equal and its number as given not higher
--     PreferredOf        w is the true gap of a corner of the side that has a property, and preferred over all that
--                        have it
--     preferred-refl     a corner is preferred over itself
--     taken-preferred    what `takes_place` takes is preferred over what it leaves
--     side-trans         preference is transitive on the corners of a side
--     foremost           a side has a corner that is preferred over all of the side
--     farthest           so a side has a corner of greatest gap
use Prim.Native.Nat.{ℕ, ◌<◌, ◌≤◌}
use mathlib.Core.Path.{◌≡◌, refl}
use mathlib.Core.Logic.{◌⊎◌, inl, inr}
use mathlib.Core.Bool.{Bool, true, false, cond, not, ◌&&◌, ◌||◌}
use native.Mathlib.Omega.{arith}
use borrow.Author.Tests.{ltb-true, ltb-false}
use lib.Dec.{ltb}
use lib.ListN.{length}
use Rattle.integers.specs.Fraction.{is_less, NotGreater}
use Rattle.integers.proofs.FractionOrder.{not_greater-refl, not_greater-trans, is_less-true, is_less-false, less-not_greater}
use Rattle.integers.proofs.Greatest.{Greatest, greatest}
use Rattle.hausdorff.specs.declared.CornerGap.{CornerGap}
use Rattle.outline.specs.declared.Orientation.TheVariants.{Counterclockwise}
use Rattle.outline.specs.declared.Side.{Side}
use Rattle.hausdorff.specs.Pair.{Pair, Orientations, given}
use Rattle.hausdorff.specs.code.Pair.{Polygons}
use Rattle.hausdorff.specs.code.CornerGap.{corner_gap}
use Rattle.hausdorff.specs.code.Worst.{takes_place}
use Rattle.hausdorff.proofs.GapLaws.{gap-positive}

pub record Preferred (shown : ℕ → ℕ) (w z : CornerGap) : Type 0 where
  pub not_less : NotGreater z.gap w.gap
  pub first_of_equals : NotGreater w.gap z.gap → shown w.corner ≤ shown z.corner

pub record PreferredOf (pair : Pair) (os : Orientations) (s : Side) (Q : ℕ → Type 0) (w : CornerGap) : Type 0 where
  pub equal : w ≡ corner_gap pair s w.corner
  pub holds : Q w.corner
  pub preferred : (j : ℕ) → Q j → Preferred (given pair os s) w (corner_gap pair s j)

module _ (shown : ℕ → ℕ) where
  pub preferred-refl : (w : CornerGap) → Preferred shown w w
  preferred-refl w = record { not_less = not_greater-refl w.gap; first_of_equals = λ _. omega arith }

  -- preference is transitive on gaps with a lower number above 0
  preferred-trans : (w x z : CornerGap) → 0 < w.gap.lower → 0 < x.gap.lower → 0 < z.gap.lower
      → Preferred shown w x → Preferred shown x z → Preferred shown w z
  preferred-trans w x z w-positive x-positive z-positive p q = record {
    not_less = not_greater-trans z.gap x.gap w.gap x-positive q.not_less p.not_less;
    first_of_equals = λ equal.
        let a = p.first_of_equals (not_greater-trans w.gap z.gap x.gap z-positive equal q.not_less) in
        let b = q.first_of_equals (not_greater-trans x.gap w.gap z.gap w-positive p.not_less equal) in
        omega arith;
  }

  -- by the three tests that `takes_place` makes
  pub taken-preferred : (new old : CornerGap)
      → Preferred shown (cond (takes_place shown new old) new old) (cond (takes_place shown new old) old new)
  taken-preferred new old =
      let n = new.gap in let o = old.gap in
      go (is_less o n) (is_less n o) (ltb (shown new.corner) (shown old.corner)) (is_less-true o n) (is_less-false o n)
      (is_less-true n o) (is_less-false n o) refl
    where
      go : (s t u : Bool) → (s ≡ true → ¬ NotGreater new.gap old.gap) → (s ≡ false → NotGreater new.gap old.gap)
          → (t ≡ true → ¬ NotGreater old.gap new.gap) → (t ≡ false → NotGreater old.gap new.gap)
          → ltb (shown new.corner) (shown old.corner) ≡ u
          → Preferred shown (cond (s || (not t && u)) new old) (cond (s || (not t && u)) old new)
      go true t u less _ _ _ _ = record {
        not_less = less-not_greater old.gap new.gap (less refl);
        first_of_equals = λ equal. absurd (less refl equal);
      }
      go false true u _ not_less greater _ _ = record { not_less = not_less refl; first_of_equals = λ equal. absurd (greater refl equal) }
      go false false true _ _ _ not-greater lower = record { not_less = not-greater refl; first_of_equals = λ _. omega (arith, ltb-true) }
      go false false false _ not_less _ _ not_lower = record { not_less = not_less refl; first_of_equals = λ _. omega (arith, ltb-false) }

  -- so of two one is preferred
  preferred-total : (w z : CornerGap) → Preferred shown w z ⊎ Preferred shown z w
  preferred-total w z = go (takes_place shown w z) (taken-preferred w z)
    where
      go : (t : Bool) → Preferred shown (cond t w z) (cond t z w) → Preferred shown w z ⊎ Preferred shown z w
      go true p = inl p
      go false p = inr p

module _ (pair : Pair) (os : Orientations) (polygons : Polygons pair) (s : Side) where
  -- for a gap has a lower number above 0
  pub side-trans : (w x : CornerGap) (i : ℕ) → w ≡ corner_gap pair s w.corner → x ≡ corner_gap pair s x.corner
      → Preferred (given pair os s) w x → Preferred (given pair os s) x (corner_gap pair s i)
      → Preferred (given pair os s) w (corner_gap pair s i)
  side-trans w x i w-is x-is =
      preferred-trans (given pair os s) w x (corner_gap pair s i) (rw w-is (gap-positive pair polygons s w.corner))
      (rw x-is (gap-positive pair polygons s x.corner)) (gap-positive pair polygons s i)

  -- and total, so one is greatest
  pub foremost : Greatest (λ i j. Preferred (given pair os s) (corner_gap pair s i) (corner_gap pair s j)) (length (pair s))
  foremost =
      let gap : ℕ → CornerGap = corner_gap pair s in
      greatest _ (λ i j. preferred-total (given pair os s) (gap i) (gap j)) (λ i j k. side-trans (gap i) (gap j) k refl refl)
      (length (pair s)) (omega (arith, (polygons s).at_least))

-- whatever the orientations are
pub farthest : (pair : Pair) → Polygons pair → (s : Side)
    → Greatest (λ i j. NotGreater (corner_gap pair s j).gap (corner_gap pair s i).gap) (length (pair s))
farthest pair polygons s =
    let best = foremost pair (λ t. Counterclockwise) polygons s in
    record { place = best.place; below = best.below; over = λ i below. (best.over i below).not_less }

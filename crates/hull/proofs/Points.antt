-- The points of a list, and those that pass a test.
--     corner-member, member-corner    a point has a number, and the point with a number is one of the list
--     kept-member, member-kept        what is kept is what passes
--     kept-length, kept-shorter       not more than before; fewer, where some point fails
use Prim.Native.Nat.{ℕ, zero, suc, ◌≤◌, ◌<◌}
use native.Mathlib.Omega.{arith}
use mathlib.Core.Path.{◌≡◌, refl, sym, ap, ◌∙◌}
use mathlib.Core.Logic.{◌⊎◌, inl, inr}
use mathlib.Core.Bool.{Bool, true, false, cond, true≢false}
use mathlib.Core.List.Memᴰ
use mathlib.Core.List.{List, [], ◌∷◌, Memᴰ}
use lib.ListN.{length}
use Rattle.plane.specs.declared.Corner.{Corner}
use Rattle.outline.specs.Corners.{corner}
use Rattle.hull.specs.code.Wrapping.{kept}

pub corner-member : (cs : List Corner) (i : ℕ) → i < length cs → Memᴰ (corner cs i) cs
corner-member [] i below = absurd (omega arith)
corner-member (c ∷ cs) zero below = Memᴰ.head refl
corner-member (c ∷ cs) (suc i) below = Memᴰ.tail (corner-member cs i (omega arith))

pub member-corner : {z : Corner} {cs : List Corner} → Memᴰ z cs → (i : ℕ) × (i < length cs) × (corner cs i ≡ z)
member-corner (Memᴰ.head is) = (0, omega arith, sym is)
member-corner (Memᴰ.tail there) = let (i, below, is) = member-corner there in (suc i, omega arith, is)

module _ (test : Corner → Bool) where
  pub kept-member : (cs : List Corner) (z : Corner) → Memᴰ z (kept test cs) → Memᴰ z cs × (test z ≡ true)
  unfolding kept
  kept-member [] z there = absurd (Memᴰ.not-nil there)
  kept-member (c ∷ cs) z there = go (test c) refl (kept-member cs z) there
    where
      go : (t : Bool) → test c ≡ t → (Memᴰ z (kept test cs) → Memᴰ z cs × (test z ≡ true))
          → Memᴰ z (cond t (c ∷ kept test cs) (kept test cs)) → Memᴰ z (c ∷ cs) × (test z ≡ true)
      go true passes later there = elim (Memᴰ.cases_cons there) [
        | inl is ↦ (Memᴰ.head is, ap test is ∙ passes)
        | inr more ↦ (let (among, holds) = later more in (Memᴰ.tail among, holds))
      ]
      go false fails later there = let (among, holds) = later there in (Memᴰ.tail among, holds)

  pub member-kept : (cs : List Corner) (z : Corner) → Memᴰ z cs → test z ≡ true → Memᴰ z (kept test cs)
  unfolding kept
  member-kept [] z there passes = absurd (Memᴰ.not-nil there)
  member-kept (c ∷ cs) z there passes = go (test c) refl (member-kept cs z) (Memᴰ.cases_cons there)
    where
      go : (t : Bool) → test c ≡ t → (Memᴰ z cs → test z ≡ true → Memᴰ z (kept test cs))
          → (z ≡ c) ⊎ Memᴰ z cs → Memᴰ z (cond t (c ∷ kept test cs) (kept test cs))
      go true holds later (inl is) = Memᴰ.head is
      go true holds later (inr more) = Memᴰ.tail (later more passes)
      go false fails later (inl is) = absurd (true≢false (sym passes ∙ ap test is ∙ fails))
      go false fails later (inr more) = later more passes

  pub kept-length : (cs : List Corner) → length (kept test cs) ≤ length cs
  unfolding kept
  kept-length [] = omega arith
  kept-length (c ∷ cs) = go (test c) (kept-length cs)
    where
      go : (t : Bool) → length (kept test cs) ≤ length cs
          → length (cond t (c ∷ kept test cs) (kept test cs)) ≤ length (c ∷ cs)
      go true fewer = omega arith
      go false fewer = omega arith

  pub kept-shorter : (cs : List Corner) (z : Corner) → Memᴰ z cs → test z ≡ false
      → length (kept test cs) < length cs
  unfolding kept
  kept-shorter [] z there fails = absurd (Memᴰ.not-nil there)
  kept-shorter (c ∷ cs) z there fails = go (test c) refl (kept-shorter cs z) (Memᴰ.cases_cons there)
    where
      go : (t : Bool) → test c ≡ t → (Memᴰ z cs → test z ≡ false → length (kept test cs) < length cs)
          → (z ≡ c) ⊎ Memᴰ z cs → length (cond t (c ∷ kept test cs) (kept test cs)) < length (c ∷ cs)
      go true holds later (inl is) = absurd (true≢false (sym holds ∙ sym (ap test is) ∙ fails))
      go true holds later (inr more) = let fewer = later more fails in omega arith
      go false _ later _ = omega (arith, kept-length cs)

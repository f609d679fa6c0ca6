-- The element of a list that comes before all others, by a test of two.
--     first_by-member    it is one of them
--     first_by-first     and each of them stands to it as what fails the test does, where that is transitive
-- For a loop over a list, from its second element on:
--     Choosing          the invariant: what is left makes of the first so far what the whole list makes of its first
--     choose-start, choose-take, choose-keep, choose-end    it holds at the start, goes on with an element that comes
--                       before the first so far, and with one that does not; at the end it is the first of all
use Prim.Native.Nat.{ℕ, ◌+◌, ◌<◌, ◌≤◌}
use mathlib.Core.Path.{◌≡◌, refl}
use mathlib.Core.Logic.{◌⊎◌, inl, inr}
use mathlib.Core.Bool.{Bool, true, false, cond}
use mathlib.Core.List.Memᴰ
use mathlib.Core.List.{List, [], ◌∷◌, Memᴰ}
use native.Mathlib.Numerals.{add-one}
use native.Mathlib.Omega.{arith}
use lib.ListN.{length, get_or, drop, drop_of_length-le}
use lib.Seq.{drop-cons}
use Rattle.lists.specs.code.Lists.{first_by}

module _ {X : Type 0} (before : X → X → Bool) where
  pub first_by-member : (x : X) (ys : List X) → Memᴰ (first_by before x ys) (x ∷ ys)
  unfolding first_by
  first_by-member x [] = Memᴰ.head refl
  first_by-member x (y ∷ ys) = go (before y x) (first_by-member (cond (before y x) y x) ys)
    where
      go : (t : Bool) → Memᴰ (first_by before (cond (before y x) y x) ys) (cond t y x ∷ ys)
          → Memᴰ (first_by before (cond (before y x) y x) ys) (x ∷ y ∷ ys)
      go true there = Memᴰ.tail there
      go false there = elim (Memᴰ.cases_cons there) [
        | inl is ↦ Memᴰ.head is
        | inr later ↦ Memᴰ.tail (Memᴰ.tail later)
      ]

  -- R x y says that y does not come before x; it is transitive among elements of which Good holds
  module _ (Good : X → Type 0) (R : X → X → Type 0) (itself : (x : X) → R x x)
      (test : (x y : X) (t : Bool) → before x y ≡ t → R (cond t x y) (cond t y x))
      (trans : (x y z : X) → Good x → Good y → Good z → R x y → R y z → R x z) where
    -- w does not come before the first so far, or it is still to come
    overtaken : (x : X) (ys : List X) → Good x → ((y : X) → Memᴰ y ys → Good y)
        → (w : X) → Good w → R x w ⊎ Memᴰ w ys → R (first_by before x ys) w
    unfolding first_by
    overtaken x [] good-x good w good-w (inl after) = after
    overtaken x [] good-x good w good-w (inr there) = absurd (Memᴰ.not-nil there)
    overtaken x (y ∷ ys) good-x good w good-w known =
        overtaken (cond (before y x) y x) ys (first (before y x)) (λ z there. good z (Memᴰ.tail there)) w good-w
        (step (before y x) refl known)
      where
        good-y : Good y
        good-y = good y (Memᴰ.head refl)

        first : (t : Bool) → Good (cond t y x)
        first true = good-y
        first false = good-x

        step : (t : Bool) → before y x ≡ t → R x w ⊎ Memᴰ w (y ∷ ys) → R (cond t y x) w ⊎ Memᴰ w ys
        step true is (inl after) = inl (trans y x w good-y good-x good-w (test y x true is) after)
        step false is (inl after) = inl after
        step true is (inr there) = elim (Memᴰ.cases_cons there) [
          | inl same ↦ inl (rw same (itself y))
          | inr later ↦ inr later
        ]
        step false is (inr there) = elim (Memᴰ.cases_cons there) [
          | inl same ↦ inl (rw same (test y x false is))
          | inr later ↦ inr later
        ]

    pub first_by-first : (x : X) (ys : List X) → ((y : X) → Memᴰ y (x ∷ ys) → Good y)
        → (w : X) → Memᴰ w (x ∷ ys) → R (first_by before x ys) w
    first_by-first x ys good w there =
        overtaken x ys (good x (Memᴰ.head refl)) (λ y later. good y (Memᴰ.tail later)) w (good w there)
        (elim (Memᴰ.cases_cons there) [ inl is ↦ inl (rw is (itself x)) | inr later ↦ inr later ])

  -- z stands where a list has no element
  module _ (z : X) (xs : List X) where
    pub record Choosing (i : ℕ) (found : X) : Type 0 where
      pub turn : i ≤ length xs
      pub rest : first_by before found (drop i xs) ≡ first_by before (get_or xs 0 z) (drop 1 xs)

    pub choose-start : {found : X} → 1 ≤ length xs → found ≡ get_or xs 0 z → Choosing 1 found
    choose-start some is = record { turn = some; rest = rw is }

    module _ {i : ℕ} {found next : X} (below : i < length xs) (choosing : Choosing i found) (is : next ≡ get_or xs i z) where
      goes_on : (t : Bool) → before next found ≡ t
          → first_by before (cond t next found) (drop (i + 1) xs) ≡ first_by before (get_or xs 0 z) (drop 1 xs)
      unfolding first_by
      goes_on t test = rw (← test, is, add-one i) (rw (drop-cons xs i z below) at choosing.rest)

      pub choose-take : before next found ≡ true → Choosing (i + 1) next
      choose-take test = record { turn = omega arith; rest = goes_on true test }

      pub choose-keep : before next found ≡ false → Choosing (i + 1) found
      choose-keep test = record { turn = omega arith; rest = goes_on false test }

    pub choose-end : {i : ℕ} {found : X} → length xs ≤ i → Choosing i found → found ≡ first_by before (get_or xs 0 z) (drop 1 xs)
    unfolding first_by
    choose-end past choosing = rw (drop_of_length-le xs past) at choosing.rest

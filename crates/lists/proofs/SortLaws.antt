-- Sorting by insertion, with any test, and lists whose elements are related in pairs.
--     arranged-member, arranged-length    lists with the same elements, each as often, have the same members and
--                                         the same length
--     related-cons           an element that is related to all of a list may stand before it
--     related-map            a relation that follows for the members of a list
--     sort-arranges          the sorted list has the same elements, each as often
--     Sorted, sort_sorted    no element is to come before an earlier one; so it is once sorted, where the test is a
--                            strict order
use Prim.Native.Nat.{suc}
use mathlib.Core.Path.{◌≡◌, refl, sym, ap, ◌∙◌}
use mathlib.Core.Logic.Iff
use mathlib.Core.Logic.{⊎_elim, ∥∥₁_elim}
use mathlib.Core.Bool.{Bool, true, false, cond, Bool-set, true≢false}
use mathlib.Core.List.Memᴰ
use mathlib.Core.List.{List, [], ◌∷◌, Memᴰ}
use mathlib.Core.List.Permᴰ
use mathlib.Core.List.{Permᴰ}
use mathlib.Core.List.Pairwise
use mathlib.Core.List.{Pairwise, rel_of_Pairwise-cons}
use lib.ListN.{length}
use Rattle.integers.proofs.Reflect.{test-false}
use Rattle.lists.specs.Lists.{insert, sort}

module _ {X : Type 0} where
  pub arranged-member : {x : X} {xs ys : List X} → Permᴰ xs ys → Memᴰ x xs → Memᴰ x ys
  arranged-member Permᴰ.nil there = there
  arranged-member (Permᴰ.cons e arranged) there =
      ⊎_elim (λ same. Memᴰ.head (same ∙ e)) (λ among. Memᴰ.tail (arranged-member arranged among)) (Memᴰ.cases_cons there)
  arranged-member (Permᴰ.swap e f) there =
      ⊎_elim (λ same. Memᴰ.tail (Memᴰ.head (same ∙ e)))
      (λ among. ⊎_elim (λ same. Memᴰ.head (same ∙ f)) (λ later. Memᴰ.tail (Memᴰ.tail later)) (Memᴰ.cases_cons among))
      (Memᴰ.cases_cons there)
  arranged-member (Permᴰ.trans arranged again) there = arranged-member again (arranged-member arranged there)

  pub arranged-length : {xs ys : List X} → Permᴰ xs ys → length xs ≡ length ys
  arranged-length Permᴰ.nil = refl
  arranged-length (Permᴰ.cons e arranged) = ap suc (arranged-length arranged)
  arranged-length (Permᴰ.swap e f) = refl
  arranged-length (Permᴰ.trans arranged again) = arranged-length arranged ∙ arranged-length again

  -- `Pairwise` asks for less than a place in the list, which is enough for a relation that holds in one way only.
  pub related-cons : {R : X → X → Type 0} → ((x y : X) → IsProp (R x y)) → {x : X} {ys : List X}
      → ((y : X) → Memᴰ y ys → R x y) → Pairwise R ys → Pairwise R (x ∷ ys)
  related-cons one_way {x} each rest = Pairwise.cons (λ y there. ∥∥₁_elim there (one_way x y) (each y)) rest

  pub related-map : {R S : X → X → Type 0} → ((x y : X) → IsProp (S x y)) → {xs : List X}
      → ((x y : X) → Memᴰ x xs → Memᴰ y xs → R x y → S x y) → Pairwise R xs → Pairwise S xs
  related-map one_way follows = Pairwise.imp_of_mem λ x y x-there y-there related.
      ∥∥₁_elim x-there (one_way x y) λ x-in. ∥∥₁_elim y-there (one_way x y) λ y-in. follows x y x-in y-in related

module _ {X : Type 0} (before : X → X → Bool) where
  abbrev pub Sorted : List X → Type 0
  Sorted = Pairwise (λ x y. before y x ≡ false)

  sorted-cons : {x : X} {ys : List X} → ((y : X) → Memᴰ y ys → before y x ≡ false) → Sorted ys → Sorted (x ∷ ys)
  sorted-cons = related-cons (λ x y. Bool-set (before y x) false)

  -- An element that is inserted is one element more.
  insert-arranges : (x : X) (ys : List X) → Permᴰ (insert before x ys) (x ∷ ys)
  unfolding insert
  insert-arranges x [] = Permᴰ.refl (x ∷ [])
  insert-arranges x (y ∷ ys) = go (before x y) (insert-arranges x ys)
    where
      go : (t : Bool) → Permᴰ (insert before x ys) (x ∷ ys) → Permᴰ (cond t (x ∷ y ∷ ys) (y ∷ insert before x ys)) (x ∷ y ∷ ys)
      go true inserted = Permᴰ.refl (x ∷ y ∷ ys)
      go false inserted = Permᴰ.trans (Permᴰ.cons refl inserted) (Permᴰ.swap refl refl)

  pub sort-arranges : (xs : List X) → Permᴰ (sort before xs) xs
  unfolding sort
  sort-arranges [] = Permᴰ.nil
  sort-arranges (x ∷ xs) = Permᴰ.trans (insert-arranges x (sort before xs)) (Permᴰ.cons refl (sort-arranges xs))

  module _ (Good : X → Type 0) (asym : (x y : X) → before x y ≡ true → before y x ≡ false)
      (trans : (x y z : X) → Good x → Good z → before x y ≡ true → before y z ≡ true → before x z ≡ true) where
    -- Before y, x also comes before all that follow y; else it comes after y, as they do.
    insert-sorted : (x : X) (ys : List X) → ((y : X) → Memᴰ y ys → Good y) → Sorted ys → Sorted (insert before x ys)
    unfolding insert
    insert-sorted x [] good sorted = sorted-cons (λ z there. absurd (Memᴰ.not-nil there)) sorted
    insert-sorted x (y ∷ ys) good sorted =
        go (before x y) refl (insert-sorted x ys (λ z there. good z (Memᴰ.tail there)) (Pairwise.of_cons sorted))
      where
        after : (z : X) → Memᴰ z ys → before z y ≡ false
        after z there = rel_of_Pairwise-cons sorted ∣ there ∣₁

        after-x : before x y ≡ true → (z : X) → Memᴰ z ys → before z x ≡ false
        after-x first z there = (test-false (before z x) Iff.rfl).1 λ earlier. true≢false
            (sym (trans z x y (good z (Memᴰ.tail there)) (good y (Memᴰ.head refl)) earlier first) ∙ after z there)

        go : (t : Bool) → before x y ≡ t → Sorted (insert before x ys) → Sorted (cond t (x ∷ y ∷ ys) (y ∷ insert before x ys))
        go true first inserted =
            sorted-cons (λ z there. ⊎_elim (λ same. rw same (asym x y first)) (after-x first z) (Memᴰ.cases_cons there)) sorted
        go false later inserted = sorted-cons (λ z there. ⊎_elim (λ same. rw same later) (after z)
            (Memᴰ.cases_cons (arranged-member (insert-arranges x ys) there))) inserted

    pub sort_sorted : (xs : List X) → ((x : X) → Memᴰ x xs → Good x) → Sorted (sort before xs)
    unfolding sort
    sort_sorted [] good = Pairwise.nil
    sort_sorted (x ∷ xs) good = insert-sorted x (sort before xs)
        (λ z there. good z (Memᴰ.tail (arranged-member (sort-arranges xs) there)))
        (sort_sorted xs (λ z there. good z (Memᴰ.tail there)))

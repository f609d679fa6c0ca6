-- What is found first at the places 0, 1, .. below n.
--     Priority             an operation that answers its first value, or the second where the first is `none`
--     NoneBelow, First     nothing is at the places below n; a value is at a place below n, and nothing before it
--     fold-found           one of the two, of what such an operation makes of the values below n
--     fold-none, fold-first    it makes `none` exactly where nothing is there, and another value exactly where it is
--                              the first
use Prim.Native.Nat.{ℕ, zero, suc, ◌<◌}
use mathlib.Core.Path.{◌≡◌, refl, sym, ap, subst, ◌∙◌}
use mathlib.Core.Logic.{◌↔◌, ◌≢◌, ◌⊎◌, inl, inr, ⊎_elim}
use native.Mathlib.Nat.{eq-or-lt_of_le, le_of_suc-le-suc}
use native.Mathlib.Omega.{arith}
use Rattle.lists.specs.Fold.{fold}

pub record Priority {X : Type 0} (join : X → X → X) (none : X) : Type 0 where
  pub decide : (x : X) → (x ≡ none) ⊎ (x ≢ none)
  pub stops : (x y : X) → x ≢ none → join x y ≡ x
  pub goes_on : (y : X) → join none y ≡ y

abbrev pub NoneBelow : {X : Type 0} → X → (ℕ → X) → ℕ → Type 0
NoneBelow none f n = (i : ℕ) → i < n → f i ≡ none

pub record First {X : Type 0} (none : X) (f : ℕ → X) (n : ℕ) (x : X) : Type 0 where
  pub place : ℕ
  pub below : place < n
  pub here : f place ≡ x
  pub earlier : NoneBelow none f place

module _ {X : Type 0} {join : X → X → X} {none : X} (first : Priority join none) (f : ℕ → X) where
  pub fold-found : (n : ℕ)
      → ((fold join none f n ≡ none) × NoneBelow none f n)
      ⊎ ((fold join none f n ≢ none) × First none f n (fold join none f n))
  unfolding fold
  fold-found zero = inl (refl, λ i below. absurd (omega arith))
  fold-found (suc n) = ⊎_elim
      (λ (is_none, before). ⊎_elim
      (λ here. inl (
        goes is_none ∙ here,
        λ i below. ⊎_elim (λ is. rw is here) (before i) (eq-or-lt_of_le (le_of_suc-le-suc below)),
      ))
      (λ here. inr (
        λ is. here (sym (goes is_none) ∙ is),
        record { place = n; below = omega arith; here = sym (goes is_none); earlier = before },
      ))
      (first.decide (f n)))
      (λ (some, found). (let stays = first.stops _ (f n) some in inr (
        λ is. some (sym stays ∙ is),
        record {
          place = found.place;
          below = omega (arith, found.below);
          here = found.here ∙ sym stays;
          earlier = found.earlier;
        },
      )))
      (fold-found n)
    where
      goes : fold join none f n ≡ none → join (fold join none f n) (f n) ≡ f n
      goes is_none = ap (λ (x : X). join x (f n)) is_none ∙ first.goes_on (f n)

  pub fold-none : (n : ℕ) → (fold join none f n ≡ none) ↔ NoneBelow none f n
  fold-none n = (
    λ is. ⊎_elim (λ (_, all). all) (λ (some, _). absurd (some is)) (fold-found n),
    λ all. ⊎_elim (λ (is, _). is) (λ (_, found). sym found.here ∙ all found.place found.below) (fold-found n),
  )

  pub fold-first : (n : ℕ) (x : X) → x ≢ none → (fold join none f n ≡ x) ↔ First none f n x
  fold-first n x some = (
    λ is. ⊎_elim
        (λ (none_is, _). absurd (some (sym is ∙ none_is)))
        (λ (_, found). subst (First none f n) is found)
        (fold-found n),
    λ at. ⊎_elim
        (λ (_, all). absurd (some (sym at.here ∙ all at.place at.below)))
        (λ (other, found). sym found.here ∙ ap f (same_place found other at) ∙ at.here)
        (fold-found n),
  )
    where
      same_place : {y : X} → (p : First none f n y) → y ≢ none → (q : First none f n x) → p.place ≡ q.place
      same_place p other q =
          let not_lower : ¬ (p.place < q.place) = λ lower. other (sym p.here ∙ q.earlier p.place lower) in
          let not-higher : ¬ (q.place < p.place) = λ higher. some (sym q.here ∙ p.earlier q.place higher) in
          omega arith

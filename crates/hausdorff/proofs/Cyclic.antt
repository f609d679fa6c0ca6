-- Lists of the numbers of n directions that go round once.
--     Rising           directions rise along a list
--     Cyclic           each number is followed by the next, and the last by z
--     head_or-head      the head of a list is the head also where another number stands for none
--     head_or-all       where the front has no members, the head of the rest is that of the whole
--     head_or-none      a list without members has no head
--     rising-head      a rising list begins with the member that none comes before
--     followed         in a list that goes round, the rest begins with the next number of the last of the front
--     rising-cyclic    the list of all numbers, where it rises, goes round
use Prim.Native.Nat.{ℕ, ◌<◌}
use native.Mathlib.Decide.{ℕ_discrete}
use native.Mathlib.Omega.{arith}
use mathlib.Core.Path.{◌≡◌, refl, sym, ap, ◌∙◌}
use mathlib.Core.Logic.{◌↔◌, ◌⊎◌, ⊎_elim}
use mathlib.Core.List.Memᴰ
use mathlib.Core.List.{List, [], ◌∷◌, ◌++◌, Memᴰ}
use mathlib.Core.List.Pairwise
use mathlib.Core.List.{Pairwise, rel_of_Pairwise-cons}
use Rattle.plane.specs.declared.Vector.{Vector}
use Rattle.outline.specs.Corners.{next}
use Rattle.outline.proofs.CornersLaws.{next-below, next-other}
use Rattle.lists.specs.code.Lists.{head_or}
use Rattle.plane.proofs.DirectionLaws.{Before, before-asym, before-trans, before-irrefl}
use Rattle.hausdorff.proofs.GoesRound.{GoesRound}

abbrev pub Rising : (ℕ → Vector) → List ℕ → Type 0
Rising d = Pairwise (λ i j. Before (d i) (d j))

abbrev pub Cyclic : ℕ → ℕ → List ℕ → Type 0
Cyclic n z [] = Unit {0}
Cyclic n z (i ∷ js) = (next n i ≡ head_or z js) × Cyclic n z js

-- ---- the head of a list

pub head_or-head : (js : List ℕ) → head_or 0 js ≡ head_or (head_or 0 js) js
head_or-head [] = refl
head_or-head (j ∷ js) = refl

pub head_or-all : (front rest : List ℕ) → ((i : ℕ) → ¬ Memᴰ i front)
    → head_or (head_or 0 (front ++ rest)) rest ≡ head_or 0 (front ++ rest)
head_or-all [] rest none = sym (head_or-head rest)
head_or-all (j ∷ front) rest none = absurd (none j (Memᴰ.head refl))

pub head_or-none : (z : ℕ) (rest : List ℕ) → ((i : ℕ) → ¬ Memᴰ i rest) → head_or z rest ≡ z
head_or-none z [] none = refl
head_or-none z (j ∷ rest) none = absurd (none j (Memᴰ.head refl))

pub rising-head : (d : ℕ → Vector) (js : List ℕ) (i : ℕ) → Rising d js → Memᴰ i js
    → ((j : ℕ) → Memᴰ j js → ¬ Before (d j) (d i)) → head_or 0 js ≡ i
rising-head d [] i rising there first = absurd (Memᴰ.not-nil there)
rising-head d (j ∷ js) i rising there first =
    ⊎_elim sym (λ later. absurd (first j (Memᴰ.head refl) (rel_of_Pairwise-cons rising ∣ later ∣₁))) (Memᴰ.cases_cons there)

-- A member of the front is its last where the next number is not in the front.
pub followed : (n z : ℕ) (front rest : List ℕ) (i : ℕ) → Cyclic n z (front ++ rest) → Memᴰ i front → ¬ Memᴰ (next n i) front
    → head_or z rest ≡ next n i
followed n z [] rest i round there last = absurd (Memᴰ.not-nil there)
followed n z (j ∷ []) rest i (follows, _) there last = sym (ap (next n) (Memᴰ.eq_of_singleton there) ∙ follows)
followed n z (j ∷ (k ∷ front)) rest i (follows, round) there last =
    ⊎_elim (λ same. absurd (last (Memᴰ.tail (Memᴰ.head (ap (next n) same ∙ follows)))))
    (λ later. followed n z (k ∷ front) rest i round later (λ next-there. last (Memᴰ.tail next-there))) (Memᴰ.cases_cons there)

-- ---- the list of all numbers

module _ {n : ℕ} {d : ℕ → Vector} (round : GoesRound n d) where
  -- No direction comes before itself.
  same-not-before : (i j : ℕ) → i ≡ j → ¬ Before (d i) (d j)
  same-not-before i j same before = before-irrefl (d j) (rw same at before)

  -- Numbers of which neither comes before the other are one.
  neither-before : (i j : ℕ) → i < n → j < n → ¬ Before (d i) (d j) → ¬ Before (d j) (d i) → i ≡ j
  neither-before i j i-known j-known not-before not_after = elim (ℕ_discrete i j) [
    | yes same ↦ same
    | no other ↦ absurd (⊎_elim not-before not_after (round.distinct i j i-known j-known other))
  ]

  -- A member of a list that its head comes before is a later one.
  later-than : {i k : ℕ} {js : List ℕ} → Before (d i) (d k) → Memᴰ k (i ∷ js) → Memᴰ k js
  later-than before there = ⊎_elim (λ same. absurd (same-not-before _ _ (sym same) before)) (λ later. later) (Memᴰ.cases_cons there)

  -- The next number is another one, and so comes before or after.
  next_known : (i : ℕ) → next n i < n
  next_known i = next-below n i (omega (arith, round.at_least))

  next-before-or-after : (i : ℕ) → i < n → Before (d (next n i)) (d i) ⊎ Before (d i) (d (next n i))
  next-before-or-after i known = round.distinct (next n i) i (next_known i) known (next-other n i round.at_least)

  -- Before z comes none, and `js` are those that come after i: i is followed by the first of these, or by z where
  -- there is none.
  module _ (z : ℕ) (z-known : z < n) (z-first : (k : ℕ) → k < n → ¬ Before (d k) (d z)) where
    cyclic-from : (i : ℕ) (js : List ℕ) → i < n → Rising d js → ((k : ℕ) → Memᴰ k js ↔ ((k < n) × Before (d i) (d k)))
        → Cyclic n z (i ∷ js)
    cyclic-from i [] known rising later = (
      neither-before (next n i) z (next_known i) z-known (z-first (next n i) (next_known i))
          (⊎_elim (round.next_first i z known z-known) (λ on. absurd (Memᴰ.not-nil ((later (next n i)).1 (next_known i, on))))
          (next-before-or-after i known)),
      tt,
    )
    cyclic-from i (j ∷ js) known rising later = (
      ⊎_elim (λ back. absurd (round.this_last i j known j-known back before))
          (λ on. ⊎_elim (λ same. same) (λ there. absurd (round.none_between i j known j-known before (after-j _ there)))
          (Memᴰ.cases_cons ((later (next n i)).1 (next_known i, on))))
          (next-before-or-after i known),
      cyclic-from j js j-known (Pairwise.of_cons rising) (λ k. (
        λ there. (((later k).0 (Memᴰ.tail there)).0, after-j k there),
        λ (k-known, after). later-than after ((later k).1 (k-known, before-trans _ _ _ before after)),
      )),
    )
      where
        j-known : j < n
        j-known = ((later j).0 (Memᴰ.head refl)).0

        before : Before (d i) (d j)
        before = ((later j).0 (Memᴰ.head refl)).1

        after-j : (k : ℕ) → Memᴰ k js → Before (d j) (d k)
        after-j k there = rel_of_Pairwise-cons rising ∣ there ∣₁

  pub rising-cyclic : (js : List ℕ) → Rising d js → ((i : ℕ) → Memᴰ i js ↔ (i < n)) → Cyclic n (head_or 0 js) js
  rising-cyclic [] rising members = tt
  rising-cyclic (i ∷ js) rising members = cyclic-from i i-known
      (λ k known back. ⊎_elim (λ same. same-not-before k i same back) (λ there. before-asym _ _ (after-i k there) back)
      (Memᴰ.cases_cons ((members k).1 known)))
      i js i-known (Pairwise.of_cons rising)
      (λ k. (λ there. ((members k).0 (Memᴰ.tail there), after-i k there), λ (known, before). later-than before ((members k).1 known)))
    where
      i-known : i < n
      i-known = (members i).0 (Memᴰ.head refl)

      after-i : (k : ℕ) → Memᴰ k js → Before (d i) (d k)
      after-i k there = rel_of_Pairwise-cons rising ∣ there ∣₁

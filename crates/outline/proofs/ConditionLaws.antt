-- The first condition that applies, decided by checks.
--     ◌and◌                         proofs for a list, one after the other
--     Decides                       a check refuses exactly where its condition applies, and with the refusal that
--                                   comes under it
--     decides-taken                 so it takes exactly where the condition does not apply
--     AllDecide                     each of some checks decides its condition
--     NoneApplies                   none of some conditions applies
--     first-refused, first_taken    the checks refuse with the refusal of the first condition that applies, and take
--                                   where none does
--     decide-append, none-append, fault-append    of two lists, one after the other
--     AllApplying, applying-append, fault-applying    what holds of the number of each condition that applies holds of a
--                                   refusal's
--     all_numbers, fault-number      a test that each condition's number passes, a refusal's passes
--     nowhere-plain, plain_stable   a condition without a place that applies nowhere
--     lowest-none                   one with a number applies nowhere exactly where no number below n passes its test
-- A check that decides a condition:
--     test-decides                  without a place, by a test
--     place-decides                 with one known number, by a test
--     lowest-decides                with a number, by a test at each number below n
--     edges-decide                  with an edge and a corner, by a test at each corner for each edge
--     tests-taken, edges-taken      these checks take exactly where nothing fails its test
use Prim.Native.Nat.{ℕ, ◌<◌}
use mathlib.Core.Path.{◌≡◌, refl, subst}
use mathlib.Core.Logic.Iff
use mathlib.Core.Logic.{◌↔◌, ◌⊎◌, inl, inr, ⊎_elim, ⊎_map}
use mathlib.Core.Bool.{Bool, true, ◌&&◌}
use mathlib.Core.List.{List, [], ◌∷◌, ◌++◌}
use Rattle.std.specs.Prelude.{Option, None, Ok, Err}
use Rattle.outline.specs.declared.Side.{Side}
use Rattle.integers.proofs.Reflect.{test-and, test-stable}
use Rattle.lists.proofs.FirstLaws.{First}
use Rattle.outline.specs.declared.Fault.{Fault}
use Rattle.outline.specs.declared.Fault.TheVariants.{OddLength}
use Rattle.outline.specs.declared.Place.{Place}
use Rattle.outline.specs.declared.Place.TheVariants.{Nowhere, At, EdgeAndCorner}
use Rattle.outline.specs.declared.Refusal.{Refusal}
use Rattle.outline.specs.code.Checks.{Verdict, refuse_if, first, each}
use Rattle.outline.specs.Conditions.{Lowest}
use Rattle.outline.specs.Fault.{number}
use Rattle.outline.specs.Refusal.{Condition, without_place, at_number, at_edge_and_corner, refusal, Gives, Applies}
use Rattle.outline.specs.Refusal.{FirstFault}
use Rattle.outline.proofs.ChecksLaws.{taken≢refused, not-refused, or_else-taken, or_else-refused}
use Rattle.outline.proofs.ChecksLaws.{refuse_if-taken, refuse_if-refused, each-taken, each-refused}

-- a proof for each of some conditions, one after the other
infixr 20 ◌and◌
abbrev pub ◌and◌ : {A B : Type 0} → A → B → A × B
a and b = (a, b)

-- a check refuses exactly where its condition applies, and with the refusal that comes under it
abbrev pub Decides : Verdict → Condition → Type 0
Decides v c = (r : Refusal) → (v ≡ Err r) ↔ Gives c r

pub decides-taken : {v : Verdict} {c : Condition} → Decides v c → (v ≡ Ok tt) ↔ (¬ Applies c)
decides-taken {v} {c} decides = (
  λ takes (p, applies). taken≢refused takes ((decides (refusal c p)).1 (p, applies, refl)),
  λ none. not-refused v (λ r refuses. (let (p, applies, is) = (decides r).0 refuses in none (p, applies))),
)

-- each of some checks decides its condition
abbrev pub AllDecide : List Verdict → List Condition → Type 0
AllDecide [] [] = Unit {0}
AllDecide [] (c ∷ cs) = ⊥
AllDecide (v ∷ vs) [] = ⊥
AllDecide (v ∷ vs) (c ∷ cs) = Decides v c × AllDecide vs cs

-- none of some conditions applies
abbrev pub NoneApplies : List Condition → Type 0
NoneApplies [] = Unit {0}
NoneApplies (c ∷ cs) = (¬ Applies c) × NoneApplies cs

-- rule 2.2: it comes only under its condition; where several apply, the first stands
pub first-refused : (vs : List Verdict) (cs : List Condition) → AllDecide vs cs
    → (r : Refusal) → (first vs ≡ Err r) ↔ FirstFault cs r
first-refused [] [] decide r = (λ e. taken≢refused refl e, λ none. absurd none)
first-refused [] (c ∷ cs) decide r = absurd decide
first-refused (v ∷ vs) [] decide r = absurd decide
first-refused (v ∷ vs) (c ∷ cs) (decides, rest) r = Iff.trans (or_else-refused v (first vs) r) (
  ⊎_map (decides r).0 (λ (takes, refuses). ((decides-taken decides).0 takes, (first-refused vs cs rest r).0 refuses)),
  ⊎_map (decides r).1 (λ (none, fault). ((decides-taken decides).1 none, (first-refused vs cs rest r).1 fault)),
)

pub first_taken : (vs : List Verdict) (cs : List Condition) → AllDecide vs cs → (first vs ≡ Ok tt) ↔ NoneApplies cs
first_taken [] [] decide = (λ _. tt, λ _. refl)
first_taken [] (c ∷ cs) decide = absurd decide
first_taken (v ∷ vs) [] decide = absurd decide
first_taken (v ∷ vs) (c ∷ cs) (decides, rest) = Iff.trans (or_else-taken v (first vs)) (
  λ (takes, others). ((decides-taken decides).0 takes, (first_taken vs cs rest).0 others),
  λ (none, others). ((decides-taken decides).1 none, (first_taken vs cs rest).1 others),
)

-- ---- two lists, one after the other
pub decide-append : (vs ws : List Verdict) (cs ds : List Condition)
    → AllDecide vs cs → AllDecide ws ds → AllDecide (vs ++ ws) (cs ++ ds)
decide-append [] ws [] ds decide more = more
decide-append [] ws (c ∷ cs) ds decide more = absurd decide
decide-append (v ∷ vs) ws [] ds decide more = absurd decide
decide-append (v ∷ vs) ws (c ∷ cs) ds (decides, rest) more = (decides, decide-append vs ws cs ds rest more)

pub none-append : (cs ds : List Condition) → NoneApplies (cs ++ ds) ↔ (NoneApplies cs × NoneApplies ds)
none-append [] ds = (λ none. (tt, none), λ (_, none). none)
none-append (c ∷ cs) ds = (
  λ (none, rest). (let (first, second) = (none-append cs ds).0 rest in ((none, first), second)),
  λ ((none, first), second). (none, (none-append cs ds).1 (first, second)),
)

pub fault-append : (cs ds : List Condition) (r : Refusal)
    → FirstFault (cs ++ ds) r ↔ (FirstFault cs r ⊎ (NoneApplies cs × FirstFault ds r))
fault-append [] ds r = (λ fault. inr (tt, fault), λ h. ⊎_elim (λ none. absurd none) (λ (_, fault). fault) h)
fault-append (c ∷ cs) ds r = (
  λ fault. ⊎_elim
      (λ gives. inl (inl gives))
      (λ (none, rest). ⊎_elim (λ first. inl (inr (none, first)))
      (λ (all, second). inr ((none, all), second)) ((fault-append cs ds r).0 rest)) fault,
  λ h. ⊎_elim
      (λ first. ⊎_elim (λ gives. inl gives) (λ (none, rest). inr (none, (fault-append cs ds r).1 (inl rest))) first)
      (λ ((none, all), second). inr (none, (fault-append cs ds r).1 (inr (all, second)))) h,
)

-- what holds of the number of each condition that applies holds of a refusal's
abbrev pub AllApplying : (ℕ → Type 0) → List Condition → Type 0
AllApplying P [] = Unit {0}
AllApplying P (c ∷ cs) = (Applies c → P (number c.fault)) × AllApplying P cs

pub applying-append : (P : ℕ → Type 0) (cs ds : List Condition)
    → AllApplying P cs → AllApplying P ds → AllApplying P (cs ++ ds)
applying-append P [] ds all more = more
applying-append P (c ∷ cs) ds (here, rest) more = (here, applying-append P cs ds rest more)

pub fault-applying : (P : ℕ → Type 0) (cs : List Condition) (r : Refusal) → AllApplying P cs → FirstFault cs r
    → P (number r.fault)
fault-applying P [] r all fault = absurd fault
fault-applying P (c ∷ cs) r (here, rest) fault = ⊎_elim
    (λ (p, applies, is). subst (λ (q : Refusal). P (number q.fault)) is (here (p, applies)))
    (λ (none, later). fault-applying P cs r rest later) fault

-- so a test that the number of each condition passes, a refusal's number passes
abbrev pub all_numbers : (ℕ → Bool) → List Condition → Bool
all_numbers test [] = true
all_numbers test (c ∷ cs) = test (number c.fault) && all_numbers test cs

pub fault-number : (test : ℕ → Bool) (cs : List Condition) (r : Refusal)
    → all_numbers test cs ≡ true → FirstFault cs r → test (number r.fault) ≡ true
fault-number test cs r all fault = fault-applying (λ n. test n ≡ true) cs r (each_number cs all) fault
  where
    each_number : (cs : List Condition) → all_numbers test cs ≡ true → AllApplying (λ n. test n ≡ true) cs
    each_number [] all = tt
    each_number (c ∷ cs) all =
        let (here, rest) = (test-and (test (number c.fault)) (all_numbers test cs) (λ e. e, λ e. e) (λ e. e, λ e. e)).0 all in
        (λ _. here, each_number cs rest)

-- ---- a condition that applies nowhere, by what it says of the place
pub nowhere-plain : {P : Type 0} → ¬ P → ¬ ((p : Place) × without_place P p)
nowhere-plain none (p, (here, holds)) = none holds

-- of what a test decides, one that says that it does not hold
pub plain_stable : {P : Type 0} (b : Bool) → ((b ≡ true) ↔ P) → ¬ ((p : Place) × without_place (¬ P) p) → P
plain_stable b means none = test-stable b means (λ not. none (Nowhere, (refl, not)))

nowhere-number : {P : ℕ → Type 0} → ((i : ℕ) → ¬ P i) → ¬ ((p : Place) × at_number P p)
nowhere-number none (p, (i, here, holds)) = none i holds

-- ---- tests at the numbers below n
module _ {P : ℕ → Type 0} (t : ℕ → Bool) (means : (i : ℕ) → (t i ≡ true) ↔ P i) (refusal_at : ℕ → Refusal) (n : ℕ) where
  abbrev check : ℕ → Verdict
  check i = refuse_if (t i) (refusal_at i)

  refuses-at : (i : ℕ) (r : Refusal) → (check i ≡ Err r) ↔ ((refusal_at i ≡ r) × P i)
  refuses-at i = refuse_if-refused (t i) (means i) (refusal_at i)

  takes_at : (i : ℕ) → (check i ≡ Ok tt) ↔ (¬ P i)
  takes_at i = refuse_if-taken (t i) (means i) (refusal_at i)

  pub tests-taken : (each check n ≡ Ok tt) ↔ ((i : ℕ) → i < n → ¬ P i)
  tests-taken = Iff.trans (each-taken check n) (
    λ all i below. (takes_at i).0 (all i below),
    λ none i below. (takes_at i).1 (none i below),
  )

  tests-refused : (r : Refusal) → (each check n ≡ Err r) ↔ ((i : ℕ) × (refusal_at i ≡ r) × Lowest P n i)
  tests-refused r = Iff.trans (each-refused check n r) (there, back)
    where
      there : First (Ok tt) check n (Err r) → (i : ℕ) × (refusal_at i ≡ r) × Lowest P n i
      there at = let (is, holds) = (refuses-at at.place r).0 at.here in (
        at.place,
        is,
        record {
          below = at.below;
          here = holds;
          lowest = λ j lower. (takes_at j).0 (at.earlier j lower);
        },
      )

      back : (i : ℕ) × (refusal_at i ≡ r) × Lowest P n i → First (Ok tt) check n (Err r)
      back (i, is, low) = record {
        place = i;
        below = low.below;
        here = (refuses-at i r).1 (is, low.here);
        earlier = λ j lower. (takes_at j).1 (low.lowest j lower);
      }

-- ---- checks that decide a condition
module _ (fault : Fault) (whose : Option Side) where
  module _ {P : Type 0} (b : Bool) (means : (b ≡ true) ↔ P) where
    abbrev known : Place → Condition
    known here = record { fault = fault; side = whose; applies = λ p. (p ≡ here) × P }

    known-decides : (here : Place) → Decides (refuse_if b (refusal (known here) here)) (known here)
    known-decides here r = Iff.trans (refuse_if-refused b means (refusal (known here) here) r) (
      λ (is, holds). (here, (refl, holds), is),
      λ (p, (at, holds), is). (rw at at is, holds),
    )

    pub test-decides : Decides (refuse_if b (refusal (known Nowhere) Nowhere)) (known Nowhere)
    test-decides = known-decides Nowhere

    pub place-decides : (i : ℕ) → Decides (refuse_if b (refusal (known (At i)) (At i))) (known (At i))
    place-decides i = known-decides (At i)

  module _ {P : ℕ → Type 0} (t : ℕ → Bool) (means : (i : ℕ) → (t i ≡ true) ↔ P i) (n : ℕ) where
    abbrev numbered : Condition
    numbered = record { fault = fault; side = whose; applies = at_number (Lowest P n) }

    pub lowest-decides : Decides (each (λ i. refuse_if (t i) (refusal numbered (At i))) n) numbered
    lowest-decides r = Iff.trans (tests-refused t means (λ i. refusal numbered (At i)) n r) (
      λ (i, is, low). (At i, (i, refl, low), is),
      λ (p, (i, here, low), is). (i, rw here at is, low),
    )

  module _ {P : ℕ → ℕ → Type 0} (t : ℕ → ℕ → Bool) (means : (e c : ℕ) → (t e c ≡ true) ↔ P e c) (n : ℕ) where
    -- some corner of edge e
    abbrev SomeCorner : ℕ → Type 0
    SomeCorner e = (c : ℕ) × (c < n) × P e c

    abbrev LowestPair : ℕ → ℕ → Type 0
    LowestPair e c = Lowest SomeCorner n e × Lowest (P e) n c

    abbrev paired : Condition
    paired = record { fault = fault; side = whose; applies = at_edge_and_corner LowestPair }

    abbrev refusal_of : ℕ → ℕ → Refusal
    refusal_of e c = refusal paired (EdgeAndCorner e c)

    abbrev edge_check : ℕ → Verdict
    edge_check e = each (λ c. refuse_if (t e c) (refusal_of e c)) n

    -- an edge is taken exactly where no corner fails its test
    edge-taken : (e : ℕ) → (edge_check e ≡ Ok tt) ↔ (¬ SomeCorner e)
    edge-taken e = Iff.trans (tests-taken (t e) (means e) (refusal_of e) n) (
      λ none (c, below, holds). none c below holds,
      λ none c below holds. none (c, below, holds),
    )

    pub edges-taken : (each edge_check n ≡ Ok tt) ↔ ((e : ℕ) → e < n → ¬ SomeCorner e)
    edges-taken = Iff.trans (each-taken edge_check n) (
      λ all e below. (edge-taken e).0 (all e below),
      λ none e below. (edge-taken e).1 (none e below),
    )

    pub edges-decide : Decides (each edge_check n) paired
    edges-decide r = Iff.trans (each-refused edge_check n r) (there, back)
      where
        there : First (Ok tt) edge_check n (Err r) → Gives paired r
        there at =
            let (c, is, low) =
            (tests-refused (t at.place) (means at.place) (refusal_of at.place) n r).0 at.here in
            let lowest : Lowest SomeCorner n at.place = record {
              below = at.below;
              here = (c, low.below, low.here);
              lowest = λ e lower. (edge-taken e).0 (at.earlier e lower);
            } in
            (EdgeAndCorner at.place c, (at.place, c, refl, (lowest, low)), is)

        back : Gives paired r → First (Ok tt) edge_check n (Err r)
        back (p, (e, c, here, (lowest, low)), is) = record {
          place = e;
          below = lowest.below;
          here = (tests-refused (t e) (means e) (refusal_of e) n r).1 (c, rw here at is, low);
          earlier = λ f lower. (edge-taken f).1 (lowest.lowest f lower);
        }

-- a condition with one number applies nowhere exactly where no number is such
module _ {P : ℕ → Type 0} (t : ℕ → Bool) (means : (i : ℕ) → (t i ≡ true) ↔ P i) (n : ℕ) where
  pub lowest-none : (¬ ((p : Place) × at_number (Lowest P n) p)) ↔ ((i : ℕ) → i < n → ¬ P i)
  lowest-none = (
    λ none. (tests-taken t means _ n).0 ((decides-taken (lowest-decides OddLength None t means n)).1 none),
    λ none. nowhere-number (λ i low. none i low.below low.here),
  )

-- A direction t cuts the order of directions: some are passed and the others lie ahead. One outline's support
-- corner at a cut.
--     Cut                  which directions are passed; with a direction those that it does not come before
--     strict, weak         the directions before t; those that do not come after t
--     Divided, divide      a list in two parts, the passed and those ahead; so it is where directions do not fall
--     CutAt, support_at     an outline's edges in angular order, the passed and those ahead; the support corner
--                          between them
--     strict-support       where t lies from the edge into corner i to the edge out of it, the support corner at
--                          the strict cut is i unless the edge into i has t's direction
--     weak-end             at the weak cut the support corner is the end of an edge that has t's direction
--     strict-at-support, weak-at-support    a feature that is extreme in u is at the support corner of both cuts by
--                                           u turned left
use Prim.Native.Nat.{ℕ, ◌<◌}
use mathlib.Core.Path.{◌≡◌, refl, sym, ap, ◌∙◌}
use mathlib.Core.Logic.Dec
use mathlib.Core.Logic.{◌⊎◌, inl, inr, ⊎_elim, ⊎_map, ◌↔◌}
use mathlib.Core.List.Memᴰ
use mathlib.Core.List.{List, [], ◌∷◌, ◌++◌, Memᴰ}
use mathlib.Core.List.Pairwise
use mathlib.Core.List.{Pairwise, rel_of_Pairwise-cons}
use native.Mathlib.Omega.{arith}
use lib.ListN.{length}
use Rattle.plane.specs.declared.Corner.{Corner}
use Rattle.plane.specs.declared.Vector.{Vector}
use Rattle.outline.specs.Corners.{next, previous, edge}
use Rattle.outline.proofs.CornersLaws.{next-below, next-other, previous-below, next-previous, previous-next}
use Rattle.nearest.specs.declared.Feature.{Feature}
use Rattle.lists.specs.code.Lists.{head_or}
use Rattle.plane.proofs.Halves.{NonZero}
use Rattle.plane.proofs.DirectionLaws.{Before, Along, Apart, before?, along?, before_split, along-apart, Around}
use Rattle.plane.proofs.DirectionLaws.{around-start, around-end}
use Rattle.hausdorff.proofs.GoesRound.{GoesRound}
use Rattle.hausdorff.proofs.Cyclic.{Rising, Cyclic, head_or-all, head_or-none, rising-head, followed}
use Rattle.hausdorff.proofs.Extreme.{ExtremeFeature, AtSupport}
use Rattle.hausdorff.proofs.ExtremeLaws.{turned, turned-some, corner-around, edge-along}

pub record Cut : Type 1 where
  pub Passed : Vector → Type 0
  pub passed? : (d : Vector) → Dec (Passed d)
  pub closed : (d e : Vector) → NonZero d → NonZero e → Passed d → ¬ Before d e → Passed e

abbrev pub strict : Vector → Cut
strict t = record {
  Passed = λ d. Before d t;
  passed? = λ d. before? d t;
  closed = λ d e _ some first after. ⊎_elim (λ h. absurd (after h)) (λ h. h) (before_split d e t some first);
}

abbrev pub weak : Vector → Cut
weak t = record {
  Passed = λ d. ¬ Before t d;
  passed? = λ d. Dec.not (before? t d);
  closed = λ d e some _ first after h. ⊎_elim first after (before_split t d e some h);
}

pub record Divided {X : Type 0} (cut : Cut) (way : X → Vector) (xs : List X) : Type 0 where
  pub front : List X
  pub rest : List X
  pub parts : xs ≡ front ++ rest
  pub behind : (x : X) → Memᴰ x front → cut.Passed (way x)
  pub ahead : (x : X) → Memᴰ x rest → ¬ cut.Passed (way x)

module _ {X : Type 0} (cut : Cut) (way : X → Vector) where
  all-ahead : (xs : List X) → ((x : X) → Memᴰ x xs → ¬ cut.Passed (way x)) → Divided cut way xs
  all-ahead xs ahead = record {
    front = [];
    rest = xs;
    parts = refl;
    behind = λ x there. absurd (Memᴰ.not-nil there);
    ahead = ahead;
  }

  -- It is divided at its first member that is not passed.
  pub divide : (xs : List X) → ((x : X) → Memᴰ x xs → NonZero (way x)) → Pairwise (λ x y. ¬ Before (way y) (way x)) xs
      → Divided cut way xs
  divide [] some rising = all-ahead [] (λ x there. absurd (Memᴰ.not-nil there))
  divide (x ∷ xs) some rising =
      go (cut.passed? (way x)) (divide xs (λ y there. some y (Memᴰ.tail there)) (Pairwise.of_cons rising))
    where
      go : Dec (cut.Passed (way x)) → Divided cut way xs → Divided cut way (x ∷ xs)
      go (yes passed) divided = record {
        front = x ∷ divided.front;
        rest = divided.rest;
        parts = ap (λ (ys : List X). x ∷ ys) divided.parts;
        behind = λ y there. ⊎_elim (λ same. rw same passed) (divided.behind y) (Memᴰ.cases_cons there);
        ahead = divided.ahead;
      }
      go (no not) divided = all-ahead (x ∷ xs) (λ y there passed. not (⊎_elim (λ same. rw same at passed)
          (λ later. cut.closed (way y) (way x) (some y there) (some x (Memᴰ.head refl)) passed
          (rel_of_Pairwise-cons rising ∣ later ∣₁))
          (Memᴰ.cases_cons there)))

pub record CutAt (n : ℕ) (d : ℕ → Vector) (cut : Cut) (front rest : List ℕ) : Type 0 where
  pub members : (i : ℕ) → Memᴰ i (front ++ rest) ↔ (i < n)
  pub rising : Rising d (front ++ rest)
  pub cyclic : Cyclic n (head_or 0 (front ++ rest)) (front ++ rest)
  pub behind : (i : ℕ) → Memᴰ i front → cut.Passed (d i)
  pub ahead : (i : ℕ) → Memᴰ i rest → ¬ cut.Passed (d i)

abbrev pub support_at : List ℕ → List ℕ → ℕ
support_at front rest = head_or (head_or 0 (front ++ rest)) rest

module _ {n : ℕ} {d : ℕ → Vector} (round : GoesRound n d) (i : ℕ) (below : i < n) where
  into-below : previous n i < n
  into-below = previous-below n i below

  into_next : next n (previous n i) ≡ i
  into_next = next-previous n i below

  -- The edge into a corner has another direction than the edge out of it.
  into-apart : Apart (d (previous n i)) (d i)
  into-apart =
      round.distinct (previous n i) i into-below below (λ same. next-other n (previous n i) round.at_least (into_next ∙ sym same))

  module _ {cut : Cut} {front rest : List ℕ} (here : CutAt n d cut front rest) where
    -- An edge that is passed is in the front.
    in-front : (j : ℕ) → j < n → cut.Passed (d j) → Memᴰ j front
    in-front j j-below passed =
        ⊎_elim (λ there. there) (λ there. absurd (here.ahead j there passed)) (Memᴰ.append_cases front ((here.members j).1 j-below))

    -- Where directions fall from the edge into corner i to the edge out of it, those are the last and the first: if
    -- the last is passed all are, and if the first is not none is. Either way the support corner is the start of
    -- the first.
    module _ (wraps : Before (d i) (d (previous n i))) where
      first : (j : ℕ) → j < n → ¬ Before (d j) (d i)
      first j j-below = rw into_next at (round.next_first (previous n i) j into-below j-below (rw into_next wraps))

      all-behind : cut.Passed (d (previous n i)) → (j : ℕ) → ¬ Memᴰ j rest
      all-behind passed j there =
          let last = previous n i in let j-below = (here.members j).0 (Memᴰ.append_right front there) in
          here.ahead j there (cut.closed (d last) (d j) (round.nonzero last into-below) (round.nonzero j j-below) passed
          (round.this_last last j into-below j-below (rw into_next wraps)))

      none-behind : ¬ cut.Passed (d i) → (j : ℕ) → ¬ Memᴰ j front
      none-behind not j there =
          let j-below = (here.members j).0 (Memᴰ.append_left rest there) in
          not (cut.closed (d j) (d i) (round.nonzero j j-below) (round.nonzero i below) (here.behind j there) (first j j-below))

      support-wrap : cut.Passed (d (previous n i)) ⊎ (¬ cut.Passed (d i)) → support_at front rest ≡ i
      support-wrap which =
          ⊎_elim (λ passed. head_or-none _ rest (all-behind passed)) (λ not. head_or-all front rest (none-behind not)) which
          ∙ rising-head d (front ++ rest) i here.rising ((here.members i).1 below) (λ j there. first j ((here.members j).0 there))

    -- Where t lies from the edge into corner i to the edge out of it, the support corner is i at a cut that passes
    -- the first if t does not come before it, and leaves the second ahead if it does not come before t.
    around-support : {t : Vector} → Around (d (previous n i)) (d i) t → (¬ Before t (d (previous n i)) → cut.Passed (d (previous n i)))
        → (¬ Before (d i) t → ¬ cut.Passed (d i)) → support_at front rest ≡ i
    around-support around behind ahead = ⊎_elim
        (λ rises. let (not_after, not-before) = around.rising rises in
        followed n _ front rest (previous n i) here.cyclic (in-front (previous n i) into-below (behind not_after))
        (λ there. ahead not-before (here.behind i (rw into_next at there))) ∙ into_next)
        (λ wraps. support-wrap wraps (⊎_map behind ahead around.inside)) into-apart

  module _ (t : Vector) (around : Around (d (previous n i)) (d i) t) {front rest : List ℕ} where
    pub strict-support : CutAt n d (strict t) front rest → Apart (d (previous n i)) t → support_at front rest ≡ i
    strict-support here apart =
        around-support here around (λ not_after. ⊎_elim (λ h. h) (λ h. absurd (not_after h)) apart) (λ not-before. not-before)

    -- At the weak cut it is i unless the edge out of i has t's direction.
    weak-support : CutAt n d (weak t) front rest → Apart (d i) t → support_at front rest ≡ i
    weak-support here apart =
        around-support here around (λ not_after. not_after) (λ not-before not_after. ⊎_elim not-before not_after apart)

  -- An edge that has t's direction starts at the support corner of the strict cut, and ends at that of the weak cut.
  module _ (t : Vector) (some : NonZero t) {front rest : List ℕ} where
    strict-start : CutAt n d (strict t) front rest → Along (d i) t → support_at front rest ≡ i
    strict-start here along =
        let e = d (previous n i) in
        strict-support t (around-end e (d i) t along) here (along-apart (d i) e t some along (⊎_elim inr inl into-apart))

    pub weak-end : CutAt n d (weak t) front rest → Along (d (previous n i)) t → support_at front rest ≡ i
    weak-end here along =
        let e = d (previous n i) in
        weak-support t (around-start e (d i) t along) here (along-apart e (d i) t some along into-apart)

module _ (cs : List Corner) (round : GoesRound (length cs) (edge cs)) (u : Vector) (some : NonZero u) {front rest : List ℕ} where
  module _ (here : CutAt (length cs) (edge cs) (strict (turned u)) front rest) where
    -- Where the edge into a corner starts at the support corner, that corner is the next.
    start-before : (i : ℕ) → i < length cs → Along (edge cs (previous (length cs) i)) (turned u)
        → i ≡ next (length cs) (support_at front rest)
    start-before i below along =
        let n = length cs in
        let start = strict-start round (previous n i) (previous-below n i below) (turned u) (turned-some u some) here along in
        rw (start, next-previous n i below)

    pub strict-at-support : (f : Feature) → ExtremeFeature cs u f → AtSupport (length cs) (support_at front rest) f
    strict-at-support Feature.Within none = absurd none
    strict-at-support (Feature.Corner i) extreme = ⊎_elim
        (λ along. inr (inl (start-before i extreme.known along)))
        (λ apart. inl (sym (strict-support round i extreme.known (turned u) (corner-around u some i extreme) here apart)))
        (along? (edge cs (previous (length cs) i)) (turned u))
    strict-at-support (Feature.Edge i) extreme =
        inl (sym (strict-start round i extreme.known (turned u) (turned-some u some) here (edge-along u some i round extreme)))

  module _ (here : CutAt (length cs) (edge cs) (weak (turned u)) front rest) where
    -- The edge out of a corner ends at the support corner.
    end-there : (i : ℕ) → i < length cs → Along (edge cs i) (turned u) → next (length cs) i ≡ support_at front rest
    end-there i below along =
        let n = length cs in
        let along' : Along (edge cs (previous n (next n i))) (turned u) = rw (previous-next n i below) along in
        sym (weak-end round (next n i) (next-below n i (omega arith)) (turned u) (turned-some u some) here along')

    pub weak-at-support : (f : Feature) → ExtremeFeature cs u f → AtSupport (length cs) (support_at front rest) f
    weak-at-support Feature.Within none = absurd none
    weak-at-support (Feature.Corner i) extreme = ⊎_elim
        (λ along. inr (inr (end-there i extreme.known along)))
        (λ apart. inl (sym (weak-support round i extreme.known (turned u) (corner-around u some i extreme) here apart)))
        (along? (edge cs i) (turned u))
    weak-at-support (Feature.Edge i) extreme = inr (end-there i extreme.known (edge-along u some i round extreme))

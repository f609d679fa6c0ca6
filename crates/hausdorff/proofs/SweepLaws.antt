-- The sweep meets what is extreme in one direction.
--     support-step       the step after k steps passes the k-th edge of the order, counted from 0
--     support-after      after some steps a support corner is the start of the outline's first edge still to come,
--                        or of its first edge
--     returns            after all steps the support corners are those before step 1
--     Met                something holds of the support corners that some step measures
--     meets-corner       for every u a corner that is extreme in u is the support corner in a step in which a given
--                        feature of the other outline, extreme in u, is at the other support corner
--     meets-features     any two features that are extreme in u are at the support corners of one step
use Prim.Native.Nat.{ℕ, suc, ◌<◌}
use mathlib.Core.Path.{◌≡◌, refl, sym, ap, subst, ◌∙◌}
use mathlib.Core.Logic.{⊎_elim}
use mathlib.Core.Bool.{Bool, true, false, cond}
use mathlib.Core.List.{List, [], ◌∷◌, ◌++◌, append-nil}
use native.Mathlib.Omega.{arith}
use lib.ListN.{length, take, get_or, length-append}
use lib.Seq.{take-length, take-suc, take-append_seam}
use Rattle.plane.specs.declared.Vector.{Vector}
use Rattle.outline.specs.Corners.{next, previous, edge}
use Rattle.nearest.specs.declared.Feature.{Feature}
use Rattle.outline.specs.declared.Side.{Side}
use Rattle.outline.specs.declared.Side.TheVariants.{A}
use Rattle.hausdorff.specs.Pair.{Pair, other, same_side, step_count}
use Rattle.lists.specs.code.Lists.{head_or}
use Rattle.hausdorff.specs.AngularOrder.{PairEdge, direction, angular_order}
use Rattle.hausdorff.specs.code.Own.{cons_if, own}
use Rattle.hausdorff.specs.Support.{first_start, pass, pass_all, support_after}
use Rattle.plane.proofs.Halves.{NonZero}
use Rattle.plane.proofs.DirectionLaws.{along?}
use Rattle.hausdorff.proofs.Cyclic.{Cyclic, head_or-head}
use Rattle.hausdorff.proofs.OrderLaws.{Rounds, order-members, order-length, order-not-falling}
use Rattle.hausdorff.proofs.OrderLaws.{first-own, own-iff, own-append, own-members, own-rising, own-cyclic}
use Rattle.hausdorff.proofs.Extreme.{ExtremeCorner, ExtremeFeature, AtSupport}
use Rattle.hausdorff.proofs.ExtremeLaws.{turned, turned-some, corner-around}
use Rattle.hausdorff.proofs.Cut.{Cut, strict, weak, Divided, divide, CutAt, support_at}
use Rattle.hausdorff.proofs.Cut.{strict-support, weak-end, strict-at-support, weak-at-support}

-- Edges are passed one after the other.
pass_all-append : (pair : Pair) (front rest : List PairEdge) (support : Side → ℕ)
    → pass_all pair (front ++ rest) support ≡ pass_all pair rest (pass_all pair front support)
unfolding pass_all
pass_all-append pair [] rest support = refl
pass_all-append pair (e ∷ front) rest support = pass_all-append pair front rest (pass pair e support)

-- `none` stands for an edge past the end of the order
pub support-step : (pair : Pair) (k : ℕ) (none : PairEdge) → k < step_count pair
    → support_after pair (suc k) ≡ pass pair (get_or (angular_order pair) k none) (support_after pair k)
unfolding pass_all
support-step pair k none below =
    rw (take-suc (angular_order pair) k none (rw (order-length pair) below))
    (pass_all-append pair (take k (angular_order pair)) _ (first_start (angular_order pair)))

-- The support corner is the start of the first edge to come, or z where there is none, and the edges to come go
-- round to z.
abbrev Follows : ℕ → ℕ → ℕ → List ℕ → Type 0
Follows n z support js = (support ≡ head_or z js) × Cyclic n z js

-- So it stays when an edge is passed, one of the side's own or another.
follows-passed : (n z support i : ℕ) (js : List ℕ) (t : Bool) → Follows n z support (cons_if t i js)
    → Follows n z (cond t (next n i) support) js
follows-passed n z support i js true (here, round) = round
follows-passed n z support i js false follows = follows

follows-all : (pair : Pair) (s : Side) (z : ℕ) (front rest : List PairEdge) (support : Side → ℕ)
    → Follows (length (pair s)) z (support s) (own s (front ++ rest))
    → pass_all pair front support s ≡ head_or z (own s rest)
unfolding pass_all own
follows-all pair s z [] rest support (here, round) = here
follows-all pair s z (e ∷ front) rest support follows =
    follows-all pair s z front rest (pass pair e support)
    (follows-passed (length (pair s)) z (support s) e.number (own s (front ++ rest)) (same_side s e.side) follows)

-- something holds of the support corners that some step measures
pub record Met (pair : Pair) (Holds : (Side → ℕ) → Type 0) : Type 0 where
  pub steps : ℕ
  pub below : steps < step_count pair
  pub holds : Holds (support_after pair steps)

module _ (pair : Pair) (rounds : Rounds pair) where
  -- before step 1
  abbrev first : Side → ℕ
  first = first_start (angular_order pair)

  pub support-after : (front rest : List PairEdge) → angular_order pair ≡ front ++ rest → (s : Side)
      → pass_all pair front first s ≡ head_or (first s) (own s rest)
  support-after front rest split s =
      let order = angular_order pair in
      rw (first-own order s) (follows-all pair s (head_or 0 (own s order)) front rest first
      (rw (first-own order s, ← split) (head_or-head (own s order), own-cyclic pair rounds s)))

  pub returns : (s : Side) → support_after pair (step_count pair) s ≡ support_after pair 0 s
  unfolding own pass_all
  returns s =
      let order = angular_order pair in
      rw (← order-length pair, take-length order) (support-after order [] (sym (append-nil order)) s)

  -- What holds of the support corners where the order is split is met: where no step is left they are those before
  -- step 1.
  met-split : (Holds : (Side → ℕ) → Type 0) (front rest : List PairEdge) → angular_order pair ≡ front ++ rest
      → Holds (λ s. head_or (first s) (own s rest)) → Met pair Holds
  unfolding own pass_all
  met-split Holds front [] split holds = record { steps = 0; below = omega (arith, (rounds A).at_least); holds = holds }
  met-split Holds front (e ∷ rest) split holds = record {
    steps = length front;
    below = rw (← order-length pair, split, length-append front (e ∷ rest)) (omega arith);
    holds = rw (ap (take (length front)) split ∙ take-append_seam front (e ∷ rest))
        (subst Holds (λ i s. sym (support-after front (e ∷ rest) split s) i) holds);
  }

  module _ (cut : Cut) where
    -- The angular order is divided at the cut, and so are a side's own edges in it.
    divided : Divided cut (direction pair) (angular_order pair)
    divided = divide cut (direction pair) (angular_order pair)
        (λ e there. (rounds e.side).nonzero e.number ((order-members pair e).0 there)) (order-not-falling pair rounds)

    own-divided : (s : Side) → own s (angular_order pair) ≡ own s divided.front ++ own s divided.rest
    own-divided s = rw divided.parts (own-append s divided.front divided.rest)

    cut_at : (s : Side) → CutAt (length (pair s)) (edge (pair s)) cut (own s divided.front) (own s divided.rest)
    cut_at s = record {
      members = λ i. rw (own-divided s) at (own-members pair s i);
      rising = rw (own-divided s) at (own-rising pair rounds s);
      cyclic = rw (own-divided s) at (own-cyclic pair rounds s);
      behind = λ i there. divided.behind (record { side = s; number = i }) ((own-iff s i divided.front).0 there);
      ahead = λ i there. divided.ahead (record { side = s; number = i }) ((own-iff s i divided.rest).0 there);
    }

    -- What holds of the support corners at a cut is met.
    met-cut : (Holds : (Side → ℕ) → Type 0) → Holds (λ s. support_at (own s divided.front) (own s divided.rest))
        → Met pair Holds
    met-cut Holds holds =
        met-split Holds divided.front divided.rest divided.parts
        (subst Holds (λ i s. head_or (sym (first-divided s) i) (own s divided.rest)) holds)
      where
        first-divided : (s : Side) → first s ≡ head_or 0 (own s divided.front ++ own s divided.rest)
        first-divided s = first-own (angular_order pair) s ∙ ap (head_or 0) (own-divided s)

  module _ (u : Vector) (some : NonZero u) where
    -- Let t be u turned left. At the strict cut the edges with directions before t are passed, at the weak cut also
    -- those with t's direction. A corner that such an edge ends at is the support corner at the weak cut, and any
    -- other at the strict cut.
    pub meets-corner : (s : Side) (i : ℕ) (f : Feature) → ExtremeCorner (pair s) u i → ExtremeFeature (pair (other s)) u f
        → Met pair (λ support. (support s ≡ i) × AtSupport (length (pair (other s))) (support (other s)) f)
    meets-corner s i f extreme also =
        let t = turned u in let o = other s in ⊎_elim
        (λ along. met-cut (weak t) _ (
          weak-end (rounds s) i extreme.known t (turned-some u some) (cut_at (weak t) s) along,
          weak-at-support (pair o) (rounds o) u some (cut_at (weak t) o) f also,
        ))
        (λ apart. met-cut (strict t) _ (
          strict-support (rounds s) i extreme.known t (corner-around u some i extreme) (cut_at (strict t) s) apart,
          strict-at-support (pair o) (rounds o) u some (cut_at (strict t) o) f also,
        ))
        (along? (edge (pair s) (previous (length (pair s)) i)) t)

    -- Two corners need not be the support corners of one step: of two parallel edges with t's direction A's is
    -- passed first, so when B's is passed A's support corner has left the start of A's. This is why a feature is
    -- only asked to be at the support corner.
    pub meets-features : (s : Side) (f g : Feature) → ExtremeFeature (pair s) u f → ExtremeFeature (pair (other s)) u g
        → Met pair (λ support. AtSupport (length (pair s)) (support s) f × AtSupport (length (pair (other s))) (support (other s)) g)
    meets-features s f g extreme also =
        let t = turned u in let o = other s in
        met-cut (strict t) _ (
          strict-at-support (pair s) (rounds s) u some (cut_at (strict t) s) f extreme,
          strict-at-support (pair o) (rounds o) u some (cut_at (strict t) o) g also,
        )

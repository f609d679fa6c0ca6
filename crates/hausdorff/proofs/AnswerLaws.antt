-- The answer, of both outlines and of each side: the steps and the exhaustive search find it. That there is only one is
-- `leads-unique`.
--     sides-answer          the worse of A's answer and of B's is the answer
--     side-answers          the worst so far of a side after all steps, or its corner 0, within, is the side's answer
--     sweep-answers         so the worse of both is the answer
--     answer-from-steps     which is the worst so far of both or, if that is none, A's corner 0, within
--     zero-side-answer      if every gap of a side is zero its answer is its corner 0, within
--     zero-answer           if every gap is zero the answer is A's corner 0, within
--     side-search-answers   what the exhaustive search finds for a side is the side's answer
--     search-answers        and what it finds is the answer
use Prim.Native.Nat.{ℕ, zero, suc, ◌<◌, ◌≤◌}
use mathlib.Core.Path.{◌≡◌, refl, sym, ap, ◌∙◌}
use mathlib.Core.Logic.{◌↔◌, ◌⊎◌, inl, inr, ⊎_elim, ⊎_map}
use native.Mathlib.Decide.{ℕ_discrete}
use native.Mathlib.Omega.{arith}
use lib.ListN.{length}
use Rattle.std.specs.Prelude.{Option, None, Some}
use Rattle.lists.specs.Fold.{fold}
use Rattle.outline.specs.Corners.{corner}
use Rattle.outline.proofs.OrientationLaws.{given-first, given_below, given-twice}
use Rattle.plane.specs.Point.{whole}
use Rattle.nearest.specs.declared.Feature.{Feature}
use Rattle.nearest.specs.Piece.{InPiece}
use Rattle.nearest.specs.Feature.{values, within_values}
use Rattle.nearest.proofs.AnswerLaws.{within-iff, gap-zero-iff}
use Rattle.nearest.proofs.SearchLaws.{search-nearest}
use Rattle.hausdorff.specs.declared.CornerGap.{CornerGap}
use Rattle.outline.specs.declared.Side.{Side}
use Rattle.outline.specs.declared.Side.TheVariants.{A, B}
use Rattle.hausdorff.specs.Pair.{Pair, Orientations, given, other, step_count}
use Rattle.hausdorff.specs.code.Pair.{Polygons}
use Rattle.hausdorff.specs.CornerGap.{with_corner, worse, overall}
use Rattle.hausdorff.specs.code.CornerGap.{corner_gap}
use Rattle.hausdorff.specs.code.Sweep.{worst_after, worst_so_far}
use Rattle.hausdorff.specs.code.Report.{side_answer, answer}
use Rattle.hausdorff.specs.Law.{or_within}
use Rattle.hausdorff.specs.Exhaustive.{searched, exhaustive_of, exhaustive}
use Rattle.hausdorff.specs.Answer.{IsGap, NotLater, Leads, IsAnswer, IsSideAnswer}
use Rattle.hausdorff.proofs.Preference.{preferred-refl}
use Rattle.hausdorff.proofs.Leads.{not-later-on-side, leads-map, leads-worse}
use Rattle.hausdorff.proofs.Leads.{OnSide, by_side, worse-first, worse-second, leads-of}
use Rattle.hausdorff.proofs.SideWorst.{SideWorst, side-worst}
use Rattle.hausdorff.proofs.GapLaws.{gap_is, least_iff}

module _ (pair : Pair) (os : Orientations) (polygons : Polygons pair) where
  -- a side has a corner 0
  nonempty : (s : Side) → 0 < length (pair s)
  nonempty s = omega (arith, (polygons s).at_least)

  -- which has the number 0 as given too
  first-number : (s : Side) → given pair os s 0 ≡ 0
  first-number s = given-first (os s) (length (pair s)) (nonempty s)

  -- what leads among some numbers of a side, which all its corners have, is the side's answer
  leads-side : {Q : ℕ → Type 0} {w : CornerGap} (s : Side) → ((j : ℕ) → j < length (pair s) → Q j)
      → Leads pair os (OnSide s Q) w → IsSideAnswer pair os s w
  leads-side s every leads =
      leads-map (λ z gap. (λ on. on.0, λ on. (on, every z.corner (rw on at gap.known)))) leads

  -- A's corners come before B's, and these are all
  pub sides-answer : (w z : CornerGap) → IsSideAnswer pair os A w → IsSideAnswer pair os B z → IsAnswer pair os (worse w z)
  sides-answer w z p q =
      leads-map (λ x gap. (λ _. tt, λ _. on-either x)) (leads-worse pair os polygons w z p q (λ x on. rw (p.among, on) tt))
    where
      on-either : (x : CornerGap) → (x.side ≡ A) ⊎ (x.side ≡ B)
      on-either x = ⊎_map (λ on. on.0) (λ on. on.0) ((by_side (λ s j. Unit {0}) x).1 tt)

  -- a corner 0 within the other piece, as it is written
  first-within : (s : Side) → InPiece (pair (other s)) (whole (corner (pair s) 0))
      → corner_gap pair s 0 ≡ with_corner s 0 (within_values (corner (pair s) 0))
  first-within s within = ap (λ (f : Feature). with_corner s 0 (values (pair (other s)) (corner (pair s) 0) f))
      ((within-iff (polygons (other s)) (corner (pair s) 0)).1 within)

  -- what the sweep finds for a side is its answer, and so is its corner 0 where that is none
  side-answers-by : (s : Side) (x : Option CornerGap) → SideWorst pair os s x
      → IsSideAnswer pair os s (or_within s (corner (pair s) 0) x)
  side-answers-by s None within = rw (first-within s (within 0 (nonempty s))) at (leads-side s (λ j below. below)
      (leads-of pair os polygons s (λ j. j < length (pair s)) (corner_gap pair s 0) (nonempty s) (record {
        equal = refl;
        holds = nonempty s;
        preferred = λ j below. record {
          not_less = (least_iff pair polygons s s j 0 (within 0 (nonempty s))).1 (within j below);
          first_of_equals = λ _. omega (arith, first-number s);
        };
      })))
  side-answers-by s (Some w) (best, outside) =
      leads-side s (λ j below. below) (leads-of pair os polygons s (λ j. j < length (pair s)) w best.holds best)

  pub side-answers : (s : Side) → IsSideAnswer pair os s (side_answer pair os s)
  side-answers s = side-answers-by s (worst_after pair os (step_count pair) s) (side-worst pair os polygons s)

  pub sweep-answers : IsAnswer pair os (answer pair os)
  sweep-answers = sides-answer (side_answer pair os A) (side_answer pair os B) (side-answers A) (side-answers B)

  -- a corner outside has a gap above zero
  outside_above : (s : Side) (w : CornerGap) → SideWorst pair os s (Some w) → 0 < w.gap.upper
  outside_above s w (best, outside) = elim (ℕ_discrete w.gap.upper 0) [
    | yes e ↦ absurd (outside
        ((gap-zero-iff (polygons (other s)) (corner (pair s) w.corner)).0 (rw best.equal at e)))
    | no above ↦ omega arith
  ]

  -- by which sides show a corner that was counted
  worse-overall : (a b : Option CornerGap) → SideWorst pair os A a → SideWorst pair os B b
      → worse (or_within A (corner (pair A) 0) a) (or_within B (corner (pair B) 0) b)
      ≡ or_within A (corner (pair A) 0) (overall a b)
  worse-overall None None p q = refl
  worse-overall None (Some b) p q = worse-second _ b (λ not-greater. omega (arith, outside_above B b q))
  worse-overall (Some a) None p q = worse-first a _ (omega arith)
  worse-overall (Some a) (Some b) p q = refl

  pub answer-from-steps : answer pair os ≡ or_within A (corner (pair A) 0) (worst_so_far pair os (step_count pair))
  answer-from-steps = worse-overall (worst_after pair os (step_count pair) A) (worst_after pair os (step_count pair) B)
      (side-worst pair os polygons A) (side-worst pair os polygons B)

  -- every corner of the side is within
  pub zero-side-answer : (s : Side) → ((w : CornerGap) → IsGap pair w → w.side ≡ s → w.gap.upper ≡ 0)
      → IsSideAnswer pair os s (with_corner s 0 (within_values (corner (pair s) 0)))
  zero-side-answer s none = side-answers-by s None (λ i below.
      (gap-zero-iff (polygons (other s)) (corner (pair s) i)).0
      (none (corner_gap pair s i) (gap_is pair polygons s i below) refl))

  pub zero-answer : ((w : CornerGap) → IsGap pair w → w.gap.upper ≡ 0)
      → IsAnswer pair os (with_corner A 0 (within_values (corner (pair A) 0)))
  zero-answer none =
      sides-answer _ _ (zero-side-answer A (λ w gap _. none w gap)) (zero-side-answer B (λ w gap _. none w gap))

  -- what is tried is the corner's gap
  tried-leads : (s : Side) (i : ℕ) → i < length (pair s) → Leads pair os (OnSide s (λ j. j ≡ i)) (searched pair s i)
  tried-leads s i below =
      let same = ap (with_corner s i) (search-nearest (polygons (other s)) (corner (pair s) i)) in
      leads-of pair os polygons s (λ j. j ≡ i) (searched pair s i) below (record {
        equal = same;
        holds = refl;
        preferred = λ j e. rw (e, same) (preferred-refl (given pair os s) (corner_gap pair s i));
      })

  -- the corner with the number i as given
  abbrev tried_as : Side → ℕ → CornerGap
  tried_as s i = searched pair s (given pair os s i)

  -- corner 0 and then the corners with numbers below n: what is kept leads among these
  tries : (s : Side) (n : ℕ) → n ≤ length (pair s)
      → Leads pair os (OnSide s (λ j. (j ≡ 0) ⊎ (given pair os s j < n))) (fold worse (searched pair s 0) (tried_as s) n)
  unfolding fold
  tries s zero fits =
      leads-map (λ z gap. (
        λ (on, e). (on, inl e),
        λ (on, below). (on, ⊎_elim (λ e. e) (λ none. absurd (omega arith)) below),
      ))
      (tried-leads s 0 (nonempty s))
  tries s (suc n) fits =
      let before = tries s n (omega arith) in
      leads-map one_more (leads-worse pair os polygons _ (tried_as s n) before
      (tried-leads s (given pair os s n) (given_below (os s) (length (pair s)) n (omega arith)))
      (order (fold worse (searched pair s 0) (tried_as s) n) before.among))
    where
      twice : given pair os s (given pair os s n) ≡ n
      twice = given-twice (os s) (length (pair s)) n (omega arith)

      zero-before : {i : ℕ} → i ≡ 0 → given pair os s i ≤ n
      zero-before {i} first = let zero_number = ap (given pair os s) first ∙ first-number s in omega arith

      one_more : (z : CornerGap) → IsGap pair z
          → (OnSide s (λ j. (j ≡ 0) ⊎ (given pair os s j < n)) z ⊎ OnSide s (λ j. j ≡ given pair os s n) z)
          ↔ OnSide s (λ j. (j ≡ 0) ⊎ (given pair os s j < suc n)) z
      one_more z gap = (
        ⊎_elim (λ (on, below). (on, ⊎_map (λ e. e) (λ lower. omega arith) below))
            (λ (on, e). (on, inr (rw (e, twice) (omega arith)))),
        λ (on, below). elim (ℕ_discrete (given pair os s z.corner) n) [
          | yes e ↦ let known = rw on at gap.known in
              inr (on, sym (given-twice (os s) (length (pair s)) z.corner known) ∙ ap (given pair os s) e)
          | no different ↦ inl (on, ⊎_map (λ e. e) (λ lower. omega arith) below)
        ],
      )

      order : (w : CornerGap) → OnSide s (λ j. (j ≡ 0) ⊎ (given pair os s j < n)) w
          → (x : CornerGap) → OnSide s (λ j. j ≡ given pair os s n) x
          → NotLater w.side (given pair os w.side w.corner) x.side (given pair os x.side x.corner)
      order w (on-w, below) x (on, e) =
          rw (on-w, on, e, twice) (not-later-on-side s (given pair os s w.corner) n
          (⊎_elim (λ first. zero-before first) (λ lower. omega arith) below))

  pub side-search-answers : (s : Side) → IsSideAnswer pair os s (exhaustive_of pair os s)
  side-search-answers s =
      let n = length (pair s) in leads-side s (λ j below. inr (given_below (os s) n j below)) (tries s n (omega arith))

  pub search-answers : IsAnswer pair os (exhaustive pair os)
  search-answers =
      sides-answer (exhaustive_of pair os A) (exhaustive_of pair os B) (side-search-answers A) (side-search-answers B)

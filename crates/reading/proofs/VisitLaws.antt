-- The corners of a list visited in order, each tested by its visit and that of the corner before.
--     Visiting      what holds before a corner is visited
--     begins        it holds before corner 2
--     in_reach      what the tests ask of the visits
--     stops, goes_on    a corner that fails its tests, and one that passes them
use mathlib.Core.Bool.{Bool, true, false}
use mathlib.Core.List.{List}
use mathlib.Core.Path.{◌≡◌, sym, ◌∙◌}
use native.Mathlib.Omega.{arith}
use Prim.Native.Nat.{ℕ, suc, ◌+◌, ◌-◌, ◌<◌, ◌≤◌}
use lib.ListN.{length}
use Rattle.plane.specs.declared.Corner.{Corner}
use Rattle.plane.specs.declared.Vector.{Vector}
use Rattle.plane.specs.Range.{InRange}
use Rattle.plane.specs.code.Range.{Span, reach}
use Rattle.plane.specs.Vector.{◌⇀◌}
use Rattle.plane.proofs.Algebra.{side-end}
use Rattle.plane.proofs.Range.{span-⇀}
use Rattle.outline.specs.Convex.{AllInRange}
use Rattle.outline.specs.Corners.{corner}
use Rattle.outline.specs.code.Turns.{keeps_left_at, is_convex}
use Rattle.lists.proofs.FoldLaws.{Passing, pass-start, pass_on, pass-stop}
use Rattle.reading.specs.declared.checks.Visit.{Visit}
use Rattle.reading.specs.Visit.{visit_of, InReach, keeps_left_by}

-- corner k is visited next: those from 2 on before it pass, and `last` is the visit of the corner before it
pub record Visiting (cs : List Corner) (n : ℕ) (apex : Corner) (run : Vector) (last : Visit) (k : ℕ) : Type 0 where
  pub all : AllInRange cs
  pub counted : n ≡ length cs
  pub from_two : 2 ≤ k
  pub is_apex : apex ≡ corner cs 0
  pub is_run : run ≡ corner cs 0 ⇀ corner cs 1
  pub is_last : last ≡ visit_of (corner cs 0) (corner cs (k - 2)) (corner cs (k - 1))
  pub passing : Passing (keeps_left_at cs) (length cs - 2) (k - 2)

-- corner 2 is the first
pub begins : {cs : List Corner} {n : ℕ} {apex second : Corner} {last : Visit} → AllInRange cs → n ≡ length cs
    → apex ≡ corner cs 0 → second ≡ corner cs 1 → last ≡ visit_of apex apex second
    → Visiting cs n apex last.diagonal last 2
begins {cs} all counted is_apex is-second is_last = record {
  all = all;
  counted = counted;
  from_two = omega arith;
  is_apex = is_apex;
  is_run = rw (is_last, is_apex, is-second);
  is_last = rw (is_last, is_apex, is-second);
  passing = pass-start (keeps_left_at cs) (length cs - 2);
}

module _ {cs : List Corner} {n k : ℕ} {apex to : Corner} {run : Vector} {last visit : Visit}
    (visiting : Visiting cs n apex run last k) (below : k < n) (is-to : to ≡ corner cs k)
    (is-visit : visit ≡ visit_of apex last.corner to) where
  visit-is : visit ≡ visit_of (corner cs 0) (corner cs (k - 1)) (corner cs k)
  visit-is = is-visit ∙ rw (visiting.is_apex, visiting.is_last, is-to)

  -- all differences are those of points in range
  pub in_reach : Span reach run × (InReach last × InReach visit)
  in_reach =
      let known : (j : ℕ) → j ≤ k → InRange (corner cs j) =
      λ j up. visiting.all j (omega (arith, visiting.counted)) in
      let apex-in = known 0 (omega arith) in
      let second-in = known 1 (omega (arith, visiting.from_two)) in
      let p-in = known (k - 2) (omega arith) in
      let q-in = known (k - 1) (omega arith) in
      let to_in = known k (omega arith) in (
        rw visiting.is_run (span-⇀ apex-in second-in),
        (
          rw visiting.is_last (record { diagonal = span-⇀ apex-in q-in; edge = span-⇀ p-in q-in }),
          rw visit-is (record { diagonal = span-⇀ apex-in to_in; edge = span-⇀ q-in to_in }),
        ),
      )

  -- the side number against the edge to the corner before is that from its end
  tests : keeps_left_by run last visit ≡ keeps_left_at cs (k - 2)
  tests =
      let before : suc (k - 2) ≡ k - 1 = omega (arith, visiting.from_two) in
      let here : suc (suc (k - 2)) ≡ k = omega (arith, visiting.from_two) in
      let at-end = side-end (corner cs (k - 2)) (corner cs (k - 1)) (corner cs k) in
      rw (here, before, visiting.is_run, visiting.is_last, visit-is, at-end)

  module _ {t : Bool} (told : t ≡ keeps_left_by run last visit) where
    -- a corner that fails its tests
    pub stops : t ≡ false → false ≡ is_convex cs
    unfolding is_convex
    stops fails = pass-stop visiting.passing (omega (arith, visiting)) (sym tests ∙ sym told ∙ fails)

    -- one that passes them
    pub goes_on : t ≡ true → Visiting cs n apex run visit (k + 1)
    goes_on passes =
        let before : k + 1 - 2 ≡ k - 1 = omega (arith, visiting.from_two) in
        let here : k + 1 - 1 ≡ k = omega arith in
        let turn : k - 2 + 1 ≡ k + 1 - 2 = omega (arith, visiting.from_two) in
        let keeps = sym tests ∙ sym told ∙ passes in
        let passed = pass_on visiting.passing (omega (arith, visiting)) keeps in
        record {
          all = visiting.all;
          counted = visiting.counted;
          from_two = omega (arith, visiting.from_two);
          is_apex = visiting.is_apex;
          is_run = visiting.is_run;
          is_last = rw (before, here) visit-is;
          passing = rw turn at passed;
        }

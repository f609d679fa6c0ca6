-- What the strict reading refuses and what it takes.
--     checks-decide        each check decides its condition
--     check-refused        a list is refused exactly where a condition applies, with the refusal of the first that does
--     check-taken          it is taken exactly where no condition applies
--     none-accepted, accepted    that is: its length is even and the outline of its corners is accepted
--     convex-decides       6 alone
--     range-decides        4 alone
--     range-taken, convex-taken    the check 4 takes exactly where all corners are in range, and 6 where they are
--                          strictly convex
--     not-left-none        6 does not apply exactly where they are
--     coordinates-accepted    the list of some corners is accepted exactly where they are
--     point-decides, point-in-range    7: the check decides its condition; a point to which it does not apply is in range
-- Of 5 and 6 together, of three corners or more:
--     shape-decide         each check decides its condition
--     shape-none, shape-taken    neither applies, and both checks take, exactly where the corners are strictly convex
-- Of 1 to 5, which both readings have:
--     Sized                a list of even length, with 3 to 256 corners, all in range
--     common-decide        each check decides its condition, and so does one more
--     common-none, common-sized    none applies to such a list without equal neighbours, and only to such a list
--     lengths-sized        the checks 1 to 3 take, and all corners are in range: it is such a list
use Prim.Native.Nat.{ℕ, ◌<◌, ◌≤◌, ◌%◌}
use mathlib.Core.Path.{◌≡◌, refl}
use mathlib.Core.Logic.Iff
use mathlib.Core.Logic.{◌↔◌, ◌≢◌}
use mathlib.Core.Bool.{Bool, true, not}
use mathlib.Core.List.{List, [], ◌∷◌, ◌++◌}
use native.Mathlib.Omega.{arith}
use lib.Dec.{eqb}
use lib.IntN.{ℤ}
use lib.ListN.{length}
use Rattle.std.specs.Prelude.{Option, None, Ok, Err}
use Rattle.outline.specs.declared.Side.{Side}
use Rattle.integers.proofs.Reflect.{test-not, test-and, test-stable, test-eqb, test-ltb}
use Rattle.plane.specs.declared.Corner.{Corner}
use Rattle.plane.specs.Range.{InRange}
use Rattle.plane.specs.Vector.{coordinates}
use Rattle.plane.specs.code.Range.{in_range}
use Rattle.plane.specs.code.Tests.{is_left}
use Rattle.plane.proofs.Tests.{in_range-true, same_true, is_left-true}
use Rattle.outline.specs.declared.Place.TheVariants.{Nowhere}
use Rattle.outline.specs.declared.Refusal.{Refusal}
use Rattle.outline.specs.Conditions.{NotLeftOf, out_of_range, repeated, not_left, point_out_of_range, common_conditions}
use Rattle.outline.specs.Conditions.{reading_conditions, AcceptedList}
use Rattle.outline.specs.Convex.{AllInRange, LeftOf, StrictlyConvex, Accepted}
use Rattle.outline.specs.Corners.{corners, corner, next, edge, fewest, most}
use Rattle.outline.specs.code.Reading.{is_out_of_range, is_repeated, is_not_left}
use Rattle.outline.specs.code.Checks.{Verdict, first}
use Rattle.outline.specs.code.Reading.{check_point, check_range, check_repeated, check_edge, check_convex}
use Rattle.outline.specs.code.Reading.{length_checks, checks, check}
use Rattle.outline.specs.Refusal.{Condition, Applies, FirstFault}
use Rattle.outline.proofs.ChecksLaws.{or_else-taken, refuse_if-taken}
use Rattle.outline.proofs.CornersLaws.{length-coordinates, corners-coordinates}
use Rattle.outline.proofs.EdgeLaws.{accepted-polygon, polygon-distinct}
use Rattle.outline.proofs.ConditionLaws.{◌and◌, Decides, AllDecide, decides-taken, first-refused, first_taken}
use Rattle.outline.proofs.ConditionLaws.{NoneApplies, nowhere-plain, plain_stable, lowest-none}
use Rattle.outline.proofs.ConditionLaws.{decide-append, none-append}
use Rattle.outline.proofs.ConditionLaws.{test-decides, tests-taken, lowest-decides, edges-taken, edges-decide}

-- ---- each check of the corners: its test, by its meaning; that it decides its condition; what it means that it takes
module _ (cs : List Corner) where
  abbrev n : ℕ
  n = length cs

  -- 4
  out_of_range-true : (i : ℕ) → (is_out_of_range cs i ≡ true) ↔ (¬ InRange (corner cs i))
  out_of_range-true i = test-not (in_range (corner cs i)) (in_range-true (corner cs i))

  pub range-decides : (whose : Option Side) → Decides (check_range whose cs) (out_of_range whose cs)
  unfolding check_range
  range-decides whose = lowest-decides _ whose _ out_of_range-true n

  all_in_range : ((i : ℕ) → i < n → ¬ (¬ InRange (corner cs i))) ↔ AllInRange cs
  all_in_range = (
    λ none i below. test-stable (in_range (corner cs i)) (in_range-true (corner cs i)) (none i below),
    λ all i below out. out (all i below),
  )

  pub range-taken : (whose : Option Side) → (check_range whose cs ≡ Ok tt) ↔ AllInRange cs
  unfolding check_range
  range-taken whose = Iff.trans (tests-taken _ out_of_range-true _ n) all_in_range

  -- 5
  repeated-true : (i : ℕ) → (is_repeated cs i ≡ true) ↔ (corner cs i ≡ corner cs (next n i))
  repeated-true i = same_true (corner cs i) (corner cs (next n i))

  repeated-decides : (whose : Option Side) → Decides (check_repeated whose cs) (repeated whose cs)
  unfolding check_repeated
  repeated-decides whose = lowest-decides _ whose _ repeated-true n

  -- 6
  other-true : (a b : ℕ) → (not (eqb a b) ≡ true) ↔ (a ≢ b)
  other-true a b = test-not (eqb a b) (test-eqb a b)

  -- corner c is strictly left of edge e
  abbrev left : ℕ → ℕ → Bool
  left e c = is_left (corner cs e) (edge cs e) (corner cs c)

  left-true : (e c : ℕ) → (left e c ≡ true) ↔ LeftOf cs e c
  left-true e c = is_left-true (corner cs e) (edge cs e) (corner cs c)

  is_not_left-true : (e c : ℕ) → (is_not_left cs e c ≡ true) ↔ NotLeftOf cs e c
  is_not_left-true e c = (
    λ t. (let ((start, end), left) = all.0 t in record { not_start = start; not_end = end; not_left = left }),
    λ h. all.1 ((h.not_start, h.not_end), h.not_left),
  )
    where
      all : (is_not_left cs e c ≡ true) ↔ ((c ≢ e) × (c ≢ next n e)) × (¬ LeftOf cs e c)
      all = test-and _ _ (test-and _ _ (other-true c e) (other-true c (next n e))) (test-not (left e c) (left-true e c))

  pub convex-decides : (whose : Option Side) → Decides (check_convex whose cs) (not_left whose cs)
  unfolding check_convex check_edge
  convex-decides whose = edges-decide _ whose _ is_not_left-true n

  pub convex-taken : (whose : Option Side) → (check_convex whose cs ≡ Ok tt) ↔ StrictlyConvex cs
  unfolding check_convex check_edge
  convex-taken whose = Iff.trans (edges-taken _ whose _ is_not_left-true n) (
    λ none e c e-below c-below not_start not_end.
        test-stable (left e c) (left-true e c)
        (λ not. none e e-below (c, c-below, record { not_start = not_start; not_end = not_end; not_left = not })),
    λ convex e e-below (c, c-below, found).
        found.not_left (convex e c e-below c-below found.not_start found.not_end),
  )

  pub not-left-none : (whose : Option Side) → (¬ Applies (not_left whose cs)) ↔ StrictlyConvex cs
  not-left-none whose = (
    λ none. (convex-taken whose).0 ((decides-taken (convex-decides whose)).1 none),
    λ convex. (decides-taken (convex-decides whose)).0 ((convex-taken whose).1 convex),
  )

  -- 5 and 6: three or more strictly convex corners have no equal neighbours
  module _ (whose : Option Side) where
    abbrev shape_checks : List Verdict
    shape_checks = check_repeated whose cs ∷ check_convex whose cs ∷ []

    abbrev shape_conditions : List Condition
    shape_conditions = repeated whose cs ∷ not_left whose cs ∷ []

    pub shape-decide : AllDecide shape_checks shape_conditions
    shape-decide = repeated-decides whose and convex-decides whose and tt

    pub shape-none : fewest ≤ n → NoneApplies shape_conditions ↔ StrictlyConvex cs
    shape-none enough = (
      λ (_, (none, _)). (not-left-none whose).0 none,
      λ convex. (lowest-none _ repeated-true n).1 (polygon-distinct {cs = cs} (record { at_least = enough; convex = convex }))
          and (not-left-none whose).1 convex and tt,
    )

    pub shape-taken : fewest ≤ n → (first shape_checks ≡ Ok tt) ↔ StrictlyConvex cs
    shape-taken enough = Iff.trans (first_taken shape_checks shape_conditions shape-decide) (shape-none enough)

-- ---- 7
pub point-decides : (v : Corner) → Decides (check_point v) (point_out_of_range v)
point-decides v = test-decides _ None _ (test-not (in_range v) (in_range-true v))

pub point-in-range : (v : Corner) → ¬ Applies (point_out_of_range v) → InRange v
point-in-range v = plain_stable (in_range v) (in_range-true v)

-- ---- 1 to 5
-- a list of even length, with 3 to 256 corners, all in range
pub record Sized (s : List ℤ) : Type 0 where
  pub even : length s % 2 ≡ 0
  pub at_least : fewest ≤ length (corners s)
  pub at_most : length (corners s) ≤ most
  pub all_in_range : AllInRange (corners s)

module _ (whose : Option Side) (s : List ℤ) where
  abbrev cs : List Corner
  cs = corners s

  -- the checks of 1 to 5
  abbrev common_checks : List Verdict
  common_checks = length_checks whose s ++ (check_range whose cs ∷ check_repeated whose cs ∷ [])

  pub common-decide : (v : Verdict) (c : Condition) → Decides v c
      → AllDecide (common_checks ++ (v ∷ [])) (common_conditions whose s ++ (c ∷ []))
  common-decide v c decides =
      decide-append common_checks (v ∷ []) (common_conditions whose s) (c ∷ []) (
      test-decides _ whose _ (test-eqb (length s % 2) 1)
      and test-decides _ whose _ (test-ltb (length cs) fewest)
      and test-decides _ whose _ (test-ltb most (length cs))
      and range-decides cs whose
      and repeated-decides cs whose
      and tt
      ) (decides and tt)

  sized : ¬ (length s % 2 ≡ 1) → ¬ (length cs < fewest) → ¬ (most < length cs) → AllInRange cs → Sized s
  sized odd few many all = record { even = omega arith; at_least = omega arith; at_most = omega arith; all_in_range = all }

  -- none of them applies to such a list, if no corner is equal to the following one, and then to no other
  pub common-none : Sized s → ((i : ℕ) → i < length cs → corner cs i ≢ corner cs (next (length cs) i))
      → NoneApplies (common_conditions whose s)
  common-none ok distinct =
      nowhere-plain (λ odd. omega (arith, ok.even))
      and nowhere-plain (λ few. omega (arith, ok.at_least))
      and nowhere-plain (λ many. omega (arith, ok.at_most))
      and (lowest-none _ (out_of_range-true cs) _).1 ((all_in_range cs).1 ok.all_in_range)
      and (lowest-none _ (repeated-true cs) _).1 distinct
      and tt

  pub common-sized : NoneApplies (common_conditions whose s) → Sized s
  common-sized (not-odd, (not-few, (not-many, (none_out, _)))) =
      sized (λ is. not-odd (Nowhere, (refl, is))) (λ is. not-few (Nowhere, (refl, is)))
      (λ is. not-many (Nowhere, (refl, is))) ((all_in_range cs).0 ((lowest-none _ (out_of_range-true cs) _).0 none_out))

  -- where the checks 1 to 3 take
  pub lengths-sized : first (length_checks whose s) ≡ Ok tt → AllInRange cs → Sized s
  lengths-sized lengths all =
      let (odd, rest) = (or_else-taken _ _).0 lengths in
      let (few, last) = (or_else-taken _ _).0 rest in
      let (many, _) = (or_else-taken _ _).0 last in
      sized ((refuse_if-taken _ (test-eqb (length s % 2) 1) _).0 odd)
      ((refuse_if-taken _ (test-ltb (length cs) fewest) _).0 few)
      ((refuse_if-taken _ (test-ltb most (length cs)) _).0 many)
      all

-- ---- all checks
module _ (whose : Option Side) (s : List ℤ) where
  pub checks-decide : AllDecide (checks whose s) (reading_conditions whose s)
  checks-decide = common-decide whose s _ _ (convex-decides (corners s) whose)

  pub check-refused : (r : Refusal) → (check whose s ≡ Err r) ↔ FirstFault (reading_conditions whose s) r
  unfolding check
  check-refused = first-refused (checks whose s) (reading_conditions whose s) checks-decide

  pub check-taken : (check whose s ≡ Ok tt) ↔ NoneApplies (reading_conditions whose s)
  unfolding check
  check-taken = first_taken (checks whose s) (reading_conditions whose s) checks-decide

  -- such a list whose corners are strictly convex
  sized-accepted : Sized s → StrictlyConvex (corners s) → AcceptedList s
  sized-accepted ok convex = (
    ok.even,
    record { at_least = ok.at_least; at_most = ok.at_most; all_in_range = ok.all_in_range; convex = convex },
  )

  pub none-accepted : NoneApplies (reading_conditions whose s) ↔ AcceptedList s
  none-accepted = Iff.trans (none-append (common_conditions whose s) (not_left whose (corners s) ∷ [])) (there, back)
    where
      there : NoneApplies (common_conditions whose s) × NoneApplies (not_left whose (corners s) ∷ []) → AcceptedList s
      there (none, (none-not-left, _)) =
          sized-accepted (common-sized whose s none) ((not-left-none (corners s) whose).0 none-not-left)

      back : AcceptedList s → NoneApplies (common_conditions whose s) × NoneApplies (not_left whose (corners s) ∷ [])
      back (even, ok) = (
        common-none whose s
            (record { even = even; at_least = ok.at_least; at_most = ok.at_most; all_in_range = ok.all_in_range })
            (polygon-distinct (accepted-polygon ok)),
        (not-left-none (corners s) whose).1 ok.convex and tt,
      )

  pub accepted : (check whose s ≡ Ok tt) ↔ AcceptedList s
  accepted = Iff.trans check-taken none-accepted

pub coordinates-accepted : (cs : List Corner) → AcceptedList (coordinates cs) ↔ Accepted cs
coordinates-accepted cs = (
  λ (_, ok). rw (corners-coordinates cs) at ok,
  λ ok. (omega (arith, length-coordinates cs), rw (corners-coordinates cs) ok),
)

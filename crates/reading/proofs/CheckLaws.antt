-- The checks in two parts: 1 to 4, whose verdict is u, and the others.
--     enough, all_in_range                   where 1 to 4 take, there are three corners or more, and all are in range
--     strict-stops, either-stops         where they refuse, so does the strict reading, and so does the default one
--     either-convex                      where they take and the corners are strictly convex as held, the default one takes
--     either-shape                       and where the corners are not, 5 and then 6 decide it
--     strict-shape                       where they take, 5 and then 6 decide the strict one
--     convex-shape                       5 and 6 take three corners or more that are strictly convex
use Prim.Native.Nat.{◌≤◌}
use mathlib.Core.Bool.{Bool, true, false}
use mathlib.Core.List.{List, [], ◌∷◌, ◌++◌}
use mathlib.Core.Path.{◌≡◌, sym, ◌∙◌}
use lib.IntN.{ℤ}
use lib.ListN.{length}
use Rattle.std.specs.Prelude.{Option, Ok, Err}
use Rattle.outline.specs.declared.Side.{Side}
use Rattle.plane.specs.declared.Corner.{Corner}
use Rattle.outline.specs.declared.Orientation.{Orientation}
use Rattle.outline.specs.declared.Refusal.{Refusal}
use Rattle.outline.specs.Convex.{AllInRange}
use Rattle.outline.specs.Corners.{corners, fewest}
use Rattle.outline.specs.Orientation.{as_held}
use Rattle.outline.specs.code.Checks.{Verdict, first}
use Rattle.outline.specs.code.Either.{orientation_of, check_either_convex, check_either}
use Rattle.outline.specs.code.Reading.{length_checks, check_range, check_repeated, check_convex, check}
use Rattle.outline.specs.code.Turns.{is_convex}
use Rattle.outline.proofs.Acceptance.{range-taken, shape-taken, lengths-sized}
use Rattle.outline.proofs.ChecksLaws.{taken≢refused, not-refused, or_else-taken, append-stops, append-goes-on}
use Rattle.outline.proofs.EitherLaws.{convex-either}
use Rattle.outline.proofs.TurnsLaws.{is_convex-true}
use Rattle.reading.specs.Numbers.{number_checks, check_numbers}
use Rattle.reading.specs.Shape.{check_shape}

pub convex-shape : (whose : Option Side) (cs : List Corner) → fewest ≤ length cs → {b : Bool} → b ≡ is_convex cs → b ≡ true
    → Ok tt ≡ check_shape whose cs
convex-shape whose cs enough told convex =
    sym ((shape-taken cs whose enough).1 ((is_convex-true cs).0 (sym told ∙ convex)))

module _ (whose : Option Side) (s : List ℤ) {u : Verdict} (is : u ≡ check_numbers whose s) where
  module _ {r : Refusal} (refuses : u ≡ Err r) where
    -- whatever checks follow
    stops : (rest : List Verdict) → Err r ≡ first (number_checks whose s ++ rest)
    stops rest = sym (append-stops (number_checks whose s) rest (sym is ∙ refuses))

    pub strict-stops : Err r ≡ check whose s
    unfolding check
    strict-stops = stops (check_repeated whose (corners s) ∷ check_convex whose (corners s) ∷ [])

    pub either-stops : Err r ≡ check_either whose s
    unfolding check_either
    either-stops = stops (check_repeated whose (corners s) ∷ check_either_convex whose (corners s) ∷ [])

  module _ (takes : u ≡ Ok tt) where
    -- a refusal of the length would be theirs
    lengths : first (length_checks whose s) ≡ Ok tt
    lengths = not-refused _ (λ r refuses. taken≢refused (sym is ∙ takes)
        (append-stops (length_checks whose s) (check_range whose (corners s) ∷ []) refuses))

    pub all_in_range : AllInRange (corners s)
    all_in_range = (range-taken (corners s) whose).0 ((or_else-taken _ _).0
        (sym (append-goes-on (length_checks whose s) (check_range whose (corners s) ∷ []) lengths) ∙ sym is ∙ takes)).0

    pub enough : fewest ≤ length (corners s)
    enough = (lengths-sized whose s lengths all_in_range).at_least

    -- whatever checks follow, they decide
    goes_on : {v : Verdict} (rest : List Verdict) → v ≡ first rest → v ≡ first (number_checks whose s ++ rest)
    goes_on rest decides = decides ∙ sym (append-goes-on (number_checks whose s) rest (sym is ∙ takes))

    pub strict-shape : {v : Verdict} → v ≡ check_shape whose (corners s) → v ≡ check whose s
    unfolding check
    strict-shape = goes_on (check_repeated whose (corners s) ∷ check_convex whose (corners s) ∷ [])

    module _ {o : Orientation} {b : Bool} (found : o ≡ orientation_of (corners s))
        (told : b ≡ is_convex (as_held o (corners s))) where
      -- so the pass answers for the corners as they are held
      answered : {c : Bool} → b ≡ c → is_convex (as_held (orientation_of (corners s)) (corners s)) ≡ c
      answered answer = rw found at (sym told ∙ answer)

      pub either-convex : b ≡ true → Ok tt ≡ check_either whose s
      either-convex convex = sym (convex-either whose s lengths all_in_range (answered convex))

      pub either-shape : b ≡ false → {v : Verdict} → v ≡ check_shape whose (corners s) → v ≡ check_either whose s
      unfolding check_either check_either_convex
      either-shape fails decides =
          goes_on (check_repeated whose (corners s) ∷ check_either_convex whose (corners s) ∷ [])
          (rw (answered fails) decides)

-- The strict reading, computed: a check for each condition of rule 2.4, in their order, and that of 7, of a point.
-- `whose` is the side that a refusal names. `proofs/Acceptance.antt` shows that the checks decide the conditions.
use Rattle.outline.specs.declared.Side.{Side}
use Rattle.std.specs.Prelude.{ℕ, ◌%◌, Bool, not, ◌&&◌, List, [], ◌∷◌, ◌++◌, eqb, ltb, ℤ, length, Option, Result}
use Rattle.plane.specs.declared.Corner.{Corner}
use Rattle.plane.specs.code.Range.{in_range}
use Rattle.plane.specs.code.Tests.{is_left, same}
use Rattle.outline.specs.declared.Place.TheVariants.{Nowhere, At, EdgeAndCorner}
use Rattle.outline.specs.declared.Outline.{Outline}
use Rattle.outline.specs.declared.Refusal.{Refusal}
use Rattle.outline.specs.Corners.{corners, corner, next, edge, held, fewest, most}
use Rattle.outline.specs.Refusal.{refusal}
use Rattle.outline.specs.Conditions.{odd_length, too_few, too_many, out_of_range, repeated, not_left, point_out_of_range}
use Rattle.outline.specs.code.Checks.{Verdict, refuse_if, first, each, answer_if}

-- 4, tested: corner i is out of range
abbrev pub is_out_of_range : List Corner → ℕ → Bool
is_out_of_range cs i = not (in_range (corner cs i))

-- 5, tested: corner i is equal to the following one
abbrev pub is_repeated : List Corner → ℕ → Bool
is_repeated cs i = same (corner cs i) (corner cs (next (length cs) i))

-- 6, tested: corner c is no end of edge e and not strictly left of it
abbrev pub is_not_left : List Corner → ℕ → ℕ → Bool
is_not_left cs e c =
    not (eqb c e)
    && not (eqb c (next (length cs) e))
    && not (is_left (corner cs e) (edge cs e) (corner cs c))

-- 7
abbrev pub check_point : Corner → Verdict
check_point v = refuse_if (not (in_range v)) (refusal (point_out_of_range v) Nowhere)

module _ (whose : Option Side) where
  -- 1
  abbrev pub check_odd_length : List ℤ → Verdict
  check_odd_length s = refuse_if (eqb (length s % 2) 1) (refusal (odd_length whose s) Nowhere)

  -- 2
  abbrev pub check_fewest : List Corner → Verdict
  check_fewest cs = refuse_if (ltb (length cs) fewest) (refusal (too_few whose cs) Nowhere)

  -- 3
  abbrev pub check_most : List Corner → Verdict
  check_most cs = refuse_if (ltb most (length cs)) (refusal (too_many whose cs) Nowhere)

  -- the checks of its length
  abbrev pub length_checks : List ℤ → List Verdict
  length_checks s = check_odd_length s ∷ check_fewest (corners s) ∷ check_most (corners s) ∷ []

  -- 4
  unfoldable pub check_range : List Corner → Verdict
  check_range cs = each (λ i. refuse_if (is_out_of_range cs i) (refusal (out_of_range whose cs) (At i))) (length cs)

  -- 5
  unfoldable pub check_repeated : List Corner → Verdict
  check_repeated cs = each (λ i. refuse_if (is_repeated cs i) (refusal (repeated whose cs) (At i))) (length cs)

  -- 6, of one edge
  unfoldable pub check_edge : List Corner → ℕ → Verdict
  check_edge cs e = each (λ c. refuse_if (is_not_left cs e c) (refusal (not_left whose cs) (EdgeAndCorner e c))) (length cs)

  -- 6
  unfoldable pub check_convex : List Corner → Verdict
  check_convex cs = each (check_edge cs) (length cs)

  -- the checks of its corners
  abbrev pub corner_checks : List Corner → List Verdict
  corner_checks cs = check_range cs ∷ check_repeated cs ∷ check_convex cs ∷ []

  -- all checks of a list
  abbrev pub checks : List ℤ → List Verdict
  checks s = length_checks s ++ corner_checks (corners s)

  -- what the first that refuses answers
  unfoldable pub check : List ℤ → Verdict
  check s = first (checks s)

  -- what reading gives
  abbrev pub reading : List ℤ → Result Outline Refusal
  reading s = answer_if (check s) (held (corners s))

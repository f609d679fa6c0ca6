-- Rule 2.8: what is refused in reading two outlines from a store. `whose` is the side that a refusal names.
use Rattle.outline.specs.declared.Fault.TheVariants.{PartialRecord, ChainTooLong, NoSuchRecord}
use Rattle.outline.specs.declared.Side.{Side}
use Rattle.std.specs.Prelude.{ℕ, ◌%◌, ◌≡◌, ◌≢◌, ◌⊎◌, List, [], ◌∷◌, ◌++◌, ℤ, pos, length, ◌<ℤ◌, ◌≤ℤ◌, Option, Some}
use Rattle.outline.specs.declared.Side.TheVariants.{A, B}
use Rattle.outline.specs.Conditions.{either_conditions}
use Rattle.outline.specs.Corners.{most}
use Rattle.outline.specs.Refusal.{condition, Condition, without_place, at_place}
use Rattle.records.specs.Chain.{records, Walk, walk, chain_list}

-- 10, the length of the store is not a multiple of three; it is told of A
abbrev pub partial_record : List ℤ → Condition
partial_record s = condition PartialRecord (Some A) (without_place (length s % 3 ≢ 0))

-- 11, 256 corners are read and the next index is not zero; the place is the number of corners read so far
abbrev pub too_long : Option Side → Walk → Condition
too_long whose w = condition ChainTooLong whose (at_place (length w.corners) ((length w.corners ≡ most) × (w.index ≢ pos 0)))

-- 12, the index that is met where the walk stops is not zero, and negative or not below n, the record count; the place is
-- the number of corners read so far
abbrev pub no_such_record : Option Side → ℕ → Walk → Condition
no_such_record whose n w = condition NoSuchRecord whose (at_place (length w.corners) ((w.index ≢ pos 0) × ((w.index <ℤ pos 0) ⊎ (pos n ≤ℤ w.index))))

-- 11 and then 12, of the chain that starts at an index: where both apply 11 stands
abbrev pub index_conditions : Option Side → List ℤ → ℤ → List Condition
index_conditions whose s start =
    too_long whose (walk s start)
    ∷ no_such_record whose (length (records s)) (walk s start)
    ∷ []

-- these, and then 1 to 6 of its corners, in the default reading
abbrev pub chain_conditions : Option Side → List ℤ → ℤ → List Condition
chain_conditions whose s start = index_conditions whose s start ++ either_conditions whose (chain_list s start)

-- 10, then all of A, whose chain starts at a, and then all of B, whose chain starts at b
abbrev pub records_conditions : List ℤ → ℤ → ℤ → List Condition
records_conditions s a b = partial_record s ∷ (chain_conditions (Some A) s a ++ chain_conditions (Some B) s b)

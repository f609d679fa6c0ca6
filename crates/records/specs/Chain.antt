-- Rule 1.10: a store of linked records, and the chain that starts at an index.
use Rattle.std.specs.Prelude.{ℕ, zero, suc, cond, ◌≡◌, List, [], ◌∷◌, ltb, ℤ, pos, negsuc, length, get_or}
use Rattle.plane.specs.declared.Corner.{Corner}
use Rattle.plane.specs.Vector.{coordinates}
use Rattle.outline.specs.Corners.{origin, most}
use Rattle.records.specs.declared.Record.{Record}

-- the records of a store, three numbers each: x, y and the index of the next record. Numbers left over at the end give
-- no record
unfoldable pub records : List ℤ → List Record
records [] = []
records (x ∷ []) = []
records (x ∷ (y ∷ [])) = []
records (x ∷ (y ∷ (next ∷ s))) = record { corner = record { x = x; y = y }; next = next } ∷ records s

-- the record with number i, for i below their count
abbrev pub record_at : List Record → ℕ → Record
record_at rs i = get_or rs i (record { corner = origin; next = pos 0 })

-- what is read of a chain: corners, and the index that is met after them
pub record Walk : Type 0 where
  pub corners : List Corner
  pub index : ℤ

-- nothing is read, and this index is met
abbrev pub stopped : ℤ → Walk
stopped z = record { corners = []; index = z }

-- the corner of a record, before what is read after it
abbrev pub onward : Record → Walk → Walk
onward r w = record { corners = r.corner ∷ w.corners; index = w.index }

-- from an index on, at most `left` corners: an index that is above zero and below the record count gives that record's
-- corner, and the record's next index is met then; any other stops the walk. Record 0 is never a corner
unfoldable pub walk_from : List Record → ℕ → ℤ → Walk
walk_from rs zero z = stopped z
walk_from rs (suc left) (negsuc i) = stopped (negsuc i)
walk_from rs (suc left) (pos zero) = stopped (pos zero)
walk_from rs (suc left) (pos (suc i)) =
    let r = record_at rs (suc i) in
    let read = onward r (walk_from rs left r.next) in cond (ltb (suc i) (length rs)) read (stopped (pos (suc i)))

-- what is read of the chain that starts at an index: at most 256 corners
abbrev pub walk : List ℤ → ℤ → Walk
walk s start = walk_from (records s) most start

-- the chain ends: zero is the index that is met after the corners that are read of it, at most 256
abbrev pub Ends : List ℤ → ℤ → Type 0
Ends s start = (walk s start).index ≡ pos 0

-- the corners of a chain in their order, as the list of numbers that gives them
abbrev pub chain_list : List ℤ → ℤ → List ℤ
chain_list s start = coordinates (walk s start).corners

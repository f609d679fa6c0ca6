-- Rule 2.4: what is refused in reading, and 7, of a point. `whose` is the side that a refusal names.
use Rattle.outline.specs.declared.Fault.TheVariants.{OddLength, TooFew, TooMany, OutOfRange, Repeated, NotLeft, PointOutOfRange}
use Rattle.outline.specs.declared.Side.{Side}
use Rattle.std.specs.Prelude.{ℕ, ◌<◌, ◌%◌, ◌≡◌, ◌≢◌, List, [], ◌∷◌, ◌++◌, ℤ, length, Option, None}
use Rattle.plane.specs.declared.Corner.{Corner}
use Rattle.plane.specs.Range.{InRange}
use Rattle.outline.specs.Convex.{LeftOf, Accepted}
use Rattle.outline.specs.Orientation.{StrictlyClockwise}
use Rattle.outline.specs.Corners.{corners, corner, next, fewest, most}
use Rattle.outline.specs.Refusal.{Condition, condition, without_place, at_number, at_edge_and_corner}

-- i is the lowest number below n of which P holds
pub record Lowest (P : ℕ → Type 0) (n i : ℕ) : Type 0 where
  pub below : i < n
  pub here : P i
  pub lowest : (j : ℕ) → j < i → ¬ P j

-- corner c is no end of edge e and not strictly left of it
pub record NotLeftOf (cs : List Corner) (e c : ℕ) : Type 0 where
  pub not_start : c ≢ e
  pub not_end : c ≢ next (length cs) e
  pub not_left : ¬ LeftOf cs e c

-- some corner other than the two ends of edge e is not strictly left of it
abbrev pub SomeNotLeftOf : List Corner → ℕ → Type 0
SomeNotLeftOf cs e = (c : ℕ) × (c < length cs) × NotLeftOf cs e c

-- 1, the list has an odd length
abbrev pub odd_length : Option Side → List ℤ → Condition
odd_length whose s = condition OddLength whose (without_place (length s % 2 ≡ 1))

-- 2, fewer than 3 corners
abbrev pub too_few : Option Side → List Corner → Condition
too_few whose cs = condition TooFew whose (without_place (length cs < fewest))

-- 3, more than 256 corners
abbrev pub too_many : Option Side → List Corner → Condition
too_many whose cs = condition TooMany whose (without_place (most < length cs))

-- 4, a coordinate out of range; the place is the lowest such corner
abbrev pub out_of_range : Option Side → List Corner → Condition
out_of_range whose cs =
    condition OutOfRange whose (at_number (Lowest (λ i. ¬ InRange (corner cs i)) (length cs)))

-- 5, a corner equal to the following one (the last against corner 0); the place is the lowest such corner
abbrev pub repeated : Option Side → List Corner → Condition
repeated whose cs =
    condition Repeated whose (at_number (Lowest (λ i. corner cs i ≡ corner cs (next (length cs) i)) (length cs)))

-- 6, some corner is not strictly left of an edge; the place is the lowest such edge and then its lowest such corner
abbrev pub not_left : Option Side → List Corner → Condition
not_left whose cs =
    condition NotLeft whose (at_edge_and_corner (λ e c. Lowest (SomeNotLeftOf cs) (length cs) e × Lowest (NotLeftOf cs e) (length cs) c))

-- 6 in the default reading: the corners fit neither orientation; the place is that of 6 in the strict reading
abbrev pub fits_neither : Option Side → List Corner → Condition
fits_neither whose cs = condition NotLeft whose (λ p. (¬ StrictlyClockwise cs) × (not_left whose cs).applies p)

-- 7, the point out of range, in a call that takes a point
abbrev pub point_out_of_range : Corner → Condition
point_out_of_range v = condition PointOutOfRange None (without_place (¬ InRange v))

-- 1 to 5, in their order, which both readings have
abbrev pub common_conditions : Option Side → List ℤ → List Condition
common_conditions whose s =
    odd_length whose s
    ∷ too_few whose (corners s)
    ∷ too_many whose (corners s)
    ∷ out_of_range whose (corners s)
    ∷ repeated whose (corners s)
    ∷ []

-- all six of the strict reading
abbrev pub reading_conditions : Option Side → List ℤ → List Condition
reading_conditions whose s = common_conditions whose s ++ (not_left whose (corners s) ∷ [])

-- all six of the default reading
abbrev pub either_conditions : Option Side → List ℤ → List Condition
either_conditions whose s = common_conditions whose s ++ (fits_neither whose (corners s) ∷ [])

-- the strict reading accepts the list: its length is even and its corners are accepted
abbrev pub AcceptedList : List ℤ → Type 0
AcceptedList s = (length s % 2 ≡ 0) × Accepted (corners s)

-- The proved examples of section 10 of docs/SPECIFICATION.md, and what each claims.
use Rattle.outline.specs.code.Checks.{Verdict}
use Rattle.outline.specs.declared.Fault.{Fault}
use Rattle.outline.specs.declared.Fault.TheVariants.{OddLength, TooFew, OutOfRange, Repeated, NotLeft, PointOutOfRange, NoSuchCorner, WrongLength, PartialRecord, ChainTooLong, NoSuchRecord}
use Rattle.hausdorff.specs.declared.Report.{Report}
use Rattle.std.specs.Prelude.{ℕ, ◌≡◌, List, [], ◌∷◌, ◌++◌, ℤ, pos, negsuc, length, replicate, Option, Some, None, Result, Ok, Err}
use Rattle.plane.specs.declared.Corner.{Corner}
use Rattle.outline.specs.declared.Orientation.{Orientation}
use Rattle.outline.specs.declared.Orientation.TheVariants.{Counterclockwise, Clockwise}
use Rattle.outline.specs.declared.Refusal.{Refusal}
use Rattle.outline.specs.declared.Outline.{Outline}
use Rattle.outline.specs.declared.EitherReading.{EitherReading}
use Rattle.outline.specs.declared.Place.{Place}
use Rattle.outline.specs.declared.Place.TheVariants.{Nowhere, At, EdgeAndCorner}
use Rattle.outline.specs.code.Either.{orientation_of, held_corners, either_reading}
use Rattle.outline.specs.code.Reading.{reading}
use Rattle.outline.specs.Corners.{corners, held}
use Rattle.hull.specs.code.Call.{hull_answer, hull_list, hull_marks}
use Rattle.nearest.specs.declared.Feature.{Feature}
use Rattle.nearest.specs.declared.NearestPoint.{NearestPoint}
use Rattle.nearest.specs.Given.{given_nearest}
use Rattle.nearest.specs.code.Call.{nearest_answer}
use Rattle.nearest.specs.Search.{search}
use Rattle.edit.specs.code.Removal.{removal_verdict, list_after}
use Rattle.edit.specs.code.Insertion.{insertion_verdict, insertion_list}
use Rattle.outline.specs.declared.Side.{Side}
use Rattle.outline.specs.declared.Side.TheVariants.{A, B}
use Rattle.hausdorff.specs.declared.CornerGap.{CornerGap}
use Rattle.hausdorff.specs.AngularOrder.{PairEdge, angular_order}
use Rattle.hausdorff.specs.Exhaustive.{exhaustive_of, exhaustive}
use Rattle.hausdorff.specs.Given.{given_gap}
use Rattle.hausdorff.specs.code.Call.{orientations, pair_of, comparison}
use Rattle.mismatch.specs.code.Call.{mismatch_answer}
use Rattle.records.specs.code.Call.{records_comparison}

-- a call, what it is handed, and what it answers
pub data Case : Type 0 where
  -- the strict reading of the list ends so
  reads_strictly : List ℤ → Result Outline Refusal → Case
  -- the default reading ends so
  reads : List ℤ → Result EitherReading Refusal → Case
  -- removing a corner of the list, with a list to write, ends so and leaves that list so
  removes : List ℤ → ℕ → List ℤ → Verdict → List ℤ → Case
  -- inserting a point as a corner of the list, with a list to write, ends so and leaves that list so
  inserts : List ℤ → ℕ → Corner → List ℤ → Verdict → List ℤ → Case
  -- the convex hull of the points of the list, with lists to write for corners and marks, ends so and leaves them so
  hulls : List ℤ → List ℤ → List ℤ → Result ℕ Refusal → List ℤ → List ℤ → Case
  -- the nearest point of the list's outline to a point is answered so
  nears : Corner → List ℤ → Result NearestPoint Refusal → Case
  -- the exhaustive search for a point finds this, by the list as given
  searches : Corner → List ℤ → NearestPoint → Case
  -- the angular order of the edges of two lists' outlines, as held, is this
  orders : List ℤ → List ℤ → List PairEdge → Case
  -- comparing the lists with a step allowance ends so
  compares : List ℤ → List ℤ → ℕ → Result Report Refusal → Case
  -- the exhaustive search finds these for A and for B, and this for both, by the lists as given
  exhausts : List ℤ → List ℤ → CornerGap → CornerGap → CornerGap → Case
  -- the call for the mismatch sum of the lists ends so
  sums : List ℤ → List ℤ → Result ℕ Refusal → Case
  -- comparing the outlines of two chains of a store, by their starts, with a step allowance ends so
  compares_chains : List ℤ → ℤ → ℤ → ℕ → Result Report Refusal → Case

-- a corner of two lists' outlines, by the lists as given
abbrev named : List ℤ → List ℤ → CornerGap → CornerGap
named s t w = given_gap (pair_of s t) (orientations s t) w

-- what a case claims: the definitions say so
abbrev pub Holds : Case → Type 0
Holds (reads_strictly s ends) = reading None s ≡ ends
Holds (reads s ends) = either_reading None s ≡ ends
Holds (removes s k out ends after) = (removal_verdict s k out ≡ ends) × (list_after s k out ≡ after)
Holds (inserts s k v out ends after) = (insertion_verdict s k v out ≡ ends) × (insertion_list s k v out ≡ after)
Holds (hulls s out ms ends after marked) =
    (hull_answer s out ms ≡ ends) × (hull_list s out ms ≡ after) × (hull_marks s out ms ≡ marked)
Holds (nears v s ends) = nearest_answer v s ≡ ends
Holds (searches v s found) =
    given_nearest (orientation_of (corners s)) (length (corners s)) (search (held_corners s) v) ≡ found
Holds (orders s t order) = angular_order (pair_of s t) ≡ order
Holds (compares s t allowance ends) = comparison s t allowance ≡ ends
Holds (exhausts s t in-a in_b found) =
    (named s t (exhaustive_of (pair_of s t) (orientations s t) A) ≡ in-a)
    × (named s t (exhaustive_of (pair_of s t) (orientations s t) B) ≡ in_b)
    × (named s t (exhaustive (pair_of s t) (orientations s t)) ≡ found)
Holds (sums s t ends) = mismatch_answer s t ≡ ends
Holds (compares_chains s a b allowance ends) = records_comparison s a b allowance ≡ ends

-- each case of a list holds
abbrev pub All : List Case → Type 0
All [] = Unit {0}
All (c ∷ cs) = Holds c × All cs

-- a square: (0,0) (4,0) (4,4) (0,4)
unfoldable pub S : List ℤ
S = pos 0 ∷ pos 0 ∷ pos 4 ∷ pos 0 ∷ pos 4 ∷ pos 4 ∷ pos 0 ∷ pos 4 ∷ []

-- a triangle: (0,0) (4,0) (0,4)
unfoldable pub T : List ℤ
T = pos 0 ∷ pos 0 ∷ pos 4 ∷ pos 0 ∷ pos 0 ∷ pos 4 ∷ []

-- S without corner 1: (0,0) (4,4) (0,4)
unfoldable pub halved : List ℤ
halved = pos 0 ∷ pos 0 ∷ pos 4 ∷ pos 4 ∷ pos 0 ∷ pos 4 ∷ []

-- a star: it turns left at each corner
unfoldable pub star : List ℤ
star = pos 0 ∷ pos 3 ∷ negsuc 1 ∷ negsuc 2 ∷ pos 3 ∷ pos 1 ∷ negsuc 2 ∷ pos 1 ∷ pos 2 ∷ negsuc 2 ∷ []

-- a triangle with a corner more, on one of its edges
unfoldable pub straight : List ℤ
straight = pos 0 ∷ pos 0 ∷ pos 2 ∷ pos 0 ∷ pos 4 ∷ pos 0 ∷ pos 0 ∷ pos 3 ∷ []

-- T, walked clockwise
unfoldable pub clockwise : List ℤ
clockwise = pos 0 ∷ pos 0 ∷ pos 0 ∷ pos 4 ∷ pos 4 ∷ pos 0 ∷ []

-- `straight`, walked clockwise
unfoldable pub straight_back : List ℤ
straight_back = pos 0 ∷ pos 0 ∷ pos 0 ∷ pos 3 ∷ pos 4 ∷ pos 0 ∷ pos 2 ∷ pos 0 ∷ []

-- T, walked twice
unfoldable pub twice : List ℤ
twice = pos 0 ∷ pos 0 ∷ pos 4 ∷ pos 0 ∷ pos 0 ∷ pos 4 ∷ T

-- the outline of the examples of the nearest point
unfoldable pub wedge : List ℤ
wedge = pos 0 ∷ pos 0 ∷ pos 9 ∷ pos 0 ∷ pos 0 ∷ pos 3 ∷ []

-- points in no order, with a repeat, one on an edge and one inside: (4,4) (0,0) (2,0) (4,0) (0,4) (4,4) (1,2)
unfoldable pub cloud : List ℤ
cloud =
    pos 4 ∷ pos 4 ∷ pos 0 ∷ pos 0 ∷ pos 2 ∷ pos 0 ∷ pos 4 ∷ pos 0 ∷ pos 0 ∷ pos 4 ∷ pos 4 ∷ pos 4 ∷ pos 1 ∷ pos 2 ∷ []

-- the same in the opposite order
unfoldable pub cloud_back : List ℤ
cloud_back =
    pos 1 ∷ pos 2 ∷ pos 4 ∷ pos 4 ∷ pos 0 ∷ pos 4 ∷ pos 4 ∷ pos 0 ∷ pos 2 ∷ pos 0 ∷ pos 0 ∷ pos 0 ∷ pos 4 ∷ pos 4 ∷ []

-- the hulls of `straight` and of the star
unfoldable pub straight_hull : List ℤ
straight_hull = pos 0 ∷ pos 0 ∷ pos 4 ∷ pos 0 ∷ pos 0 ∷ pos 3 ∷ []

unfoldable pub star_hull : List ℤ
star_hull = negsuc 1 ∷ negsuc 2 ∷ pos 2 ∷ negsuc 2 ∷ pos 3 ∷ pos 1 ∷ pos 0 ∷ pos 3 ∷ negsuc 2 ∷ pos 1 ∷ []

-- three points in one line: (0,0) (2,2) (1,1)
unfoldable pub in_line : List ℤ
in_line = pos 0 ∷ pos 0 ∷ pos 2 ∷ pos 2 ∷ pos 1 ∷ pos 1 ∷ []

-- a store of nine records. S starts at record 2 and T at record 3; both end with record 5. Record 7 is followed by itself,
-- and record 8 by one that is not there
unfoldable pub store : List ℤ
store =
    pos 16001 ∷ pos 3 ∷ pos 7
    ∷ pos 4 ∷ pos 4 ∷ pos 5
    ∷ pos 0 ∷ pos 0 ∷ pos 4
    ∷ pos 0 ∷ pos 0 ∷ pos 6
    ∷ pos 4 ∷ pos 0 ∷ pos 1
    ∷ pos 0 ∷ pos 4 ∷ pos 0
    ∷ pos 4 ∷ pos 0 ∷ pos 5
    ∷ pos 9 ∷ pos 9 ∷ pos 7
    ∷ pos 9 ∷ pos 9 ∷ pos 9
    ∷ []

-- the point (x, y)
abbrev pub point : ℤ → ℤ → Corner
point x y = record { x = x; y = y }

-- on edge 1 of the wedge: the nearest point to (6,6)
abbrev edge_one : NearestPoint
edge_one = record {
  feature = Feature.Edge 1;
  gap = record { upper = 2025; lower = 90 };
  point = record { x = pos 405; y = pos 135; lower = 90 };
}

-- at corner 1 of the wedge, with a whole gap
abbrev corner_one : ℕ → NearestPoint
corner_one gap = record {
  feature = Feature.Corner 1;
  gap = record { upper = gap; lower = 1 };
  point = record { x = pos 9; y = pos 0; lower = 1 };
}

-- at a leg of T, on the edge with this number: the nearest point to (2,-3) or to (-3,2)
abbrev on_leg : ℕ → ℤ → ℤ → NearestPoint
on_leg i x y = record {
  feature = Feature.Edge i;
  gap = record { upper = 144; lower = 16 };
  point = record { x = x; y = y; lower = 16 };
}

-- at an end of T's hypotenuse, the corner with this number: the nearest point to (5,-1)
abbrev at_end : ℕ → NearestPoint
at_end i = record {
  feature = Feature.Corner i;
  gap = record { upper = 2; lower = 1 };
  point = record { x = pos 4; y = pos 0; lower = 1 };
}

-- within: the point itself
abbrev within : ℤ → ℤ → NearestPoint
within x y = record {
  feature = Feature.Within;
  gap = record { upper = 0; lower = 1 };
  point = record { x = x; y = y; lower = 1 };
}

-- a list of n numbers to write, whatever they are before
abbrev pub sevens : ℕ → List ℤ
sevens n = replicate n (pos 7)

-- some numbers, and then n zeros
abbrev pub zeros_after : List ℤ → ℕ → List ℤ
zeros_after s n = s ++ replicate n (pos 0)

-- a list of four numbers to write, whatever they are before
abbrev pub four : List ℤ
four = sevens 4

-- one of six numbers
abbrev pub six : List ℤ
six = sevens 6

-- one of eight
abbrev pub eight : List ℤ
eight = sevens 8

-- refusal 6, with its edge and corner
abbrev not_left : Option Side → ℕ → ℕ → Refusal
not_left whose e c = record { fault = NotLeft; side = whose; place = EdgeAndCorner e c }

-- refusal 2
abbrev too_few : Refusal
too_few = record { fault = TooFew; side = None; place = Nowhere }

-- refusal 7
abbrev point_out : Refusal
point_out = record { fault = PointOutOfRange; side = None; place = Nowhere }

-- the corners of a list, held, with an orientation
abbrev read_as : List ℤ → Orientation → Result EitherReading Refusal
read_as as_held o = Ok (record { outline = held (corners as_held); orientation = o })

-- a refusal without a side, with this number and place
abbrev refusal_with : Fault → Place → Refusal
refusal_with fault place = record { fault = fault; side = None; place = place }

-- a refusal of a side with this number, without a place
abbrev refusal_of : Side → Fault → Refusal
refusal_of side fault = record { fault = fault; side = Some side; place = Nowhere }

-- and with a place of one number
abbrev refusal_at : Side → Fault → ℕ → Refusal
refusal_at side fault k = record { fault = fault; side = Some side; place = At k }

-- S, moved by (10,0)
unfoldable pub moved : List ℤ
moved = pos 10 ∷ pos 0 ∷ pos 14 ∷ pos 0 ∷ pos 14 ∷ pos 4 ∷ pos 10 ∷ pos 4 ∷ []

-- S, listed from another corner
unfoldable pub turned : List ℤ
turned = pos 4 ∷ pos 4 ∷ pos 0 ∷ pos 4 ∷ pos 0 ∷ pos 0 ∷ pos 4 ∷ pos 0 ∷ []

-- a small triangle where coordinates are lowest
unfoldable pub low : List ℤ
low = negsuc 15999 ∷ negsuc 15999 ∷ negsuc 15998 ∷ negsuc 15999 ∷ negsuc 15999 ∷ negsuc 15998 ∷ []

-- a small triangle where coordinates are highest
unfoldable pub high : List ℤ
high = pos 16000 ∷ pos 16000 ∷ pos 15999 ∷ pos 16000 ∷ pos 16000 ∷ pos 15999 ∷ []

-- S with edges of 3
unfoldable pub S3 : List ℤ
S3 = pos 0 ∷ pos 0 ∷ pos 3 ∷ pos 0 ∷ pos 3 ∷ pos 3 ∷ pos 0 ∷ pos 3 ∷ []

-- T with legs of 3
unfoldable pub T3 : List ℤ
T3 = pos 0 ∷ pos 0 ∷ pos 3 ∷ pos 0 ∷ pos 0 ∷ pos 3 ∷ []

-- a triangle above its edge 0: (0,0) (4,0) (2,4)
unfoldable pub upward : List ℤ
upward = pos 0 ∷ pos 0 ∷ pos 4 ∷ pos 0 ∷ pos 2 ∷ pos 4 ∷ []

-- a triangle below that edge: (0,0) (2,-3) (4,0)
unfoldable pub downward : List ℤ
downward = pos 0 ∷ pos 0 ∷ pos 2 ∷ negsuc 2 ∷ pos 4 ∷ pos 0 ∷ []

-- a square about (0,0)
unfoldable pub square : List ℤ
square = pos 1 ∷ negsuc 0 ∷ pos 1 ∷ pos 1 ∷ negsuc 0 ∷ pos 1 ∷ negsuc 0 ∷ negsuc 0 ∷ []

-- that square, walked clockwise
unfoldable pub square_back : List ℤ
square_back = pos 1 ∷ negsuc 0 ∷ negsuc 0 ∷ negsuc 0 ∷ negsuc 0 ∷ pos 1 ∷ pos 1 ∷ pos 1 ∷ []

-- that square, moved by (10,0)
unfoldable pub square_moved : List ℤ
square_moved = pos 11 ∷ negsuc 0 ∷ pos 11 ∷ pos 1 ∷ pos 9 ∷ pos 1 ∷ pos 9 ∷ negsuc 0 ∷ []

-- a triangle with a greatest gap that is equal, as a value, to that of `tall`
unfoldable pub flat : List ℤ
flat = pos 0 ∷ pos 0 ∷ pos 6 ∷ pos 3 ∷ pos 0 ∷ pos 3 ∷ []

-- the other triangle of that pair
unfoldable pub tall : List ℤ
tall = pos 6 ∷ pos 0 ∷ pos 3 ∷ pos 6 ∷ pos 3 ∷ pos 0 ∷ []

-- a quadrilateral with two corners whose gaps to T are equal as values: (4,0) (4,4) (0,4) (-2,-2)
unfoldable pub kite : List ℤ
kite = pos 4 ∷ pos 0 ∷ pos 4 ∷ pos 4 ∷ pos 0 ∷ pos 4 ∷ negsuc 1 ∷ negsuc 1 ∷ []

-- its corners in the opposite order
unfoldable pub kite_back : List ℤ
kite_back = negsuc 1 ∷ negsuc 1 ∷ pos 0 ∷ pos 4 ∷ pos 4 ∷ pos 4 ∷ pos 4 ∷ pos 0 ∷ []

-- a triangle with a corner whose nearest point in `wide` is a neighbour of the support corner
unfoldable pub thin : List ℤ
thin = pos 2 ∷ pos 0 ∷ pos 1 ∷ pos 0 ∷ negsuc 1 ∷ negsuc 0 ∷ []

-- the other triangle of that pair
unfoldable pub wide : List ℤ
wide = pos 0 ∷ pos 0 ∷ negsuc 1 ∷ pos 2 ∷ negsuc 1 ∷ negsuc 0 ∷ []

-- a triangle in S, to which the gaps of S are 0, 144/17, 4 and 16/5
unfoldable pub needle : List ℤ
needle = pos 0 ∷ pos 0 ∷ pos 1 ∷ pos 0 ∷ pos 2 ∷ pos 4 ∷ []

-- a triangle with a long edge 0
unfoldable pub long : List ℤ
long = pos 0 ∷ pos 0 ∷ pos 32 ∷ pos 1 ∷ pos 0 ∷ pos 10 ∷ []

-- the same with one corner more, whose gap to that edge is 1/1025
unfoldable pub long_bent : List ℤ
long_bent = pos 0 ∷ pos 0 ∷ pos 1 ∷ pos 0 ∷ pos 32 ∷ pos 1 ∷ pos 0 ∷ pos 10 ∷ []

-- a triangle with a shorter edge 0
unfoldable pub short : List ℤ
short = pos 0 ∷ pos 0 ∷ pos 31 ∷ pos 1 ∷ pos 0 ∷ pos 10 ∷ []

-- the same with one corner more, whose gap to that edge is 1/962
unfoldable pub short_bent : List ℤ
short_bent = pos 0 ∷ pos 0 ∷ pos 1 ∷ pos 0 ∷ pos 31 ∷ pos 1 ∷ pos 0 ∷ pos 10 ∷ []

-- edge i of A in the angular order
abbrev a : ℕ → PairEdge
a i = record { side = A; number = i }

-- edge i of B in the angular order
abbrev b : ℕ → PairEdge
b i = record { side = B; number = i }

-- a corner of a side with its feature, its gap and the nearest point, both over the same lower number
abbrev corner : Side → ℕ → Feature → ℕ → ℤ → ℤ → ℕ → CornerGap
corner s i f upper x y lower = record {
  side = s;
  corner = i;
  feature = f;
  gap = record { upper = upper; lower = lower };
  point = record { x = x; y = y; lower = lower };
}

-- corner 0 of a side, within
abbrev zeroth : Side → ℤ → ℤ → CornerGap
zeroth s x y = corner s 0 Feature.Within 0 x y 1

-- corner 2 of S, which is side s, against T
abbrev from_s : Side → CornerGap
from_s s = corner s 2 (Feature.Edge 1) 256 (pos 64) (pos 64) 32

-- corner 0 of S against S moved by (10,0)
abbrev moved_a0 : CornerGap
moved_a0 = corner A 0 (Feature.Corner 0) 100 (pos 10) (pos 0) 1

-- corner 0 of the moved one against S
abbrev moved_b0 : CornerGap
moved_b0 = corner B 0 (Feature.Corner 1) 36 (pos 4) (pos 0) 1

-- corner 1 of the moved one against S
abbrev moved_b1 : CornerGap
moved_b1 = corner B 1 (Feature.Corner 1) 100 (pos 4) (pos 0) 1

-- corner 0 of each of the two triangles that are farthest apart
abbrev far : Side → ℤ → CornerGap
far s x = corner s 0 (Feature.Edge 1) 4095872001 x x 2

-- corner 2 of S3, which is side s, against T3
abbrev from_s3 : Side → CornerGap
from_s3 s = corner s 2 (Feature.Edge 1) 81 (pos 27) (pos 27) 18

-- corner 2 of `upward` against `downward`
abbrev upward_a2 : CornerGap
upward_a2 = corner A 2 (Feature.Edge 2) 256 (pos 32) (pos 0) 16

-- corner 2 of `square` against the moved one
abbrev square_a2 : CornerGap
square_a2 = corner A 2 (Feature.Corner 2) 100 (pos 9) (pos 1) 1

-- corner 3 of it
abbrev square_a3 : CornerGap
square_a3 = corner A 3 (Feature.Corner 3) 100 (pos 9) (negsuc 0) 1

-- corner 1 of `square_back`, which is corner 3 of `square`
abbrev square_back_a1 : CornerGap
square_back_a1 = corner A 1 (Feature.Corner 3) 100 (pos 9) (negsuc 0) 1

-- corner 0 of the moved one against `square`
abbrev square_b0 : CornerGap
square_b0 = corner B 0 (Feature.Corner 0) 100 (pos 1) (negsuc 0) 1

-- corner 1 of `kite` against T
abbrev kite_a1 : CornerGap
kite_a1 = corner A 1 (Feature.Edge 1) 256 (pos 64) (pos 64) 32

-- corner 0 of `kite_back`, which is corner 3 of `kite`
abbrev kite_back_a0 : CornerGap
kite_back_a0 = corner A 0 (Feature.Corner 0) 8 (pos 0) (pos 0) 1

-- corner 1 of `downward` against T walked clockwise: its last edge
abbrev downward_a1 : CornerGap
downward_a1 = corner A 1 (Feature.Edge 2) 144 (pos 32) (pos 0) 16

-- corner 1 of that against `downward`
abbrev clockwise_b1 : CornerGap
clockwise_b1 = corner B 1 (Feature.Corner 0) 16 (pos 0) (pos 0) 1

-- corner 0 of `flat` against `tall`
abbrev flat_a0 : CornerGap
flat_a0 = corner A 0 (Feature.Corner 2) 9 (pos 3) (pos 0) 1

-- corner 1 of `tall` against `flat`
abbrev tall_b1 : CornerGap
tall_b1 = corner B 1 (Feature.Edge 1) 324 (pos 108) (pos 108) 36

-- corner 0 of `thin` against `wide`
abbrev thin_a0 : CornerGap
thin_a0 = corner A 0 (Feature.Corner 0) 4 (pos 0) (pos 0) 1

-- corner 1 of `wide` against `thin`
abbrev wide_b1 : CornerGap
wide_b1 = corner B 1 (Feature.Edge 1) 81 (negsuc 10) (negsuc 6) 10

-- a spent report: the steps made, the support corners of A and B, the worst so far, and that of A and of B
abbrev spent : ℕ → ℕ → ℕ → Option CornerGap → Option CornerGap → Option CornerGap → Result Report Refusal
spent steps i j worst of_a of_b = Ok (Report.Spent (record {
  steps = steps;
  support = record { a = i; b = j };
  worst = worst;
  sides = record { a = of_a; b = of_b };
}))

-- a done report: the steps made, the answer and its clearance, and the answers of A and B
abbrev done : ℕ → CornerGap → ℕ → CornerGap → CornerGap → Result Report Refusal
done steps answer clearance of_a of_b = Ok (Report.Done (record {
  steps = steps;
  answer = answer;
  clearance = clearance;
  sides = record { a = of_a; b = of_b };
}))

-- the examples
abbrev pub cases : List Case
cases =
    reads_strictly S (Ok (held (corners S)))
    ∷ reads_strictly T (Ok (held (corners T)))
    ∷ reads_strictly star (Err (not_left None 0 3))
    ∷ reads_strictly straight (Err (not_left None 0 2))
    ∷ reads_strictly clockwise (Err (not_left None 0 2))
    ∷ reads_strictly twice (Err (not_left None 0 3))
    ∷ reads S (read_as S Counterclockwise)
    ∷ reads clockwise (read_as T Clockwise)
    ∷ reads square_back (read_as square Clockwise)
    -- neither orientation: the place is that of the strict reading
    ∷ reads star (Err (not_left None 0 3))
    ∷ reads straight (Err (not_left None 0 2))
    ∷ reads straight_back (Err (not_left None 0 2))
    ∷ removes S 1 six (Ok tt) halved
    ∷ removes T 0 four (Err too_few) four
    ∷ removes T 1 four (Err too_few) four
    ∷ removes T 2 four (Err too_few) four
    -- the list is read strictly
    ∷ removes clockwise 0 four (Err (not_left None 0 2)) four
    ∷ inserts halved 1 (point (pos 4) (pos 0)) eight (Ok tt) S
    ∷ inserts T 2 (point (pos 4) (pos 4)) eight (Ok tt) S
    -- before the first corner, and after the last
    ∷ inserts T 0 (point (negsuc 0) (pos 2)) eight (Ok tt) (negsuc 0 ∷ pos 2 ∷ T)
    ∷ inserts T 3 (point (negsuc 0) (pos 2)) eight (Ok tt) (T ++ (negsuc 0 ∷ pos 2 ∷ []))
    -- a place past the count; a point out of range; a list to write that is too short for a result that would get 6
    ∷ inserts T 4 (point (pos 16001) (pos 0)) six (Err (refusal_with NoSuchCorner Nowhere)) six
    ∷ inserts T 3 (point (pos 16001) (pos 0)) six (Err point_out) six
    ∷ inserts T 1 (point (pos 1) (pos 1)) six (Err (refusal_with WrongLength Nowhere)) six
    -- the point equal to the corner after it, and to the last one; 6 would apply to both too
    ∷ inserts T 1 (point (pos 4) (pos 0)) eight (Err (refusal_with Repeated (At 1))) eight
    ∷ inserts T 0 (point (pos 0) (pos 4)) eight (Err (refusal_with Repeated (At 3))) eight
    -- the point on an edge, and in the piece
    ∷ inserts T 1 (point (pos 2) (pos 0)) eight (Err (not_left None 0 2)) eight
    ∷ inserts T 3 (point (pos 1) (pos 1)) eight (Err (not_left None 2 0)) eight
    -- the outline comes first, and is read strictly
    ∷ inserts star 9 (point (pos 16001) (pos 0)) six (Err (not_left None 0 3)) six
    ∷ inserts clockwise 1 (point (negsuc 0) (pos 2)) eight (Err (not_left None 0 2)) eight
    -- a convex hull, of the points in two orders
    ∷ hulls cloud (sevens 14) (sevens 7) (Ok 4) (zeros_after S 6)
    (pos 2 ∷ pos 0 ∷ negsuc 1 ∷ pos 1 ∷ pos 3 ∷ negsuc 0 ∷ negsuc 1 ∷ [])
    ∷ hulls cloud_back (sevens 14) (sevens 7) (Ok 4) (zeros_after S 6)
    (negsuc 1 ∷ pos 2 ∷ pos 3 ∷ pos 1 ∷ negsuc 1 ∷ pos 0 ∷ negsuc 0 ∷ [])
    -- of S and of T walked clockwise, and of outlines that reading refuses
    ∷ hulls S (sevens 8) (sevens 4) (Ok 4) S (pos 0 ∷ pos 1 ∷ pos 2 ∷ pos 3 ∷ [])
    ∷ hulls clockwise (sevens 6) (sevens 3) (Ok 3) T (pos 0 ∷ pos 2 ∷ pos 1 ∷ [])
    ∷ hulls straight (sevens 8) (sevens 4) (Ok 3) (zeros_after straight_hull 2)
    (pos 0 ∷ negsuc 1 ∷ pos 1 ∷ pos 2 ∷ [])
    ∷ hulls star (sevens 10) (sevens 5) (Ok 5) star_hull (pos 3 ∷ pos 0 ∷ pos 2 ∷ pos 4 ∷ pos 1 ∷ [])
    ∷ hulls twice (sevens 12) (sevens 6) (Ok 3) (zeros_after T 6)
    (pos 0 ∷ pos 1 ∷ pos 2 ∷ negsuc 0 ∷ negsuc 0 ∷ negsuc 0 ∷ [])
    -- points in one line, one point, no points
    ∷ hulls in_line (sevens 6) (sevens 3) (Err (refusal_with TooFew Nowhere)) (sevens 6) (sevens 3)
    ∷ hulls (pos 3 ∷ pos 3 ∷ []) (sevens 2) (sevens 1) (Err (refusal_with TooFew Nowhere)) (sevens 2) (sevens 1)
    ∷ hulls [] [] [] (Err (refusal_with TooFew Nowhere)) [] []
    -- a list of another length comes before that, for the corners and for the marks; a point out of range before both, and
    -- an odd length first
    ∷ hulls [] (sevens 1) [] (Err (refusal_with WrongLength Nowhere)) (sevens 1) []
    ∷ hulls in_line (sevens 6) (sevens 4) (Err (refusal_with WrongLength Nowhere)) (sevens 6) (sevens 4)
    ∷ hulls (pos 0 ∷ pos 0 ∷ pos 1 ∷ pos 16001 ∷ []) [] [] (Err (refusal_with OutOfRange (At 1))) [] []
    ∷ hulls (pos 16001 ∷ []) [] [] (Err (refusal_with OddLength Nowhere)) [] []
    ∷ nears (point (pos 6) (pos 6)) wedge (Ok edge_one)
    ∷ nears (point (pos 12) (pos 9)) wedge (Ok (corner_one 90))
    -- the foot on edge 0 is its end; on the border; at a corner
    ∷ nears (point (pos 9) (negsuc 4)) wedge (Ok (corner_one 25))
    ∷ nears (point (pos 6) (pos 1)) wedge (Ok (within (pos 6) (pos 1)))
    ∷ nears (point (pos 9) (pos 0)) wedge (Ok (within (pos 9) (pos 0)))
    ∷ nears (point (pos 0) (negsuc 16000)) wedge (Err point_out)
    ∷ nears (point (pos 0) (negsuc 16000)) straight (Err (not_left None 0 2))
    ∷ nears (point (pos 0) (negsuc 16000)) clockwise (Err point_out)
    -- the legs of T are the edges 0 and 2; clockwise the edges 2, its last, and 0. Its corner 1 is corner 2
    ∷ nears (point (pos 2) (negsuc 2)) T (Ok (on_leg 0 (pos 32) (pos 0)))
    ∷ nears (point (pos 2) (negsuc 2)) clockwise (Ok (on_leg 2 (pos 32) (pos 0)))
    ∷ nears (point (negsuc 2) (pos 2)) clockwise (Ok (on_leg 0 (pos 0) (pos 32)))
    ∷ nears (point (pos 5) (negsuc 0)) T (Ok (at_end 1))
    ∷ nears (point (pos 5) (negsuc 0)) clockwise (Ok (at_end 2))
    ∷ nears (point (pos 1) (pos 1)) clockwise (Ok (within (pos 1) (pos 1)))
    ∷ searches (point (pos 6) (pos 6)) wedge edge_one
    ∷ searches (point (pos 12) (pos 9)) wedge (corner_one 90)
    ∷ searches (point (pos 6) (pos 1)) wedge (within (pos 6) (pos 1))
    ∷ searches (point (pos 2) (negsuc 2)) clockwise (on_leg 2 (pos 32) (pos 0))
    ∷ orders S T (a 0 ∷ b 0 ∷ a 1 ∷ b 1 ∷ a 2 ∷ a 3 ∷ b 2 ∷ [])
    ∷ orders S clockwise (a 0 ∷ b 0 ∷ a 1 ∷ b 1 ∷ a 2 ∷ a 3 ∷ b 2 ∷ [])
    ∷ compares S T 512 (done 7 (from_s A) 3 (from_s A) (zeroth B (pos 0) (pos 0)))
    -- no side shows a corner; then A alone; then B alone, with the outlines exchanged; then both
    ∷ compares S T 0 (spent 0 0 0 None None None)
    ∷ compares S T 3 (spent 3 2 1 None None None)
    ∷ compares S T 4 (spent 4 2 2 (Some (from_s A)) (Some (from_s A)) None)
    ∷ compares S T 6 (spent 6 0 2 (Some (from_s A)) (Some (from_s A)) None)
    ∷ compares T S 4 (spent 4 2 2 (Some (from_s B)) None (Some (from_s B)))
    ∷ compares T S 7 (done 7 (from_s B) 3 (zeroth A (pos 0) (pos 0)) (from_s B))
    -- T walked clockwise, both ways round: support corners have their numbers as given
    ∷ compares S clockwise 3 (spent 3 2 2 None None None)
    ∷ compares S clockwise 4 (spent 4 2 1 (Some (from_s A)) (Some (from_s A)) None)
    ∷ compares S clockwise 512 (done 7 (from_s A) 3 (from_s A) (zeroth B (pos 0) (pos 0)))
    ∷ compares clockwise S 4 (spent 4 1 2 (Some (from_s B)) None (Some (from_s B)))
    ∷ compares clockwise S 7 (done 7 (from_s B) 3 (zeroth A (pos 0) (pos 0)) (from_s B))
    ∷ compares downward clockwise 2 (spent 2 2 2 (Some downward_a1) (Some downward_a1) None)
    ∷ compares downward clockwise 6 (done 6 clockwise_b1 4 downward_a1 clockwise_b1)
    ∷ compares S moved 1 (spent 1 1 0 (Some moved_a0) (Some moved_a0) (Some moved_b0))
    -- of equal gaps of A and B, A's
    ∷ compares S moved 3 (spent 3 2 1 (Some moved_a0) (Some moved_a0) (Some moved_b1))
    ∷ compares S moved 8 (done 8 moved_a0 10 moved_a0 moved_b1)
    ∷ compares S S 8 (done 8 (zeroth A (pos 0) (pos 0)) 0 (zeroth A (pos 0) (pos 0)) (zeroth B (pos 0) (pos 0)))
    ∷ compares S turned 8 (done 8 (zeroth A (pos 0) (pos 0)) 0 (zeroth A (pos 0) (pos 0)) (zeroth B (pos 4) (pos 4)))
    ∷ compares turned S 8 (done 8 (zeroth A (pos 4) (pos 4)) 0 (zeroth A (pos 4) (pos 4)) (zeroth B (pos 0) (pos 0)))
    ∷ compares low high 6 (done 6 (far A (pos 31999)) 45255 (far A (pos 31999)) (far B (negsuc 31998)))
    -- 81/18 is above the square of 2, its whole part is not; 256/16 is the square of 4
    ∷ compares S3 T3 7 (done 7 (from_s3 A) 3 (from_s3 A) (zeroth B (pos 0) (pos 0)))
    ∷ compares upward downward 6 (done 6 upward_a2 4 upward_a2 (corner B 1 (Feature.Edge 0) 144 (pos 32) (pos 0) 16))
    -- of equal gaps of a side corner 2 takes the place of corner 3, which was found before
    ∷ compares square square_moved 5 (spent 5 2 1 (Some square_a3) (Some square_a3) (Some square_b0))
    ∷ compares square square_moved 6 (spent 6 2 2 (Some square_a2) (Some square_a2) (Some square_b0))
    -- clockwise that corner has the number 1 and is found before corner 2, which does not take its place
    ∷ compares square_back square_moved 5 (spent 5 2 1 (Some square_back_a1) (Some square_back_a1) (Some square_b0))
    ∷ compares square_back square_moved 6 (spent 6 2 2 (Some square_back_a1) (Some square_back_a1) (Some square_b0))
    ∷ compares square_back square_moved 8 (done 8 square_back_a1 10 square_back_a1 square_b0)
    -- a list and its reversal: the same gap as a value, at another corner
    ∷ compares kite T 7 (done 7 kite_a1 3 kite_a1 (zeroth B (pos 0) (pos 0)))
    ∷ compares kite_back T 7 (done 7 kite_back_a0 3 kite_back_a0 (zeroth B (pos 0) (pos 0)))
    -- the nearest point is a neighbour of the support corner
    ∷ compares thin wide 2 (spent 2 0 0 (Some thin_a0) (Some thin_a0) None)
    -- the greater gap is B's
    ∷ compares thin wide 6 (done 6 wide_b1 3 thin_a0 wide_b1)
    -- 9/1 of A and 324/36 of B are equal
    ∷ compares flat tall 6 (done 6 flat_a0 3 flat_a0 tall_b1)
    -- refused: A's list, B's, and both, where A's refusal stands
    ∷ compares star T 0 (Err (not_left (Some A) 0 3))
    ∷ compares S straight_back 0 (Err (not_left (Some B) 0 2))
    ∷ compares straight star 512 (Err (not_left (Some A) 0 2))
    ∷ exhausts S T (from_s A) (zeroth B (pos 0) (pos 0)) (from_s A)
    ∷ exhausts S moved moved_a0 moved_b1 moved_a0
    ∷ exhausts low high (far A (pos 31999)) (far B (negsuc 31998)) (far A (pos 31999))
    ∷ exhausts square square_moved square_a2 square_b0 square_a2
    ∷ exhausts thin wide thin_a0 wide_b1 wide_b1
    ∷ exhausts square_back square_moved square_back_a1 square_b0 square_back_a1
    ∷ exhausts downward clockwise downward_a1 clockwise_b1 clockwise_b1
    ∷ sums S T (Ok 8192)
    ∷ sums T S (Ok 8192)
    ∷ sums S clockwise (Ok 8192)
    ∷ sums S moved (Ok 557056)
    ∷ sums S S (Ok 0)
    ∷ sums low high (Ok 12582256649216)
    -- gaps that are no whole numbers of units; of the second pair the exact sum is 16,046 units and more
    ∷ sums thin wide (Ok 13516)
    ∷ sums S needle (Ok 16045)
    ∷ sums kite T (Ok 16384)
    ∷ sums kite_back T (Ok 16384)
    -- a gap just below one unit, and one just above
    ∷ sums long_bent long (Ok 0)
    ∷ sums short short_bent (Ok 1)
    ∷ sums star T (Err (not_left (Some A) 0 3))
    ∷ sums S straight_back (Err (not_left (Some B) 0 2))
    ∷ sums straight star (Err (not_left (Some A) 0 2))
    -- S and T from a store, both ways round, and S with itself
    ∷ compares_chains store (pos 2) (pos 3) 3 (spent 3 2 1 None None None)
    ∷ compares_chains store (pos 2) (pos 3) 7 (done 7 (from_s A) 3 (from_s A) (zeroth B (pos 0) (pos 0)))
    ∷ compares_chains store (pos 3) (pos 2) 7 (done 7 (from_s B) 3 (zeroth A (pos 0) (pos 0)) (from_s B))
    ∷ compares_chains store (pos 2) (pos 2) 8 (done 8 (zeroth A (pos 0) (pos 0)) 0 (zeroth A (pos 0) (pos 0)) (zeroth B (pos 0) (pos 0)))
    -- a start of zero: no corners
    ∷ compares_chains store (pos 0) (pos 0) 7 (Err (refusal_of A TooFew))
    ∷ compares_chains store (pos 2) (pos 0) 7 (Err (refusal_of B TooFew))
    -- a cycle
    ∷ compares_chains store (pos 7) (pos 3) 7 (Err (refusal_at A ChainTooLong 256))
    ∷ compares_chains store (pos 2) (pos 7) 7 (Err (refusal_at B ChainTooLong 256))
    -- indexes that name no record: after a corner, the record count, a negative one
    ∷ compares_chains store (pos 8) (pos 7) 7 (Err (refusal_at A NoSuchRecord 1))
    ∷ compares_chains store (pos 2) (pos 9) 7 (Err (refusal_at B NoSuchRecord 0))
    ∷ compares_chains store (negsuc 0) (pos 3) 7 (Err (refusal_at A NoSuchRecord 0))
    -- A's chain is too short, and B's has a bad index: A's refusal stands
    ∷ compares_chains store (pos 5) (pos 9) 7 (Err (refusal_of A TooFew))
    -- the length is no multiple of three, whatever else applies
    ∷ compares_chains (pos 0 ∷ store) (pos 2) (pos 3) 7 (Err (refusal_of A PartialRecord))
    ∷ compares_chains (pos 0 ∷ pos 0 ∷ []) (pos 0) (pos 9) 7 (Err (refusal_of A PartialRecord))
    -- an empty store
    ∷ compares_chains [] (pos 0) (pos 1) 7 (Err (refusal_of A TooFew))
    ∷ compares_chains [] (pos 1) (pos 0) 7 (Err (refusal_at A NoSuchRecord 0))
    ∷ []

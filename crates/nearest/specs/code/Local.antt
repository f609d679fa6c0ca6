-- The nearest feature of an outline to a point, found by tests that look at a corner or an edge and the corners
-- next to it alone. `proofs/AnswerLaws.antt` shows that `nearest` is the one answer that rules 3.1 to 3.4
-- (`Answers`) admit.
use Rattle.std.specs.Prelude.{ℕ, ◌<◌, ◌≡◌, Bool, true, false, cond, not, ◌&&◌, List, ℤ, pos, length}
use Rattle.std.specs.Int.Signed.{le_z, lt_z}
use Rattle.lists.specs.Fold.{fold}
use Rattle.plane.specs.declared.Corner.{Corner}
use Rattle.plane.specs.Vector.{◌⇀◌, dot}
use Rattle.plane.specs.code.Tests.{is_right, same}
use Rattle.outline.specs.Corners.{corner, next, previous}
use Rattle.nearest.specs.declared.Feature.{Feature}
use Rattle.nearest.specs.declared.NearestPoint.{NearestPoint}
use Rattle.nearest.specs.Feature.{values}

-- the squared length of the edge from p to q
abbrev pub squared_length : Corner → Corner → ℤ
squared_length p q = dot (p ⇀ q) (p ⇀ q)

-- how far along the edge the foot of v lies: 0 at p, the squared length at q
abbrev pub along : Corner → Corner → Corner → ℤ
along p q v = dot (p ⇀ v) (p ⇀ q)

-- v is not the corner c, and (v - c)·(d - c) is at most 0 for the corners d before and after it
abbrev pub corner_is_nearest : Corner → Corner → Corner → Corner → Bool
corner_is_nearest v before c after =
    not (same c v) && le_z (dot (c ⇀ v) (c ⇀ before)) (pos 0) && le_z (dot (c ⇀ v) (c ⇀ after)) (pos 0)

-- the foot of v lies strictly between p and q
abbrev pub foot_is_between : Corner → Corner → Corner → Bool
foot_is_between v p q = lt_z (pos 0) (along p q v) && lt_z (along p q v) (squared_length p q)

-- v is strictly right of the edge from p to q, and its foot lies strictly between them
abbrev pub edge_is_nearest : Corner → Corner → Corner → Bool
edge_is_nearest v p q = is_right p (p ⇀ q) v && foot_is_between v p q

-- the test at corner i of an outline
abbrev pub is_corner : List Corner → Corner → ℕ → Bool
is_corner cs v i = corner_is_nearest v (corner cs (previous (length cs) i)) (corner cs i) (corner cs (next (length cs) i))

-- the test at edge i
abbrev pub is_edge : List Corner → Corner → ℕ → Bool
is_edge cs v i = edge_is_nearest v (corner cs i) (corner cs (next (length cs) i))

-- the test of a feature holds; of Within: no test holds
abbrev pub Tested : List Corner → Corner → Feature → Type 0
Tested cs v Feature.Within = (i : ℕ) → i < length cs → (is_corner cs v i ≡ false) × (is_edge cs v i ≡ false)
Tested cs v (Feature.Corner i) = (i < length cs) × (is_corner cs v i ≡ true)
Tested cs v (Feature.Edge i) = (i < length cs) × (is_edge cs v i ≡ true)

-- corner i or edge i, or Within where neither is nearest
abbrev pub feature_at : List Corner → Corner → ℕ → Feature
feature_at cs v i = cond (is_corner cs v i) (Feature.Corner i) (cond (is_edge cs v i) (Feature.Edge i) Feature.Within)

infixl 30 ◌or_next◌
-- the first of two that is not Within
abbrev pub ◌or_next◌ : Feature → Feature → Feature
Feature.Within or_next g = g
Feature.Corner i or_next g = Feature.Corner i
Feature.Edge i or_next g = Feature.Edge i

-- the feature that is found first at 0, 1, ..; Within where none is
unfoldable pub feature : List Corner → Corner → Feature
feature cs v = fold ◌or_next◌ Feature.Within (feature_at cs v) (length cs)

-- that feature with its gap and its point
abbrev pub nearest : List Corner → Corner → NearestPoint
nearest cs v = values cs v (feature cs v)

-- Rule 4.7: what the exhaustive search does for one corner v. It is fed v and the corners of the other piece, `cs`,
-- and nothing else. `proofs/SearchLaws.antt` shows that it finds the nearest point, in whatever order the
-- candidates are tried.
use Rattle.std.specs.Prelude.{ℕ, Bool, cond, ◌&&◌, List, [], ◌∷◌, ◌++◌, pos, length}
use Rattle.std.specs.Int.Signed.{lt_z}
use Rattle.integers.specs.Fraction.{is_less}
use Rattle.lists.specs.Fold.{joined}
use Rattle.plane.specs.declared.Corner.{Corner}
use Rattle.plane.specs.Vector.{◌⇀◌, dot, side}
use Rattle.outline.specs.Corners.{corner, next}
use Rattle.nearest.specs.declared.Feature.TheVariants as Feature
use Rattle.nearest.specs.declared.NearestPoint.{NearestPoint}
use Rattle.nearest.specs.Feature.{values, within_values}
use Rattle.nearest.specs.Piece.{is_outside}

-- each corner of the other piece, at its squared distance over 1
abbrev pub tried_corners : List Corner → Corner → List NearestPoint
tried_corners cs v = joined (λ i. values cs v (Feature.Corner i) ∷ []) (length cs)

-- an edge from p to q is tried if v is strictly right of it and its foot lies strictly between the ends: with L its
-- squared length and t the dot of v - p and q - p, that is when t is above 0 and below L
abbrev pub is_tried : List Corner → Corner → ℕ → Bool
is_tried cs v i =
    let p = corner cs i in let q = corner cs (next (length cs) i) in
    lt_z (side p q v) (pos 0) && (lt_z (pos 0) (dot (p ⇀ v) (p ⇀ q)) && lt_z (dot (p ⇀ v) (p ⇀ q)) (dot (p ⇀ q) (p ⇀ q)))

-- the edges that are tried, each at its foot
abbrev pub tried_edges : List Corner → Corner → List NearestPoint
tried_edges cs v = joined (λ i. cond (is_tried cs v i) (values cs v (Feature.Edge i) ∷ []) []) (length cs)

-- all that is tried for a v that is not in the piece
unfoldable pub tried : List Corner → Corner → List NearestPoint
tried cs v = tried_corners cs v ++ tried_edges cs v

-- of a and some more the one with the least gap, as a value; the first of equals
unfoldable pub least : NearestPoint → List NearestPoint → NearestPoint
least a [] = a
least a (b ∷ bs) = least (cond (is_less b.gap a.gap) b a) bs

-- v's feature, gap and point: within, 0/1, at v, where v is in the piece, and otherwise the least that is tried,
-- from corner 0 on
abbrev pub search : List Corner → Corner → NearestPoint
search cs v = cond (is_outside cs v) (least (values cs v (Feature.Corner 0)) (tried cs v)) (within_values v)

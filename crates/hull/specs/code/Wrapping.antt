-- The convex hull, computed by wrapping: from each corner on to the next, until none is left. `proofs/HullLaws.antt` shows
-- that this is what `IsHull` says, and `proofs/Unique.antt` that nothing else is.
use Rattle.std.specs.Prelude.{ℕ, zero, suc, Bool, not, cond, ◌&&◌, ◌||◌, List, [], ◌∷◌, pos, length}
use Rattle.std.specs.Int.Signed.{lt_z}
use Rattle.integers.specs.Equal.{eq_z}
use Rattle.lists.specs.code.Lists.{first_by}
use Rattle.plane.specs.declared.Corner.{Corner}
use Rattle.plane.specs.Vector.{◌⇀◌, cross, dot}
use Rattle.plane.specs.code.Tests.{is_left, is_right, same, is_lower}

-- of p and some more points the lowest, of several the leftmost
abbrev pub lowest : Corner → List Corner → Corner
lowest p ps = first_by is_lower p ps

-- the points that can come after the corner p of a hull that starts at s: from s all other points, from a later corner
-- those strictly left of the line from s to it
unfoldable pub is_candidate : Corner → Corner → Corner → Bool
is_candidate s p z = cond (same s p) (not (same s z)) (is_left s (s ⇀ p) z)

-- the points that pass a test
unfoldable pub kept : (Corner → Bool) → List Corner → List Corner
kept test [] = []
kept test (z ∷ zs) = cond (test z) (z ∷ kept test zs) (kept test zs)

-- seen from p, z comes before q: it is strictly right of the line to q, or on that line and farther away
unfoldable pub is_ahead : Corner → Corner → Corner → Bool
is_ahead p z q =
    is_right p (p ⇀ q) z
    || (eq_z (cross (p ⇀ q) (p ⇀ z)) (pos 0) && lt_z (dot (p ⇀ q) (p ⇀ q)) (dot (p ⇀ z) (p ⇀ z)))

-- of q and some more points the first, seen from p
abbrev pub foremost : Corner → Corner → List Corner → Corner
foremost p q zs = first_by (is_ahead p) q zs

-- the corners after p of a hull that starts at s, where zs are the candidates from p: the first of them, and those after
-- it. `left` is at least how many candidates there are
unfoldable pub wrap : ℕ → Corner → Corner → List Corner → List Corner
wrap zero s p zs = []
wrap (suc left) s p [] = []
wrap (suc left) s p (z ∷ zs) =
    foremost p z zs ∷ wrap left s (foremost p z zs) (kept (is_candidate s (foremost p z zs)) (z ∷ zs))

-- s and the corners after it, where zs are the other points
abbrev pub hull_from : Corner → List Corner → List Corner
hull_from s zs = s ∷ wrap (length zs) s s zs

-- the hull starts at the lowest point
unfoldable pub convex_hull : List Corner → List Corner
convex_hull [] = []
convex_hull (p ∷ ps) = hull_from (lowest p ps) (kept (is_candidate (lowest p ps) (lowest p ps)) (p ∷ ps))

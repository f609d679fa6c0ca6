-- What the calls for the benchmarks answer.
use Rattle.std.specs.Prelude.{ℕ, Bool, cond, List, ℤ, pos, length, max, None, Result, Ok, Err}
use Rattle.std.specs.Int.Signed.{lt_z}
use Rattle.lists.specs.Fold.{fold}
use Rattle.plane.specs.declared.Corner.{Corner}
use Rattle.plane.specs.declared.Point.{Point}
use Rattle.plane.specs.code.Range.{in_range}
use Rattle.outline.specs.declared.Outline.{Outline}
use Rattle.outline.specs.declared.Refusal.{Refusal}
use Rattle.outline.specs.code.Checks.{if_taken}
use Rattle.outline.specs.Corners.{corners, corner}
use Rattle.outline.specs.code.Either.{held_corners, check_either}
use Rattle.outline.specs.code.Reading.{reading}
use Rattle.nearest.specs.declared.NearestPoint.{NearestPoint}
use Rattle.nearest.specs.code.Local.{nearest}

-- x is below y
abbrev pub is_above_diagonal : Point → Bool
is_above_diagonal p = lt_z p.x p.y

-- a number that the gap and the nearest point bear on, so that the work for neither can be left out
abbrev pub digest : NearestPoint → ℕ
digest a = cond (is_above_diagonal a.point) a.gap.upper a.gap.lower

-- that of the nearest point to v; 0 where v is out of range
unfoldable pub digest_at : List Corner → Corner → ℕ
digest_at cs v = cond (in_range v) (digest (nearest cs v)) 0

-- the greatest of these over some points; 0 if there is none
abbrev pub greatest_digest : List Corner → List Corner → ℕ
greatest_digest cs points = fold max 0 (λ i. digest_at cs (corner points i)) (length points)

-- that of the outline and the points that two lists give; 0 where the outline is refused
unfoldable pub timing_core : List ℤ → List ℤ → ℕ
timing_core s points = if_taken (check_either None s) (greatest_digest (held_corners s) (corners points)) 0

-- the lesser of x and y
abbrev pub lesser_coordinate : Corner → ℤ
lesser_coordinate v = cond (lt_z v.x v.y) v.x v.y

-- that of what is in place k of an outline; 0 where there is none or no place k
abbrev pub lesser_at : Result Outline Refusal → ℕ → ℤ
lesser_at (Ok o) k = lesser_coordinate (corner o.corners k)
lesser_at (Err r) k = pos 0

-- that of what is in place k of the outline read from a list; 0 where the list is refused or there is no place k
abbrev pub timing_read : List ℤ → ℕ → ℤ
timing_read s k = lesser_at (reading None s) k

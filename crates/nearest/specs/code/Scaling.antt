-- Points at V/D: times D, the outline is a larger one and V a point with whole coordinates.
use Rattle.std.specs.Prelude.{ℕ, ◌*◌, List, map, pos, ◌*ℤ◌}
use Rattle.plane.specs.declared.Corner.{Corner}
use Rattle.plane.specs.declared.Point.{Point}
use Rattle.nearest.specs.declared.NearestPoint.{NearestPoint}
use Rattle.nearest.specs.code.Local.{nearest}

-- a corner, times k
abbrev pub scaled : ℕ → Corner → Corner
scaled k c = record { x = pos k *ℤ c.x; y = pos k *ℤ c.y }

-- a corner over k
abbrev pub over : ℕ → Corner → Point
over k v = record { x = v.x; y = v.y; lower = k }

-- corners, times k
abbrev pub enlarged : ℕ → List Corner → List Corner
enlarged k cs = map (scaled k) cs

-- a point over k
abbrev pub shrunk : ℕ → Point → Point
shrunk k z = record { x = z.x; y = z.y; lower = z.lower * k }

-- V, of a point V/D
abbrev pub numerator : Point → Corner
numerator v = record { x = v.x; y = v.y }

-- the nearest feature, gap and point for V/D: those for V in the larger list, over D
abbrev pub nearest_at : List Corner → Point → NearestPoint
nearest_at cs v = let a = nearest (enlarged v.lower cs) (numerator v) in record {
  feature = a.feature;
  gap = record { upper = a.gap.upper; lower = a.gap.lower * (v.lower * v.lower) };
  point = shrunk v.lower a.point;
}

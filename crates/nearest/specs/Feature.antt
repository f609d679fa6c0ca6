-- Rule 3.4: the gap and the nearest point for each kind of feature, from a point v with whole coordinates. Nothing
-- is reduced. The size of a number (`nat_abs`) is taken only where it is not below 0.
use Rattle.std.specs.Prelude.{ℕ, List, nat_abs, ◌+ℤ◌, ◌*ℤ◌, length}
use Rattle.integers.specs.declared.fraction.Fraction.{Fraction}
use Rattle.plane.specs.declared.Corner.{Corner}
use Rattle.plane.specs.declared.Point.{Point}
use Rattle.plane.specs.declared.Vector.{Vector}
use Rattle.plane.specs.Point.{whole}
use Rattle.plane.specs.Vector.{◌⇀◌, cross, dot}
use Rattle.outline.specs.Corners.{corner, next}
use Rattle.nearest.specs.declared.Feature.{Feature}
use Rattle.nearest.specs.declared.NearestPoint.{NearestPoint}

-- within: 0/1, at v
abbrev pub within_values : Corner → NearestPoint
within_values v = record { feature = Feature.Within; gap = record { upper = 0; lower = 1 }; point = whole v }

-- corner i, at c: a whole number over 1
abbrev pub corner_values : Corner → ℕ → Corner → NearestPoint
corner_values v i c = record {
  feature = Feature.Corner i;
  gap = record { upper = nat_abs (dot (c ⇀ v) (c ⇀ v)); lower = 1 };
  point = whole c;
}

-- the gap to an edge: the square of the side number over the edge's squared length. The edge has the differences
-- `run`; `to` are those from its start to v, so that the side number is cross run to
abbrev pub edge_gap : Vector → Vector → Fraction
edge_gap run to = record { upper = nat_abs (cross run to *ℤ cross run to); lower = nat_abs (dot run run) }

-- the foot of v on an edge that starts at p = `start`, to q: (L × p + t × (q - p)) / L, with L the squared length
-- and t the dot of v - p and q - p
abbrev pub foot_on : Corner → Vector → Vector → Point
foot_on start run to = record {
  x = dot run run *ℤ start.x +ℤ dot to run *ℤ run.x;
  y = dot run run *ℤ start.y +ℤ dot to run *ℤ run.y;
  lower = nat_abs (dot run run);
}

-- edge i, from p to q; the gap and the point have the same lower number
abbrev pub edge_values : Corner → ℕ → Corner → Corner → NearestPoint
edge_values v i p q = record {
  feature = Feature.Edge i;
  gap = edge_gap (p ⇀ q) (p ⇀ v);
  point = foot_on p (p ⇀ q) (p ⇀ v);
}

-- what is answered for a feature of an outline
abbrev pub values : List Corner → Corner → Feature → NearestPoint
values cs v Feature.Within = within_values v
values cs v (Feature.Corner i) = corner_values v i (corner cs i)
values cs v (Feature.Edge i) = edge_values v i (corner cs i) (corner cs (next (length cs) i))

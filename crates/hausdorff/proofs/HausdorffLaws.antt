-- The Hausdorff distance as a value.
--     at-least-most        what a distance reaches is not above what bounds it
--     directed-unique      the directed distance from one piece to another is one value
--     BoundedAndReached    at most g from each to the other, and at least g from one of them
--     hausdorff-iff        that is: the greater of the two distances is g
--     hausdorff-unique     it is one value
--     hausdorff-swap       and the same with the outlines exchanged
--     hausdorff-pieces     and for other lists that give the same pieces
--     directed-pieces      so is the directed one
--     answer-directed      the gap of a side's answer is the directed one from that side's piece to the other
--     answer-hausdorff     and the answer's gap is the Hausdorff distance
use Prim.Native.Nat.{ℕ, ◌<◌}
use mathlib.Core.Path.{◌≡◌, refl, sym, ap}
use mathlib.Core.Logic.{◌↔◌}
use mathlib.Core.List.{List}
use native.Mathlib.Nat.{le_antisymm, le_of_eq}
use lib.Dec.{ltb→lt}
use lib.ListN.{length}
use Rattle.integers.specs.declared.fraction.Fraction.{Fraction}
use Rattle.integers.specs.Fraction.{NotGreater, SameValue}
use Rattle.integers.proofs.FractionOrder.{not_greater-trans}
use Rattle.integers.proofs.Greatest.{Greatest}
use Rattle.plane.specs.declared.Corner.{Corner}
use Rattle.plane.specs.Point.{squared_distance}
use Rattle.outline.specs.declared.Side.{Side}
use Rattle.outline.specs.declared.Side.TheVariants.{A, B}
use Rattle.nearest.proofs.Rotation.{SamePiece}
use Rattle.nearest.proofs.DistanceLaws.{squared_distance-is}
use Rattle.hausdorff.specs.declared.CornerGap.{CornerGap}
use Rattle.hausdorff.specs.Pair.{Pair, both, Orientations, other}
use Rattle.hausdorff.specs.Answer.{IsAnswer, IsSideAnswer}
use Rattle.hausdorff.specs.Hausdorff.{DistanceAtMost, DistanceAtLeast, Directed, Hausdorff}
use Rattle.hausdorff.specs.code.Pair.{Polygons}
use Rattle.hausdorff.specs.code.CornerGap.{corner_gap}
use Rattle.hausdorff.proofs.DistanceLaws.{greatest-directed}
use Rattle.hausdorff.proofs.GapLaws.{gap_is, gap-iff, gap-positive}
use Rattle.hausdorff.proofs.Preference.{farthest}

-- the point that has all others at least g away has one at most h away
pub at-least-most : {cs ds : List Corner} (g h : Fraction)
    → DistanceAtLeast g cs ds → DistanceAtMost h cs ds → NotGreater g h
at-least-most g h (p, inside, least) most =
    let (q, there, near) = most p inside in
    let positive = ltb→lt 0 _ (squared_distance-is p q inside.proper there.proper).lower_positive.lt in
    not_greater-trans g (squared_distance p q) h positive (least q there) near

pub directed-unique : {cs ds : List Corner} {g h : Fraction} → Directed cs ds g → Directed cs ds h → SameValue g h
directed-unique {g = g} {h} one other =
    le_antisymm
    (at-least-most g h one.at_least other.at_most) (at-least-most h g other.at_least one.at_most)

-- at most g from each to the other, and at least g from one of them
pub record BoundedAndReached (pair : Pair) (g : Fraction) : Type 0 where
  pub lower_positive : 0 < g.lower
  pub at_most : (s : Side) → DistanceAtMost g (pair s) (pair (other s))
  pub at_least : (s : Side) × DistanceAtLeast g (pair s) (pair (other s))

module _ {pair : Pair} where
  hausdorff-bounded : {g : Fraction} → Hausdorff pair g → BoundedAndReached pair g
  hausdorff-bounded {g} is = record {
    lower_positive = is.lower_positive;
    at_most = λ s p inside. let (q, there, near) = (is.directed s).at_most p inside in (
      q,
      there,
      not_greater-trans (squared_distance p q) (is.from s) g (is.directed s).lower_positive near (is.not_less s),
    );
    at_least = let (s, same) = is.one_of_both in let (p, inside, least) = (is.directed s).at_least in (
      s,
      (
        p,
        inside,
        λ q there. not_greater-trans g (is.from s) (squared_distance p q) (is.directed s).lower_positive
            (le_of_eq (sym same)) (least q there),
      ),
    );
  }

  pub hausdorff-unique : {g h : Fraction} → Hausdorff pair g → Hausdorff pair h → SameValue g h
  hausdorff-unique one other = le_antisymm (not-greater one other) (not-greater other one)
    where
      not-greater : {g h : Fraction} → Hausdorff pair g → Hausdorff pair h → NotGreater g h
      not-greater {g} {h} one other =
          let (s, least) = (hausdorff-bounded one).at_least in
          at-least-most g h least ((hausdorff-bounded other).at_most s)

pub hausdorff-swap : (ps qs : List Corner) {g : Fraction} → Hausdorff (both ps qs) g → Hausdorff (both qs ps) g
hausdorff-swap ps qs {g} is = record {
  lower_positive = is.lower_positive;
  from = λ s. is.from (other s);
  directed = directed;
  one_of_both = let (s, same) = is.one_of_both in one_of s same;
  not_less = λ s. is.not_less (other s);
}
  where
    directed : (s : Side) → Directed (both qs ps s) (both qs ps (other s)) (is.from (other s))
    directed A = is.directed B
    directed B = is.directed A

    one_of : (s : Side) → SameValue (is.from s) g → (t : Side) × SameValue (is.from (other t)) g
    one_of A same = (B, same)
    one_of B same = (A, same)

pub directed-pieces : {cs ds cs' ds' : List Corner} {g : Fraction} → SamePiece cs cs' → SamePiece ds ds'
    → Directed cs ds g → Directed cs' ds' g
directed-pieces here there is = record {
  lower_positive = is.lower_positive;
  at_most = λ p inside. let (q, far, near) = is.at_most p ((here p).1 inside) in (q, (there q).0 far, near);
  at_least = let (p, inside, least) = is.at_least in (p, (here p).0 inside, λ q far. least q ((there q).1 far));
}

pub hausdorff-pieces : {pair pair' : Pair} {g : Fraction} → ((s : Side) → SamePiece (pair s) (pair' s))
    → Hausdorff pair g → Hausdorff pair' g
hausdorff-pieces same is = record {
  lower_positive = is.lower_positive;
  from = is.from;
  directed = λ s. directed-pieces (same s) (same (other s)) (is.directed s);
  one_of_both = is.one_of_both;
  not_less = is.not_less;
}

module _ (pair : Pair) (polygons : Polygons pair) where
  -- the worst corner of a side reaches its distance
  module _ (s : Side) where
    worst : Greatest (λ i j. NotGreater (corner_gap pair s j).gap (corner_gap pair s i).gap) (length (pair s))
    worst = farthest pair polygons s

    abbrev reached : Fraction
    reached = (corner_gap pair s worst.place).gap

    not_above : (j : ℕ) → j < length (pair s) → NotGreater (corner_gap pair s j).gap reached
    not_above = worst.over

    reaches : Directed (pair s) (pair (other s)) reached
    reaches = greatest-directed pair polygons s worst.place worst.below not_above

  pub hausdorff-iff : (g : Fraction) → Hausdorff pair g ↔ BoundedAndReached pair g
  hausdorff-iff g = (
    hausdorff-bounded,
    λ is. record {
      lower_positive = is.lower_positive;
      from = reached;
      directed = reaches;
      one_of_both = let (s, least) = is.at_least in (
        s,
        le_antisymm
            (at-least-most (reached s) g (reaches s).at_least (is.at_most s))
            (at-least-most g (reached s) least (reaches s).at_most),
      );
      not_less = λ s. at-least-most (reached s) g (reaches s).at_least (is.at_most s);
    },
  )

  -- it is the greatest gap of its side
  pub answer-directed : {os : Orientations} (s : Side) (w : CornerGap) → IsSideAnswer pair os s w
      → Directed (pair s) (pair (other s)) w.gap
  answer-directed s w is =
      let (known, equal) = (gap-iff pair polygons w).0 is.is_gap in
      let same : w.gap ≡ (corner_gap pair s w.corner).gap =
      rw is.among at (ap (λ (z : CornerGap). z.gap) equal) in
      rw same (greatest-directed pair polygons s w.corner (rw is.among at known)
      (λ j below. rw same at (is.greatest (corner_gap pair s j) (gap_is pair polygons s j below) refl)))

  -- it is the greatest gap of both, so of its own side too
  pub answer-hausdorff : {os : Orientations} (w : CornerGap) → IsAnswer pair os w → Hausdorff pair w.gap
  answer-hausdorff w is =
      let s = w.side in
      let (known, equal) = (gap-iff pair polygons w).0 is.is_gap in
      let same : w.gap ≡ (corner_gap pair s w.corner).gap = ap (λ (z : CornerGap). z.gap) equal in
      record {
        lower_positive = rw same (gap-positive pair polygons s w.corner);
        from = reached;
        directed = reaches;
        one_of_both = (s, le_antisymm (not_less s) (rw same (not_above s w.corner known)));
        not_less = not_less;
      }
    where
      not_less : (s : Side) → NotGreater (reached s) w.gap
      not_less s =
          let i = (worst s).place in is.greatest (corner_gap pair s i) (gap_is pair polygons s i (worst s).below) tt

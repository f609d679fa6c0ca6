-- A list of corners that starts at another corner, or has them in the opposite order, is the same outline as held but
-- for where it starts: it gives the same piece and the same nearest points.
--     reverse-rotated, rotated-reversed    all corners in the opposite order, or all but corner 0, which stays first
--     opposite                  the other orientation
--     SameCycle                 two lists that differ only in where they start
--     cycle-piece               they give the same piece
--     held_start, held-reversal    as held, a list and one that starts at another corner are two such lists, and so are
--                               a list and one in the opposite order, which is held with the other orientation
--     accepted-start, accepted-reversal    a list of numbers of even length is accepted where one is that it differs from
--                               only in this: with the same orientation, or with the other one
-- Of two lists of numbers that are accepted, where the corners of the second start at another corner, or are in the
-- opposite order:
--     start-cycle, reversal-cycle    as held they differ only in where they start
--     nearest-start, nearest-reversal    and the call answers the same gap and the same point for both
use Prim.Native.Nat.{ℕ, zero, suc, ◌%◌}
use mathlib.Core.Path.{◌≡◌, refl, sym, ap, ◌∙◌}
use mathlib.Core.Logic.Iff
use mathlib.Core.Logic.{◌↔◌}
use mathlib.Core.List.{List, [], ◌∷◌, reverse, reverse-cons, reverse-append, reverse-reverse}
use native.Mathlib.Omega.{arith}
use lib.IntN.{ℤ}
use lib.ListN.{length}
use Rattle.std.specs.Prelude.{Ok}
use Rattle.integers.specs.declared.fraction.Fraction.{Fraction}
use Rattle.plane.specs.declared.Corner.{Corner}
use Rattle.plane.specs.declared.Point.{Point}
use Rattle.outline.specs.declared.Orientation.{Orientation}
use Rattle.outline.specs.declared.Orientation.TheVariants.{Counterclockwise, Clockwise}
use Rattle.outline.specs.Convex.{Accepted}
use Rattle.outline.specs.Corners.{corners, next, previous}
use Rattle.outline.specs.Orientation.{reversed, as_held, AcceptedAs}
use Rattle.outline.specs.code.Polygon.{Polygon}
use Rattle.outline.proofs.CornersLaws.{next-below, next-previous, previous-below}
use Rattle.outline.proofs.EdgeLaws.{accepted-polygon}
use Rattle.outline.proofs.EitherLaws.{held-accepted, accepted-held}
use Rattle.outline.proofs.OrientationLaws.{one-orientation}
use Rattle.nearest.specs.declared.NearestPoint.{NearestPoint}
use Rattle.nearest.specs.Call.{IsNearestAnswer}
use Rattle.nearest.specs.Piece.{InPiece}
use Rattle.nearest.specs.code.Local.{nearest}
use Rattle.nearest.proofs.AnswerLaws.{answers-iff}
use Rattle.nearest.proofs.CallLaws.{Answered, nearest-answers, nearest_answer-unique}
use Rattle.nearest.proofs.Rotation.{rotated, starting_at, RotationInvariant, invariant-start, SamePiece}
use Rattle.nearest.proofs.Rotation.{rotated-length, rotated-corner, rotated-piece, rotated-convex}
use Rattle.nearest.proofs.RotationNearest.{rotated-polygon, rotated-nearest}

-- ---- lists of corners
-- all corners in the opposite order: those with corner 0 kept first, and then corner 0 put last
pub reverse-rotated : (cs : List Corner) → reverse cs ≡ rotated (reversed cs)
reverse-rotated [] = refl
reverse-rotated (c ∷ cs) = reverse-cons c cs

-- corner 0 put last, and then all in the opposite order: corner 0 is first again
pub rotated-reversed : (cs : List Corner) → reverse (rotated cs) ≡ reversed cs
rotated-reversed [] = refl
rotated-reversed (c ∷ cs) = reverse-append cs (c ∷ [])

-- the other orientation
abbrev pub opposite : Orientation → Orientation
opposite Counterclockwise = Clockwise
opposite Clockwise = Counterclockwise

-- two lists that differ only in where they start: a property that does not depend on it holds of both or of neither
abbrev pub SameCycle : List Corner → List Corner → Type 1
SameCycle cs ds = (Q : List Corner → Type 0) → RotationInvariant Q → Q cs ↔ Q ds

-- a list and the rotated one are two such
cycle-rotated : (cs : List Corner) {ds : List Corner} → rotated cs ≡ ds → SameCycle cs ds
cycle-rotated cs is = λ Q invariant. rw is at (invariant cs)

-- they give the same piece
pub cycle-piece : (cs ds : List Corner) → SameCycle cs ds → SamePiece cs ds
cycle-piece cs ds same z = same (λ es. InPiece es z) (λ es. rotated-piece es z)

-- a list and one that starts at another corner differ, as held, only in where they start: clockwise, the one that
-- starts at the next corner is, as held and rotated, the other as held
pub held_start : (o : Orientation) (k : ℕ) (cs : List Corner) → SameCycle (as_held o cs) (as_held o (starting_at k cs))
held_start Counterclockwise k cs = λ Q invariant. invariant-start invariant k cs
held_start Clockwise zero cs = λ Q invariant. Iff.rfl
held_start Clockwise (suc k) cs = λ Q invariant. Iff.trans
    (Iff.symm (cycle-rotated (reversed (rotated cs)) before Q invariant))
    (held_start Clockwise k (rotated cs) Q invariant)
  where
    before : rotated (reversed (rotated cs)) ≡ reversed cs
    before = sym (reverse-rotated (rotated cs)) ∙ rotated-reversed cs

-- so do a list and one in the opposite order, held with the other orientation: the clockwise one of the two is, as held
-- and rotated, the counterclockwise one
pub held-reversal : (o : Orientation) (cs : List Corner) → SameCycle (as_held o cs) (as_held (opposite o) (reverse cs))
held-reversal Counterclockwise cs = λ Q invariant. Iff.symm (cycle-rotated (reversed (reverse cs)) back Q invariant)
  where
    back : rotated (reversed (reverse cs)) ≡ cs
    back = sym (reverse-rotated (reverse cs)) ∙ reverse-reverse cs
held-reversal Clockwise cs = cycle-rotated (reversed cs) (sym (reverse-rotated cs))

-- to be accepted does not depend on where a list starts
rotated-accepted : RotationInvariant Accepted
rotated-accepted cs = (there, back)
  where
    n : ℕ
    n = length cs

    there : Accepted cs → Accepted (rotated cs)
    there ok = record {
      at_least = rw (rotated-length cs) ok.at_least;
      at_most = rw (rotated-length cs) ok.at_most;
      all_in_range = λ i below. let known = rw (rotated-length cs) at below in
          rw (rotated-corner cs i known) (ok.all_in_range (next n i) (next-below n i (omega arith)));
      convex = (rotated-convex cs).0 ok.convex;
    }

    back : Accepted (rotated cs) → Accepted cs
    back ok = record {
      at_least = rw (rotated-length cs) at ok.at_least;
      at_most = rw (rotated-length cs) at ok.at_most;
      all_in_range = λ i below. let before = previous-below n i below in
          rw (rotated-corner cs (previous n i) before, next-previous n i below)
          at (ok.all_in_range (previous n i) (rw (rotated-length cs) before));
      convex = (rotated-convex cs).1 ok.convex;
    }

-- ---- lists of numbers
-- a list of even length is accepted where another is that differs, as held, only in where it starts
accepted-cycle : (o q : Orientation) (s t : List ℤ) → length t % 2 ≡ 0
    → SameCycle (as_held o (corners s)) (as_held q (corners t)) → AcceptedAs o s → AcceptedAs q t
accepted-cycle o q s t even same ok =
    (held-accepted q t).1 (even, (same Accepted rotated-accepted).0 (accepted-held ok))

module _ (o : Orientation) (s t : List ℤ) (even : length t % 2 ≡ 0) where
  -- so a list that starts at another corner is accepted, with the same orientation
  pub accepted-start : (k : ℕ) → corners t ≡ starting_at k (corners s) → AcceptedAs o s → AcceptedAs o t
  accepted-start k is = accepted-cycle o o s t even (rw is (held_start o k (corners s)))

  -- and one in the opposite order with the other
  pub accepted-reversal : corners t ≡ reverse (corners s) → AcceptedAs o s → AcceptedAs (opposite o) t
  accepted-reversal is = accepted-cycle o (opposite o) s t even (rw is (held-reversal o (corners s)))

module _ {o q : Orientation} {s t : List ℤ} (ok-s : AcceptedAs o s) (ok-t : AcceptedAs q t) where
  -- a list is accepted with one orientation
  cycle-held : (p : Orientation) → SameCycle (as_held o (corners s)) (as_held p (corners t))
      → SameCycle (as_held o (corners s)) (as_held q (corners t))
  cycle-held p same = rw one same
    where
      one : q ≡ p
      one = one-orientation (corners t) ok-t.at_least q p ok-t.fits
          (accepted-cycle o p s t ok-t.even same ok-s).fits

  -- so where it starts at another corner, they differ as held only in this
  pub start-cycle : (k : ℕ) → corners t ≡ starting_at k (corners s)
      → SameCycle (as_held o (corners s)) (as_held q (corners t))
  start-cycle k is = cycle-held o (rw is (held_start o k (corners s)))

  -- and where it is in the opposite order
  pub reversal-cycle : corners t ≡ reverse (corners s) → SameCycle (as_held o (corners s)) (as_held q (corners t))
  reversal-cycle is = cycle-held (opposite o) (rw is (held-reversal o (corners s)))

-- ---- the nearest point
-- a polygon whose nearest point to v is written with this gap and this point
record HasNearest (v : Corner) (gap : Fraction) (point : Point) (cs : List Corner) : Type 0 where
  polygon : Polygon cs
  gap_is : (nearest cs v).gap ≡ gap
  point-is : (nearest cs v).point ≡ point

-- to be one does not depend on where the list starts
nearest-invariant : (v : Corner) (gap : Fraction) (point : Point) → RotationInvariant (HasNearest v gap point)
nearest-invariant v gap point cs = (
  λ has. let (same_gap, same_point) = rotated-nearest has.polygon v in record {
    polygon = (rotated-polygon cs).0 has.polygon;
    gap_is = same_gap ∙ has.gap_is;
    point-is = same_point ∙ has.point-is;
  },
  λ has. let known = (rotated-polygon cs).1 has.polygon in
      let (same_gap, same_point) = rotated-nearest known v in record {
        polygon = known;
        gap_is = sym same_gap ∙ has.gap_is;
        point-is = sym same_point ∙ has.point-is;
      },
)

-- a nearest point is answered for a list that is accepted
answered : {v : Corner} {s : List ℤ} {a : NearestPoint} → IsNearestAnswer v s (Ok a) → Answered v s a
answered {v} {s} {a} is = (nearest-answers v s a).0 (sym (nearest_answer-unique v s is))

-- what is answered is the nearest point of the corners as held, with its feature named by the list as given
answered-nearest : {v : Corner} {s : List ℤ} {a : NearestPoint} (of : Answered v s a)
    → HasNearest v a.gap a.point (as_held of.orientation (corners s))
answered-nearest {v} {s} of =
    let known = accepted-polygon (accepted-held of.accepted) in
    let is = (answers-iff known v of.answer_as_held).0 of.answers in record {
      polygon = known;
      gap_is = sym (ap (λ (b : NearestPoint). b.gap) of.named ∙ ap (λ (b : NearestPoint). b.gap) is);
      point-is = sym (ap (λ (b : NearestPoint). b.point) of.named ∙ ap (λ (b : NearestPoint). b.point) is);
    }

module _ (v : Corner) (s t : List ℤ) (a b : NearestPoint) where
  -- two answers have the same gap and the same point where the lists differ, as held, only in where they start
  nearest-same : IsNearestAnswer v s (Ok a) → IsNearestAnswer v t (Ok b)
      → ((o q : Orientation) → AcceptedAs o s → AcceptedAs q t
      → SameCycle (as_held o (corners s)) (as_held q (corners t)))
      → (a.gap ≡ b.gap) × (a.point ≡ b.point)
  nearest-same for-s for-t same =
      let of_a = answered for-s in
      let of_b = answered for-t in
      let known = same of_a.orientation of_b.orientation of_a.accepted of_b.accepted in
      let has-a = (known _ (nearest-invariant v a.gap a.point)).0 (answered-nearest of_a) in
      let has-b = answered-nearest of_b in
      (sym has-a.gap_is ∙ has-b.gap_is, sym has-a.point-is ∙ has-b.point-is)

  -- the answer for a list that starts at another corner has the same gap and the same point
  pub nearest-start : (k : ℕ) → corners t ≡ starting_at k (corners s)
      → IsNearestAnswer v s (Ok a) → IsNearestAnswer v t (Ok b) → (a.gap ≡ b.gap) × (a.point ≡ b.point)
  nearest-start k is for-s for-t = nearest-same for-s for-t (λ o q ok-s ok-t. start-cycle ok-s ok-t k is)

  -- and so has the answer for one in the opposite order
  pub nearest-reversal : corners t ≡ reverse (corners s)
      → IsNearestAnswer v s (Ok a) → IsNearestAnswer v t (Ok b) → (a.gap ≡ b.gap) × (a.point ≡ b.point)
  nearest-reversal is for-s for-t = nearest-same for-s for-t (λ o q ok-s ok-t. reversal-cycle ok-s ok-t is)

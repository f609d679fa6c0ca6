-- Done reports of lists that give the same pieces have the same figures, wherever the lists start and whichever way
-- round they go.
--     SameHeldPiece        two lists of numbers that give the same piece, each as it is held
--     start-same-piece     so do a list and one that starts at another corner
--     SameOrReversed, reversal-same-piece    and one with its corners in their order or all in the opposite order
-- Of two done reports, where A's lists give the same piece and so do B's:
--     comparison-pieces    they have the same gap, as a value
--     clearance-pieces     so the same clearance
--     sides-pieces         and each side has the same gap, as a value
-- This is so
--     comparison-start, clearance-start, sides-start    of lists that start at other corners
--     comparison-reversal, clearance-reversal, sides-reversal    of lists of which A's, B's or both are in the opposite
--                          order
use Prim.Native.Nat.{ℕ}
use mathlib.Core.Path.{◌≡◌}
use mathlib.Core.Logic.{◌⊎◌, ⊎_elim}
use mathlib.Core.List.{List, reverse}
use lib.IntN.{ℤ}
use Rattle.std.specs.Prelude.{Ok}
use Rattle.integers.specs.declared.fraction.Fraction.{Fraction}
use Rattle.integers.specs.Fraction.{SameValue}
use Rattle.outline.specs.declared.Orientation.{Orientation}
use Rattle.outline.specs.declared.Side.{Side}
use Rattle.outline.specs.declared.Side.TheVariants.{A, B}
use Rattle.outline.specs.Corners.{corners}
use Rattle.outline.specs.Orientation.{as_held, AcceptedAs}
use Rattle.nearest.proofs.Reversal.{cycle-piece, start-cycle, reversal-cycle}
use Rattle.nearest.proofs.Rotation.{starting_at, SamePiece}
use Rattle.hausdorff.specs.declared.Done.{Done}
use Rattle.hausdorff.specs.declared.Report.TheVariants as Report
use Rattle.hausdorff.specs.Pair.{other}
use Rattle.hausdorff.specs.Hausdorff.{Directed}
use Rattle.hausdorff.specs.Call.{IsComparison}
use Rattle.hausdorff.specs.code.Call.{pair_of}
use Rattle.hausdorff.proofs.CallLaws.{reported-means, done-means, clearance-same}
use Rattle.hausdorff.proofs.HausdorffLaws.{directed-unique, directed-pieces, hausdorff-unique, hausdorff-pieces}

-- two lists of numbers that give the same piece, each held with the orientation with which it is accepted
abbrev pub SameHeldPiece : List ℤ → List ℤ → Type 0
SameHeldPiece s t =
    (o q : Orientation) → AcceptedAs o s → AcceptedAs q t → SamePiece (as_held o (corners s)) (as_held q (corners t))

-- t has the corners of s, in their order or all in the opposite order
abbrev pub SameOrReversed : List ℤ → List ℤ → Type 0
SameOrReversed s t = (corners t ≡ corners s) ⊎ (corners t ≡ reverse (corners s))

-- a list that starts at another corner gives the same piece
pub start-same-piece : {s t : List ℤ} (k : ℕ) → corners t ≡ starting_at k (corners s) → SameHeldPiece s t
start-same-piece k is = λ o q ok-s ok-t. cycle-piece _ _ (start-cycle ok-s ok-t k is)

-- and so does one with the same corners, which starts at corner 0, or with these in the opposite order
pub reversal-same-piece : {s t : List ℤ} → SameOrReversed s t → SameHeldPiece s t
reversal-same-piece = ⊎_elim (start-same-piece 0) (λ is o q ok-s ok-t. cycle-piece _ _ (reversal-cycle ok-s ok-t is))

module _ (s t s' t' : List ℤ) (k j : ℕ) (d e : Done) (one : IsComparison s t k (Ok (Report.Done d)))
    (another : IsComparison s' t' j (Ok (Report.Done e))) where
  module _ (same-a : SameHeldPiece s s') (same-b : SameHeldPiece t t') where
    -- the two outlines of one report, as held, give the pieces of the other's
    pieces : (r : Side) → SamePiece (pair_of s t r) (pair_of s' t' r)
    pieces A = same-a _ _ (reported-means s t k _ one).accepted_a (reported-means s' t' j _ another).accepted_a
    pieces B = same-b _ _ (reported-means s t k _ one).accepted_b (reported-means s' t' j _ another).accepted_b

    -- the gap of a done report is the Hausdorff distance, which goes by the pieces alone
    pub comparison-pieces : SameValue d.answer.gap e.answer.gap
    comparison-pieces =
        let here = done-means s t k d one in let there = done-means s' t' j e another in
        rw (here.named, there.named)
        (hausdorff-unique (hausdorff-pieces pieces here.of.distance) there.of.distance)

    -- the clearance goes by the value of the gap
    pub clearance-pieces : d.clearance ≡ e.clearance
    clearance-pieces = clearance-same one another comparison-pieces

    -- the directed distance from a side to the other goes by the pieces too
    directed-same : (r : Side) {g h : Fraction} → Directed (pair_of s t r) (pair_of s t (other r)) g
        → Directed (pair_of s' t' r) (pair_of s' t' (other r)) h → SameValue g h
    directed-same r here there = directed-unique (directed-pieces (pieces r) (pieces (other r)) here) there

    -- and the gaps of the sides are these
    pub sides-pieces : SameValue d.sides.a.gap e.sides.a.gap × SameValue d.sides.b.gap e.sides.b.gap
    sides-pieces =
        let here = done-means s t k d one in let there = done-means s' t' j e another in
        rw (here.named, there.named) (
          directed-same A here.of.side_a.distance there.of.side_a.distance,
          directed-same B here.of.side_b.distance there.of.side_b.distance,
        )

  -- the lists of the second report start at other corners
  module _ (a b : ℕ) (from-s : corners s' ≡ starting_at a (corners s)) (from-t : corners t' ≡ starting_at b (corners t)) where
    -- the same gap
    pub comparison-start : SameValue d.answer.gap e.answer.gap
    comparison-start = comparison-pieces (start-same-piece a from-s) (start-same-piece b from-t)

    -- the same clearance
    pub clearance-start : d.clearance ≡ e.clearance
    clearance-start = clearance-pieces (start-same-piece a from-s) (start-same-piece b from-t)

    -- the same gap of each side
    pub sides-start : SameValue d.sides.a.gap e.sides.a.gap × SameValue d.sides.b.gap e.sides.b.gap
    sides-start = sides-pieces (start-same-piece a from-s) (start-same-piece b from-t)

  -- one of them or both are in the opposite order
  module _ (way_a : SameOrReversed s s') (way-b : SameOrReversed t t') where
    -- the same gap
    pub comparison-reversal : SameValue d.answer.gap e.answer.gap
    comparison-reversal = comparison-pieces (reversal-same-piece way_a) (reversal-same-piece way-b)

    -- the same clearance
    pub clearance-reversal : d.clearance ≡ e.clearance
    clearance-reversal = clearance-pieces (reversal-same-piece way_a) (reversal-same-piece way-b)

    -- the same gap of each side
    pub sides-reversal : SameValue d.sides.a.gap e.sides.a.gap
        × SameValue d.sides.b.gap e.sides.b.gap
    sides-reversal = sides-pieces (reversal-same-piece way_a) (reversal-same-piece way-b)

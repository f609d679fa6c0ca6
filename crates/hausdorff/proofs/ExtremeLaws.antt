-- What is extreme in a direction u, told from the order of directions. It turns on t, which is u turned left by a
-- right angle: an edge rises in the direction u where t is on its left, and falls where t is on its right.
--     turned, turned-some         t; it is not 0
--     corner-around               at a corner that is extreme in u, t lies from the edge into it to the edge out of it
--     edge-along                  an edge that is extreme in u has t's direction
use Prim.Native.Nat.{ℕ}
use mathlib.Core.Path.{◌≡◌, ◌∙◌}
use mathlib.Core.List.{List, [], ◌∷◌}
use lib.IntN.{pos, neg_ℤ}
use lib.ListN.{length}
use lib.Signed.{◌≤ℤ◌}
use Rattle.integers.proofs.Polynomial.{⊝◌, solve}
use Rattle.plane.specs.declared.Corner.{Corner}
use Rattle.plane.specs.declared.Vector.{Vector}
use Rattle.plane.specs.Vector.{cross, dot}
use Rattle.plane.proofs.Algebra.{VecE, vec, cross_e, dot_e, components}
use Rattle.outline.specs.Corners.{previous, edge}
use Rattle.plane.proofs.Halves.{NonZero}
use Rattle.plane.proofs.DirectionLaws.{Along, Around, along-iff, around-turns}
use Rattle.hausdorff.proofs.GoesRound.{GoesRound}
use Rattle.hausdorff.proofs.Extreme.{ExtremeCorner, ExtremeEdge}

abbrev pub turned : Vector → Vector
turned u = record { x = neg_ℤ u.y; y = u.x }

abbrev turned_e : VecE → VecE
turned_e u = record { x = ⊝ u.y; y = u.x }

turned-cross : (e u : Vector) → cross e (turned u) ≡ dot u e
unfolding cross dot
turned-cross e u = solve (components (e ∷ u ∷ [])) (cross_e (vec 0) (turned_e (vec 2))) (dot_e (vec 2) (vec 0)) tt

turned-dot : (e u : Vector) → dot e (turned u) ≡ cross u e
unfolding cross dot
turned-dot e u = solve (components (e ∷ u ∷ [])) (dot_e (vec 0) (turned_e (vec 2))) (cross_e (vec 2) (vec 0)) tt

pub turned-some : (u : Vector) → NonZero u → NonZero (turned u)
unfolding dot
turned-some u some = rw (solve (components (u ∷ [])) (dot_e (turned_e (vec 0)) (turned_e (vec 0))) (dot_e (vec 0) (vec 0)) tt) some

module _ {cs : List Corner} (u : Vector) (some : NonZero u) (i : ℕ) where
  pub corner-around : ExtremeCorner cs u i → Around (edge cs (previous (length cs) i)) (edge cs i) (turned u)
  corner-around extreme =
      let e = edge cs (previous (length cs) i) in let f = edge cs i in
      let left : pos 0 ≤ℤ cross e (turned u) = rw (turned-cross e u) extreme.not_falling in
      let right : cross f (turned u) ≤ℤ pos 0 = rw (turned-cross f u) extreme.not_rising in
      around-turns e f (turned u) (turned-some u some) left right

  pub edge-along : GoesRound (length cs) (edge cs) → ExtremeEdge cs u i → Along (edge cs i) (turned u)
  edge-along round extreme =
      let d = edge cs i in
      (along-iff d (turned u) (round.nonzero i extreme.known) (turned-some u some)).1
      (turned-cross d u ∙ extreme.normal, rw (turned-dot d u) extreme.outward)

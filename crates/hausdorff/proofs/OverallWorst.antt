-- The worst so far, of a side and of both, is the greatest gap that has been counted, under the rule for equals, or
-- none.
--     leads-or-none-unique    what leads among some gaps, or is none where there are none of these, is one
--     overall-leads           the worse of what leads, or is none, among some gaps of A and of B does so among both
--     side-worst-is           a side's worst so far that is computed leads among the gaps of the side that count in the
--                             steps, or is none where none counts
--     worst-is                and the worse of both sides' leads among the gaps of both
use Prim.Native.Nat.{ℕ}
use mathlib.Core.Path.{◌≡◌, refl, ap}
use mathlib.Core.Logic.Iff
use mathlib.Core.Logic.{inl, inr, ⊎_elim}
use Rattle.std.specs.Prelude.{Option, None, Some}
use Rattle.outline.specs.declared.Side.{Side}
use Rattle.outline.specs.declared.Side.TheVariants.{A, B}
use Rattle.hausdorff.specs.declared.CornerGap.{CornerGap}
use Rattle.hausdorff.specs.Pair.{Pair, Orientations}
use Rattle.hausdorff.specs.code.Pair.{Polygons}
use Rattle.hausdorff.specs.CornerGap.{overall}
use Rattle.hausdorff.specs.code.Sweep.{worst_after, worst_so_far}
use Rattle.hausdorff.proofs.Leads.{leads-map, leads-unique, OnSide, by_side, leads-of, leads-both}
use Rattle.hausdorff.proofs.WorstLaws.{WorstOf, worst-after, counted-outside}
use Rattle.hausdorff.specs.Counted.{Counted, LeadsOrNone, IsWorst, IsSideWorst}

module _ (pair : Pair) (os : Orientations) (polygons : Polygons pair) where
  -- what leads on A or on B, or the worse of both, leads on both
  pub overall-leads : (Q : Side → ℕ → Type 0) (a b : Option CornerGap)
      → LeadsOrNone pair os (OnSide A (Q A)) a → LeadsOrNone pair os (OnSide B (Q B)) b
      → LeadsOrNone pair os (λ z. Q z.side z.corner) (overall a b)
  overall-leads Q None None p q = λ z holds. ⊎_elim (p z) (q z) ((by_side Q z).1 holds)
  overall-leads Q None (Some b) p q =
      leads-map (λ z gap. Iff.trans (inr, ⊎_elim (λ on. absurd (p z on)) (λ on. on)) (by_side Q z)) q
  overall-leads Q (Some a) None p q =
      leads-map (λ z gap. Iff.trans (inl, ⊎_elim (λ on. on) (λ on. absurd (q z on))) (by_side Q z)) p
  overall-leads Q (Some a) (Some b) p q = leads-both pair os polygons Q a b p q

  -- the preferred one of the corners of a side that have been counted leads among their gaps
  side-counted : (k : ℕ) (s : Side) (x : Option CornerGap) → WorstOf pair os s (Counted pair k s) x → IsSideWorst pair os k s x
  side-counted k s None none = λ z on. none z.corner on.1
  side-counted k s (Some w) best =
      leads-of pair os polygons s (Counted pair k s) w
      (counted-outside pair polygons s w.corner k best.holds).known best

  pub side-worst-is : (k : ℕ) (s : Side) → IsSideWorst pair os k s (worst_after pair os k s)
  side-worst-is k s = side-counted k s (worst_after pair os k s) (worst-after pair polygons s os k)

  -- so the worst so far of both leads among what has been counted of both
  pub worst-is : (k : ℕ) → IsWorst pair os k (worst_so_far pair os k)
  worst-is k =
      overall-leads (Counted pair k) (worst_after pair os k A) (worst_after pair os k B) (side-worst-is k A) (side-worst-is k B)

  -- of equals one is the first, and where one is there it is not none
  pub leads-or-none-unique : (T : CornerGap → Type 0) (x y : Option CornerGap)
      → LeadsOrNone pair os T x → LeadsOrNone pair os T y → x ≡ y
  leads-or-none-unique T None None p q = refl
  leads-or-none-unique T None (Some w) p q = absurd (p w q.among)
  leads-or-none-unique T (Some w) None p q = absurd (q w p.among)
  leads-or-none-unique T (Some w) (Some z) p q = ap Some (leads-unique pair os polygons w z p q)

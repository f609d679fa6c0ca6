-- Gaps of corners, and which leads among some of them: the greatest, of equals the first.
--     not-later-antisym            two corners of which neither is later are one
--     not-later-on-side            on one side the numbers decide
--     leads-map                    only which gaps it leads among matters, not how that is said
--     leads-unique                 only one leads
--     OnSide, by_side              a corner of a side, whose number has a property; a corner is of A or of B
--     worse-first, worse-second    the worse of two is the first if the second's gap is not greater, and else the
--                                  second
--     leads-worse                  the worse of what leads among some and of what leads among later ones leads
--                                  among all of these
--     leads-of                     the preferred one among some corners of a side leads among their gaps
--     leads-both                   the worse of what leads among some of A and of what leads among some of B leads
--                                  among both
use Prim.Native.Nat.{ℕ, ◌<◌, ◌≤◌}
use mathlib.Core.Path.{◌≡◌, refl, sym, ap, ◌∙◌}
use mathlib.Core.Logic.{◌↔◌, ◌⊎◌, inl, inr, ⊎_elim}
use mathlib.Core.Bool.{Bool, true, false, cond}
use native.Mathlib.Nat.{le_antisymm}
use lib.ListN.{length}
use Rattle.integers.specs.Fraction.{is_less, NotGreater}
use Rattle.integers.proofs.FractionOrder.{not_greater-trans, is_less-true, is_less-false, less-is_less}
use Rattle.integers.proofs.FractionOrder.{not_greater-is_less, less-not_greater}
use Rattle.hausdorff.specs.declared.CornerGap.{CornerGap}
use Rattle.outline.specs.declared.Side.{Side}
use Rattle.outline.specs.declared.Side.TheVariants.{A, B}
use Rattle.hausdorff.specs.Pair.{Pair, Orientations, given}
use Rattle.hausdorff.specs.code.Pair.{Polygons}
use Rattle.hausdorff.specs.code.CornerGap.{corner_gap}
use Rattle.hausdorff.specs.CornerGap.{worse}
use Rattle.hausdorff.specs.Answer.{IsGap, NotLater, Leads}
use Rattle.outline.proofs.OrientationLaws.{given-injective}
use Rattle.hausdorff.proofs.Preference.{PreferredOf}
use Rattle.hausdorff.proofs.GapLaws.{gap-iff, gap_is, gap-lower}

-- by the four cases of the sides
pub not-later-antisym : (pair : Pair) (os : Orientations) (s t : Side) (i j : ℕ) → i < length (pair s) → j < length (pair t)
    → NotLater s (given pair os s i) t (given pair os t j) → NotLater t (given pair os t j) s (given pair os s i)
    → corner_gap pair s i ≡ corner_gap pair t j
not-later-antisym pair os A A i j known there p q =
    ap (corner_gap pair A) (given-injective (os A) (length (pair A)) i j known there (le_antisymm p q))
not-later-antisym pair os A B i j known there p q = absurd q
not-later-antisym pair os B A i j known there p q = absurd p
not-later-antisym pair os B B i j known there p q =
    ap (corner_gap pair B) (given-injective (os B) (length (pair B)) i j known there (le_antisymm p q))

pub not-later-on-side : (s : Side) (i j : ℕ) → i ≤ j → NotLater s i s j
not-later-on-side A i j p = p
not-later-on-side B i j p = p

pub leads-map : {pair : Pair} {os : Orientations} {T U : CornerGap → Type 0} {w : CornerGap}
    → ((z : CornerGap) → IsGap pair z → T z ↔ U z) → Leads pair os T w → Leads pair os U w
leads-map {w = w} same leads = record {
  is_gap = leads.is_gap;
  among = (same w leads.is_gap).0 leads.among;
  greatest = λ z gap u. leads.greatest z gap ((same z gap).1 u);
  first_of_equals = λ z gap u. leads.first_of_equals z gap ((same z gap).1 u);
}

-- a corner of a side, whose number has a property
abbrev pub OnSide : Side → (ℕ → Type 0) → CornerGap → Type 0
OnSide s Q w = (w.side ≡ s) × Q w.corner

pub by_side : (Q : Side → ℕ → Type 0) (z : CornerGap) → (OnSide A (Q A) z ⊎ OnSide B (Q B) z) ↔ Q z.side z.corner
by_side Q z = (⊎_elim (λ (on, q). rw on q) (λ (on, q). rw on q), go z.side refl)
  where
    go : (s : Side) → z.side ≡ s → Q s z.corner → OnSide A (Q A) z ⊎ OnSide B (Q B) z
    go A on q = inl (on, q)
    go B on q = inr (on, q)

pub worse-first : (w z : CornerGap) → NotGreater z.gap w.gap → worse w z ≡ w
worse-first w z most = ap (λ (t : Bool). cond t z w) (not_greater-is_less w.gap z.gap most)

pub worse-second : (w z : CornerGap) → ¬ NotGreater z.gap w.gap → worse w z ≡ z
worse-second w z less = ap (λ (t : Bool). cond t z w) (less-is_less w.gap z.gap less)

module _ (pair : Pair) (os : Orientations) (polygons : Polygons pair) where
  -- neither of two is greater, so neither is later
  pub leads-unique : {T : CornerGap → Type 0} (w z : CornerGap) → Leads pair os T w → Leads pair os T z → w ≡ z
  leads-unique w z p q =
      ((gap-iff pair polygons w).0 p.is_gap).1
      ∙ not-later-antisym pair os w.side z.side w.corner z.corner p.is_gap.known q.is_gap.known
      (p.first_of_equals z q.is_gap q.among (q.greatest w p.is_gap p.among))
      (q.first_of_equals w p.is_gap p.among (p.greatest z q.is_gap q.among))
      ∙ sym ((gap-iff pair polygons z).0 q.is_gap).1

  -- of equals the first comes before all later ones
  pub leads-worse : {T U : CornerGap → Type 0} (w z : CornerGap) → Leads pair os T w → Leads pair os U z
      → ((x : CornerGap) → U x
      → NotLater w.side (given pair os w.side w.corner) x.side (given pair os x.side x.corner))
      → Leads pair os (λ x. T x ⊎ U x) (worse w z)
  leads-worse {T} {U} w z p q order = go (is_less w.gap z.gap) refl
    where
      go : (t : Bool) → is_less w.gap z.gap ≡ t → Leads pair os (λ x. T x ⊎ U x) (cond t z w)
      go true less = record {
        is_gap = q.is_gap;
        among = inr q.among;
        greatest = λ x gap. ⊎_elim
            (λ t. not_greater-trans x.gap w.gap z.gap (gap-lower pair polygons w p.is_gap) (p.greatest x gap t)
            (less-not_greater w.gap z.gap (is_less-true w.gap z.gap less)))
            (q.greatest x gap);
        first_of_equals = λ x gap. ⊎_elim
            (λ t equal. absurd (is_less-true w.gap z.gap less
            (not_greater-trans z.gap x.gap w.gap (gap-lower pair polygons x gap) equal (p.greatest x gap t))))
            (q.first_of_equals x gap);
      }
      go false not_less = record {
        is_gap = p.is_gap;
        among = inl p.among;
        greatest = λ x gap. ⊎_elim (p.greatest x gap)
            (λ u. not_greater-trans x.gap z.gap w.gap (gap-lower pair polygons z q.is_gap) (q.greatest x gap u)
            (is_less-false w.gap z.gap not_less));
        first_of_equals = λ x gap. ⊎_elim (p.first_of_equals x gap) (λ u _. order x u);
      }

  -- on one side the numbers as given decide
  pub leads-of : (s : Side) (Q : ℕ → Type 0) (w : CornerGap) → w.corner < length (pair s) → PreferredOf pair os s Q w
      → Leads pair os (OnSide s Q) w
  leads-of s Q w below best = record {
    is_gap = rw best.equal (gap_is pair polygons s w.corner below);
    among = (w-on, best.holds);
    greatest = λ z gap (on, q). rw (gap_at z gap on) (best.preferred z.corner q).not_less;
    first_of_equals = λ z gap (on, q) equal. rw (w-on, on)
        (not-later-on-side s (given pair os s w.corner) (given pair os s z.corner)
        ((best.preferred z.corner q).first_of_equals (rw (gap_at z gap on) at equal)));
  }
    where
      w-on : w.side ≡ s
      w-on = ap (λ (x : CornerGap). x.side) best.equal

      gap_at : (z : CornerGap) → IsGap pair z → z.side ≡ s → z.gap ≡ (corner_gap pair s z.corner).gap
      gap_at z gap on =
          ap (λ (x : CornerGap). x.gap) ((gap-iff pair polygons z).0 gap).1
          ∙ ap (λ (t : Side). (corner_gap pair t z.corner).gap) on

  -- A's corners come before B's
  pub leads-both : (Q : Side → ℕ → Type 0) (w z : CornerGap) → Leads pair os (OnSide A (Q A)) w
      → Leads pair os (OnSide B (Q B)) z → Leads pair os (λ x. Q x.side x.corner) (worse w z)
  leads-both Q w z p q = leads-map (λ z gap. by_side Q z) (leads-worse w z p q (λ x on. rw (p.among.0, on.0) tt))

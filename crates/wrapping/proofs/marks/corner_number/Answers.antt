-- `wrapping::marks::corner_number` passes over the corners.
use Rattle.std.proofs.Common.{rules, ◌≡◌, ◌<◌, ◌+◌, ◌∙◌, ℕ, zero, suc, List, [], ◌∷◌, arith, refl, ap, sym, true, false, length, pos, Some, None}
use native.Mathlib.Nat.{zero-add}
use lib.IntN.{negsuc}
use Rattle.std.proofs.lemmas.Iterator.{first_from_Range}
use borrow.Author.Tests.{tests}
use mir.Facts.{to_z-of_z}
use Rattle.plane.specs.declared.Corner.{Corner}
use Rattle.plane.specs.code.Tests.{same}
use Rattle.outline.specs.Corners.{corners, corner}
use Rattle.plane.proofs.Tests.{same-is}
use Rattle.hull.specs.code.Marks.{number_from}
use Rattle.wrapping.proofs.marks.corner_number.Goals as goal

-- v is the first of some corners at a place, or none of them is v
module _ (v : Corner) where
  number-first : (hs : List Corner) (k n : ℕ) → k < length hs → same (corner hs k) v ≡ true
      → ((j : ℕ) → j < k → same (corner hs j) v ≡ false) → number_from n hs v ≡ pos (n + k)
  unfolding number_from
  number-first [] k n below holds before = absurd (omega arith)
  number-first (h ∷ hs) zero n below holds before = let at : n ≡ n + 0 = omega arith in rw holds (ap pos at)
  number-first (h ∷ hs) (suc k) n below holds before =
      let at : suc n + k ≡ n + suc k = omega arith in
      let not : same h v ≡ false = before 0 (omega arith) in
      rw not (number-first hs k (suc n) (omega arith) holds (λ j less. before (suc j) (omega arith)) ∙ ap pos at)

  number-none : (hs : List Corner) (n : ℕ) → ((j : ℕ) → j < length hs → same (corner hs j) v ≡ false) → number_from n hs v ≡ negsuc 1
  unfolding number_from
  number-none [] n none = refl
  number-none (h ∷ hs) n none =
      let not : same h v ≡ false = none 0 (omega arith) in
      rw not (number-none hs (suc n) (λ j less. none (suc j) (omega arith)))

-- what a place of the corners answers
module _ (hs : List Corner) (v : Corner) where
  abbrev Is : ℕ → Type 0
  Is k = same (corner hs k) v ≡ true

  abbrev Other : ℕ → Type 0
  Other k = same (corner hs k) v ≡ false

found : (c : goal.In-Some) → (c.in-Some.k < length (corners c.args.hull.now))
    × (number_from 0 (corners c.args.hull.now) c.args.v ≡ pos c.in-Some.k)
found c =
    let hs = corners c.args.hull.now in
    let (_, below, is, before) = first_from_Range _ _ _ (Some c.in-Some.k) (Is hs c.args.v) (Other hs c.args.v) c.in-Some.ensures.ran
    (λ x q k. search (rules, tests, same-is)) (λ x q k. search (rules, tests, same-is)) in (
      omega (arith, below),
      number-first c.args.v hs c.in-Some.k 0 (omega (arith, below)) is (λ j less. before j (omega arith) less) ∙ ap pos (zero-add c.in-Some.k),
    )

pub overflow_cast-result : goal.overflow_cast-result
overflow_cast-result c = record { sfits = omega (arith, (found c).0, c.requires) }

pub returns-in-Some : goal.returns-in-Some
returns-in-Some c = to_z-of_z (overflow_cast-result c) ∙ sym (found c).1

pub returns-in-None : goal.returns-in-None
returns-in-None c =
    let hs = corners c.args.hull.now in
    let none = first_from_Range _ _ _ None (Is hs c.args.v) (Other hs c.args.v) c.in-None.ensures.ran
    (λ x q k. search (rules, tests, same-is)) (λ x q k. search (rules, tests, same-is)) in
    sym (number-none c.args.v hs 0 (λ j less. none j (omega arith) (omega arith)))

-- What the strict reading answers, as callers see it.
--     reading-taken      an outline is read exactly where the list's length is even and it gives an accepted outline, of
--                        whose corners it is the value
--     reading-refused    it is refused exactly where a condition applies, with the refusal of the first that does
--     is-reading         what it gives is as rule 7.2 lays down
--     reading-unique     and nothing else is
--     reading-promises   so it has both parts of the call's contract
-- Of a list that is taken:
--     reading-outline, reading-corners_of    the value that is read holds an accepted outline, with the corners of
--                                           the list
--     reading-count, reading-corner         the count is half its length; corner i is numbers 2 i and 2 i + 1
use Prim.Native.Nat.{ℕ, ◌+◌, ◌*◌, ◌/◌, ◌<◌}
use mathlib.Core.Path.{◌≡◌, refl, sym, ap, ◌∙◌}
use mathlib.Core.Logic.Iff
use mathlib.Core.Logic.{◌↔◌}
use mathlib.Core.List.{List}
use lib.IntN.{ℤ, pos}
use lib.ListN.{length, get_or}
use Rattle.std.specs.Prelude.{Option, Result, Ok, Err}
use Rattle.outline.specs.code.Checks.{Verdict}
use Rattle.outline.specs.declared.Side.{Side}
use Rattle.outline.specs.declared.Outline.{Outline}
use Rattle.outline.specs.declared.Refusal.{Refusal}
use Rattle.outline.specs.Conditions.{reading_conditions, AcceptedList}
use Rattle.outline.specs.code.Held.{IsOutline}
use Rattle.outline.specs.Corners.{corners, corner, held}
use Rattle.outline.specs.code.Held.{corners_of}
use Rattle.outline.specs.code.Reading.{check, reading}
use Rattle.outline.specs.Reading.{IsReading, refused, taken}
use Rattle.outline.specs.Refusal.{FirstFault}
use Rattle.outline.proofs.Acceptance.{accepted, check-refused}
use Rattle.outline.proofs.ChecksLaws.{answer-taken, answer-refused, answer-ok}
use Rattle.outline.proofs.CornersLaws.{length-corners, corner-at}
use Rattle.outline.proofs.HeldLaws.{held-corner, corners_of-held, held-outline}

module _ (whose : Option Side) (s : List ℤ) where
  pub reading-taken : {o : Outline} → (reading whose s ≡ Ok o) ↔ ((o ≡ held (corners s)) × AcceptedList s)
  reading-taken = (
    λ is-read. (let (is, takes) = answer-ok (check whose s) is-read in (is, (accepted whose s).0 takes)),
    λ (is, ok). rw is ((answer-taken (check whose s) (held (corners s))).1 ((accepted whose s).1 ok)),
  )

  pub reading-refused : (r : Refusal) → (reading whose s ≡ Err r) ↔ FirstFault (reading_conditions whose s) r
  reading-refused r = Iff.trans (answer-refused (check whose s) (held (corners s)) r) (check-refused whose s r)

  pub is-reading : IsReading whose s (reading whose s)
  is-reading = go (check whose s) refl
    where
      go : (v : Verdict) → check whose s ≡ v → IsReading whose s (reading whose s)
      go (Err r) is = refused r ((check-refused whose s r).0 is) (rw is)
      go (Ok _) is = taken ((accepted whose s).0 is) (rw is)

  -- what the call gives has both parts of its contract
  pub reading-promises : {result : Result Outline Refusal} → result ≡ reading whose s
      → (result ≡ reading whose s) × IsReading whose s result
  reading-promises is = (is, rw is is-reading)

  pub reading-unique : {result : Result Outline Refusal} → IsReading whose s result → result ≡ reading whose s
  reading-unique (refused r fault is) = is ∙ sym ((reading-refused r).1 fault)
  reading-unique (taken ok is) = is ∙ sym (reading-taken.1 (refl, ok))

  module _ {o : Outline} (is-read : reading whose s ≡ Ok o) where
    reading-holds : (o ≡ held (corners s)) × AcceptedList s
    reading-holds = reading-taken.0 is-read

    pub reading-outline : IsOutline o
    reading-outline = rw reading-holds.0 (held-outline (corners s) reading-holds.1.1)

    pub reading-corners_of : corners_of o ≡ corners s
    reading-corners_of = ap corners_of reading-holds.0 ∙ corners_of-held (corners s)

    pub reading-count : o.count ≡ length s / 2
    unfolding held
    reading-count = ap (λ (o : Outline). o.count) reading-holds.0 ∙ length-corners s

    pub reading-corner : (i : ℕ) → i < length s / 2
        → corner o.corners i ≡ record { x = get_or s (2 * i) (pos 0); y = get_or s (2 * i + 1) (pos 0) }
    reading-corner i below =
        ap (λ (o : Outline). corner o.corners i) reading-holds.0
        ∙ held-corner (corners s) i (rw length-corners below)
        ∙ corner-at s i (rw length-corners below)

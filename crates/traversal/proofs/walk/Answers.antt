-- `traversal::walk` reads one record a turn.
use borrow.Author.Rules.{sfits_of}
use Prim.Native.Nat.{ℕ, suc, ◌/◌, ◌<◌}
use mathlib.Core.List.{List}
use mathlib.Core.Path.{◌≡◌, sym, ◌∙◌}
use mathlib.Core.Logic.{inl, inr}
use native.Mathlib.Omega.{arith}
use lib.IntN.{ℤ, pos}
use lib.ListN.{length}
use mir.Facts.{to_z-of_z}
use mir.Syntax.{w32}
use mir.Val.{SFits}
use Rattle.std.specs.Prelude.{Option, Some}
use Rattle.records.specs.Chain.{records}
use Rattle.records.specs.code.Chain.{record_number}
use Rattle.records.proofs.ChainLaws.{length-records, record_number-some, record_number-none}
use Rattle.traversal.proofs.WalkLaws.{walk_begins, walk-on, walk-done}
use Rattle.traversal.proofs.walk.Goals as goal

-- the record that the index names, by the record count as it is computed
named : (s : List ℤ) (z : ℤ) {i : ℕ} {found : Option ℕ} → found ≡ record_number (length s / 3) z → found ≡ Some i
    → (j : ℕ) × (i ≡ suc j) × (z ≡ pos (suc j)) × (suc j < length (records s))
named s z found is = record_number-some (length (records s)) z (rw (length-records s) (sym found ∙ is))

pub loop-count-init : goal.loop-count-init
loop-count-init c = walk_begins c.args.store.now _ c.args.out.now c.requires

pub returns-in_default : goal.returns-in_default
returns-in_default c =
    let none = record_number-none (records c.args.store.now) _ (rw (length-records c.args.store.now) (sym c.record_number.ensures ∙ c.in_default.is)) in
    let ended = walk-done c.loop-count.invariant (inr none) in
    let (is, written) = rw (to_z-of_z c.ranges.start) at ended in
    record { stop = is; list = written }

pub record_at-next-requires : goal.record_at-next-requires
record_at-next-requires c =
    let (j, is, at, below) = named c.args.store.now _ c.record_number.ensures c.in-Some.is in
    rw is below

pub put_corner-requires : goal.put_corner-requires
put_corner-requires c =
    let inv = c.loop-count.invariant in
    omega (arith, inv.long, inv.room)

pub loop-count-preserved : goal.loop-count-preserved
loop-count-preserved c =
    let next_fits : SFits w32 c.record_at-next.result.next = search sfits_of in
    let (j, is, at, below) = named c.args.store.now _ c.record_number.ensures c.in-Some.is in
    walk-on c.loop-count.invariant c.loop-count-test.true at below (rw is at c.record_at-next.ensures)
    c.put_corner.ensures (to_z-of_z next_fits)

pub returns : goal.returns
returns c =
    let full : c.loop-count.count ≡ 256 = omega arith in
    let (is, written) = rw (to_z-of_z c.ranges.start, full) at (walk-done c.loop-count.invariant (inl full)) in
    record { stop = is; list = written }

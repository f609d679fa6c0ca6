-- `traversal::record_at` reads numbers 3 i to 3 i + 2, which lie in the store.
use borrow.Author.Rules.{sfits_of}
use mathlib.Core.Path.{sym}
use Prim.Native.Nat.{◌+◌, ◌*◌}
use lib.IntN.{pos}
use lib.ListN.{get_or}
use mir.Facts.{to_z-of_z}
use mir.Syntax.{w32}
use mir.Val.{SFits}
use Rattle.records.proofs.ChainLaws.{record-at}
use Rattle.traversal.proofs.record_at.Goals as goal

pub returns : goal.returns
returns c =
    let args = c.args in
    let x_fits : SFits w32 (get_or args.store.now (3 * args.i) (pos 0)) = search sfits_of in
    let y-fits : SFits w32 (get_or args.store.now (3 * args.i + 1) (pos 0)) = search sfits_of in
    let next_fits : SFits w32 (get_or args.store.now (3 * args.i + 2) (pos 0)) = search sfits_of in
    rw (to_z-of_z x_fits, to_z-of_z y-fits, to_z-of_z next_fits)
    (sym (record-at args.store.now args.i c.requires))

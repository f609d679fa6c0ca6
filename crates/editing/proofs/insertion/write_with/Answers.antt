-- `editing::insertion::write_with` copies what stands before the new corner and what stands after it.
use Rattle.std.proofs.Common.{sym}
use borrow.Author.Rules.{sfits_of}
use mir.Facts.{to_z-of_z}
use mir.Syntax.{w32}
use mir.Val.{SFits}
use Rattle.editing.proofs.PartsLaws.{inserted-parts}
use Rattle.editing.proofs.insertion.write_with.Goals as goal

pub returns : goal.returns
returns c =
    let x_fits : SFits w32 c.args.v.x = search sfits_of in
    let y_fits : SFits w32 c.args.v.y = search sfits_of in
    rw (
      c.copy.ensures,
      c.copy-2.ensures,
      c.copy-3.ensures,
      to_z-of_z x_fits,
      to_z-of_z y_fits,
      c.count-end.ensures,
    ) (sym (inserted-parts c.args.k c.args.v c.args.s.now c.requires.known))

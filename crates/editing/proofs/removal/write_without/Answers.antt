-- `editing::removal::write_without` copies what stands before the corner, and what stands after it.
use Rattle.std.proofs.Common.{sym}
use Rattle.editing.proofs.PartsLaws.{without-parts}
use Rattle.editing.proofs.removal.write_without.Goals as goal

pub returns : goal.returns
returns c =
    rw (c.copy.ensures, c.copy-2.ensures, c.count-end.ensures)
    (sym (without-parts _ _ c.requires.known))

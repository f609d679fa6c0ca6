-- `comparing::window` reads the corners around one of an outline.
use native.Mathlib.Omega.{arith}
use mathlib.Core.Path.{◌≡◌}
use lib.ListN.{length}
use Rattle.outline.proofs.HeldLaws.{length-mapped}
use Rattle.comparing.proofs.CompareLaws.{window-seen}
use Rattle.comparing.proofs.window.Goals as goal

pub returns : goal.returns
returns c =
    let places : length c.args.outline.now.corners ≡ 256 = search length-mapped in
    window-seen c.args.outline.now (omega arith) c.requires.known
    c.previous-before.ensures c.previous.ensures c.next-after.ensures c.next.ensures

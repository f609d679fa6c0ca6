-- `reading::corners::corner` reads numbers 2 i and 2 i + 1, which lie in the list.
use borrow.Author.Rules.{sfits_of}
use mathlib.Core.Path.{sym}
use native.Mathlib.Omega.{arith}
use Prim.Native.Nat.{◌+◌, ◌*◌}
use lib.IntN.{pos}
use lib.ListN.{get_or}
use mir.Facts.{to_z-of_z}
use mir.Syntax.{w32}
use mir.Val.{SFits}
use Rattle.outline.proofs.CornersLaws.{corners-fit, corner-at}
use Rattle.reading.proofs.corners.corner.Goals as goal

pub overflow_mul-result : goal.overflow_mul-result
overflow_mul-result c = omega (arith, corners-fit c.args.s.now)

pub offset_bounds-s-i : goal.offset_bounds-s-i
offset_bounds-s-i c = omega (arith, corners-fit c.args.s.now)

pub bounds-s-i : goal.bounds-s-i
bounds-s-i c = omega (arith, corners-fit c.args.s.now)

pub overflow_mul-result-2 : goal.overflow_mul-result-2
overflow_mul-result-2 c = omega (arith, corners-fit c.args.s.now)

pub overflow_add-result : goal.overflow_add-result
overflow_add-result c = omega (arith, corners-fit c.args.s.now)

pub offset_bounds-s-i-2 : goal.offset_bounds-s-i-2
offset_bounds-s-i-2 c = omega (arith, corners-fit c.args.s.now)

pub bounds-s-i-2 : goal.bounds-s-i-2
bounds-s-i-2 c = omega (arith, corners-fit c.args.s.now)

pub returns : goal.returns
returns c =
    let x_fits : SFits w32 (get_or c.args.s.now (2 * c.args.i) (pos 0)) = search sfits_of in
    let y-fits : SFits w32 (get_or c.args.s.now (2 * c.args.i + 1) (pos 0)) = search sfits_of in
    rw (to_z-of_z x_fits, to_z-of_z y-fits)
    (sym (corner-at c.args.s.now c.args.i c.requires))

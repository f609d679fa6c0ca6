-- `wrapping::marks::write_marks` writes a mark a turn.
use Rattle.std.proofs.Common.{◌∙◌, sym, arith, pos}
use lib.Seq.{ext_get_or}
use Rattle.outline.specs.Corners.{corners}
use Rattle.hull.proofs.MarksLaws.{marks-length, marks-at}
use Rattle.wrapping.proofs.marks.write_marks.Goals as goal

pub returns : goal.returns
returns c =
    let ps = corners c.args.s.now in
    let hs = corners c.args.hull.now in
    let long = marks-length ps hs in
    ext_get_or (pos 0) c.loop-i.out _ (omega (arith, long))
    (λ k below. c.loop-i.invariant k (omega arith) ∙ sym (marks-at ps hs k (omega (arith, long))))

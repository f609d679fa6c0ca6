-- `ravinebowl::write_report` writes the three parts of a report.
use Rattle.std.proofs.Common.{◌∙◌, refl, ap, arith}
use Rattle.std.proofs.lemmas.Slice.{put_mid-paste}
use lib.ListN.{length, length-append, length-take, length-drop}
use Rattle.outline.specs.declared.Side.TheVariants.{A, B}
use Rattle.ravinebowl.proofs.WritingLaws.{overall-length, side-length, begun, report-written}
use Rattle.ravinebowl.proofs.write_report.Goals as goal

pub copy_from_slice-requires : goal.copy_from_slice-requires
copy_from_slice-requires c =
    omega (arith, length-take 14 c.args.res.now, ap length c.of_overall.ensures, overall-length c.args.report)

pub returns : goal.returns
returns c =
    let r = c.args.report in
    let first = c.copy_from_slice.ensures.after ∙ c.of_overall.ensures in
    let second = c.copy_from_slice-2.ensures.after ∙ c.of_side.ensures in
    let third = c.copy_from_slice-3.ensures.after ∙ c.of_side-2.ensures in
    report-written r c.args.res.now c.requires.res_len
    (rw first (begun c.args.res.now _ (overall-length r)))
    (put_mid-paste 14 9 _ _ _ _ second (side-length A r) refl)
    (put_mid-paste 23 _ _ _ _ _ third
    (simp (length-append, length-take, length-drop) (omega (arith, ap length first, overall-length r, ap length second, side-length A r, side-length B r))) refl)

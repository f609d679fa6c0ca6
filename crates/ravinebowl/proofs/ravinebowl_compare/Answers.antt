-- `ravinebowl::ravinebowl_compare` goes by the length of the result list and then by what comparing answers.
use mathlib.Core.Path.{sym, ◌∙◌}
use Rattle.hausdorff.proofs.Fitting.{report-fits}
use Rattle.ravinebowl.proofs.CallsLaws.{compare-wrong, compare-right}
use Rattle.ravinebowl.proofs.ravinebowl_compare.Goals as goal

pub returns-then-res-ne-COMPARE_LENGTH : goal.returns-then-res-ne-COMPARE_LENGTH
returns-then-res-ne-COMPARE_LENGTH c =
    let (status, list) = compare-wrong _ _ _ _ c.if-res-ne-COMPARE_LENGTH.true in
    record { status = c.wrong_result_length.ensures ∙ sym status; list = sym list }

pub write_report-requires : goal.write_report-requires
write_report-requires c = record {
  report_fits = report-fits _ _ _ _ c.in-Ok.ensures.rules;
  res_len = c.if-res-ne-COMPARE_LENGTH.false;
}

pub returns-in-Err : goal.returns-in-Err
returns-in-Err c =
    let (status, list) = compare-right _ _ _ _ c.if-res-ne-COMPARE_LENGTH.false (sym c.in-Err.ensures.answer) in
    record { status = c.from.ensures ∙ sym status; list = sym list }

pub returns-in-Ok : goal.returns-in-Ok
returns-in-Ok c =
    let (status, list) = compare-right _ _ _ _ c.if-res-ne-COMPARE_LENGTH.false (sym c.in-Ok.ensures.answer) in
    record { status = c.answered.ensures ∙ sym status; list = c.write_report.ensures ∙ sym list }

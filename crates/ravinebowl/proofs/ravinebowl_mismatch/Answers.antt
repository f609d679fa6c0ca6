-- `ravinebowl::ravinebowl_mismatch` goes by the length of the result list and then by what the call for the mismatch sum
-- answers.
use mathlib.Core.Path.{sym, ◌∙◌}
use Rattle.mismatch.proofs.CallLaws.{mismatch-fits}
use Rattle.ravinebowl.proofs.CallsLaws.{mismatch-wrong, mismatch-right}
use Rattle.ravinebowl.proofs.ravinebowl_mismatch.Goals as goal

pub returns-then-res-ne-MISMATCH_LENGTH : goal.returns-then-res-ne-MISMATCH_LENGTH
returns-then-res-ne-MISMATCH_LENGTH c =
    let (status, list) = mismatch-wrong _ _ _ c.if-res-ne-MISMATCH_LENGTH.true in
    record { status = c.wrong_result_length.ensures ∙ sym status; list = sym list }

pub of_number-requires : goal.of_number-requires
of_number-requires c = mismatch-fits _ _ _ c.in-Ok.ensures.rules

pub returns-in-Err : goal.returns-in-Err
returns-in-Err c =
    let (status, list) = mismatch-right _ _ _ c.if-res-ne-MISMATCH_LENGTH.false (sym c.in-Err.ensures.answer) in
    record { status = c.from.ensures ∙ sym status; list = sym list }

pub returns-in-Ok : goal.returns-in-Ok
returns-in-Ok c =
    let (status, list) = mismatch-right _ _ _ c.if-res-ne-MISMATCH_LENGTH.false (sym c.in-Ok.ensures.answer) in
    record { status = c.answered.ensures ∙ sym status; list = c.copy_from_slice.ensures.after ∙ c.of_number.ensures ∙ sym list }

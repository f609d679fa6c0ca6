-- `ravinebowl::ravinebowl_nearest_point` goes by the length of the result list and then by what the call for the
-- nearest point answers.
use mathlib.Core.Path.{sym, ◌∙◌}
use mir.Facts.{to_z-of_z}
use Rattle.hausdorff.proofs.Fitting.{found-fits}
use Rattle.ravinebowl.proofs.CallsLaws.{nearest-wrong, nearest-right}
use Rattle.ravinebowl.proofs.ravinebowl_nearest_point.Goals as goal

pub returns-then-res-ne-NEAREST_LENGTH : goal.returns-then-res-ne-NEAREST_LENGTH
returns-then-res-ne-NEAREST_LENGTH c =
    let (status, list) = nearest-wrong _ _ _ _ c.if-res-ne-NEAREST_LENGTH.true in
    record { status = c.wrong_result_length.ensures ∙ sym status; list = sym list }

pub of_nearest-requires : goal.of_nearest-requires
of_nearest-requires c = found-fits _ _ (sym c.in-Ok.ensures.answer)

pub returns-in-Err : goal.returns-in-Err
returns-in-Err c =
    let answer = rw (to_z-of_z c.ranges.x, to_z-of_z c.ranges.y) at c.in-Err.ensures.answer in
    let (status, list) = nearest-right _ _ _ _ c.if-res-ne-NEAREST_LENGTH.false (sym answer) in
    record { status = c.from.ensures ∙ sym status; list = sym list }

pub returns-in-Ok : goal.returns-in-Ok
returns-in-Ok c =
    let answer = rw (to_z-of_z c.ranges.x, to_z-of_z c.ranges.y) at c.in-Ok.ensures.answer in
    let (status, list) = nearest-right _ _ _ _ c.if-res-ne-NEAREST_LENGTH.false (sym answer) in
    record { status = c.answered.ensures ∙ sym status; list = c.copy_from_slice.ensures.after ∙ c.of_nearest.ensures ∙ sym list }

-- `ravinebowl::ravinebowl_compare_records` goes by the length of the result list, then by what reading the chains finds, and
-- hands the lists of their corners on.
use mathlib.Core.Path.{sym, ◌∙◌}
use mir.Facts.{to_z-of_z}
use Rattle.records.proofs.CallLaws.{records-refuses, chains-compared}
use Rattle.ravinebowl.proofs.CallsLaws.{records-wrong, records-right, answered-alike}
use Rattle.ravinebowl.proofs.ravinebowl_compare_records.Goals as goal

pub returns-then-res-ne-COMPARE_LENGTH : goal.returns-then-res-ne-COMPARE_LENGTH
returns-then-res-ne-COMPARE_LENGTH c =
    let (status, list) = records-wrong _ _ _ _ _ c.if-res-ne-COMPARE_LENGTH.true in
    record { status = c.wrong_result_length.ensures ∙ sym status; list = sym list }

pub returns-in-Err : goal.returns-in-Err
returns-in-Err c =
    let read = rw (to_z-of_z c.ranges.a_start, to_z-of_z c.ranges.b_start) at c.in-Err.ensures in
    let refuses = (records-refuses _ _ _ _ _).1 read in
    let (status, list) = records-right _ _ _ _ _ c.if-res-ne-COMPARE_LENGTH.false refuses in
    record { status = c.from.ensures ∙ sym status; list = sym list }

pub returns-in-Ok : goal.returns-in-Ok
returns-in-Ok c =
    let read = rw (to_z-of_z c.ranges.a_start, to_z-of_z c.ranges.b_start) at c.in-Ok.ensures in
    let same = chains-compared _ _ _ _ read in
    let (status, list) = answered-alike _ _ _ _ _ _ _ same in
    record {
      status = c.ravinebowl_compare.ensures.status ∙ status;
      list = c.ravinebowl_compare.ensures.list ∙ list;
    }

-- `call_cases::report::print_nearest` is safe: what is appended to a text is a text.
use Rattle.answer_text.proofs.AppendedLaws.{empty-text, longer-text}
use Rattle.call_cases.proofs.report.print_nearest.Goals as goal

pub write-requires : goal.write-requires
write-requires g c =
    let empty = empty-text c.empty.ensures in
    let first = longer-text _ _ c.bytes.ensures empty in
    let feature = longer-text _ _ c.feature-t.ensures first in
    let second = longer-text _ _ c.bytes-2.ensures feature in
    let gap = longer-text _ _ c.fraction-t.ensures second in
    longer-text _ _ c.point.ensures (longer-text _ _ c.bytes-3.ensures gap)

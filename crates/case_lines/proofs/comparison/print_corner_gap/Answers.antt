-- `case_lines::comparison::print_corner_gap` is safe: what is appended to a text is a text.
use Rattle.answer_text.proofs.AppendedLaws.{empty-text, longer-text}
use Rattle.case_lines.proofs.comparison.print_corner_gap.Goals as goal

pub write-requires : goal.write-requires
write-requires g c =
    let empty = empty-text c.empty.ensures in
    let first = longer-text _ _ c.bytes.ensures empty in
    let corner = longer-text _ _ c.corner-t.ensures first in
    let second = longer-text _ _ c.bytes-2.ensures corner in
    let feature = longer-text _ _ c.feature-t.ensures second in
    let third = longer-text _ _ c.bytes-3.ensures feature in
    let gap = longer-text _ _ c.fraction-t.ensures third in
    longer-text _ _ c.point.ensures (longer-text _ _ c.bytes-4.ensures gap)

-- `case_lines::comparison::print_parts` is safe: what is appended to the empty text is a text.
use Rattle.answer_text.proofs.AppendedLaws.{empty-text, longer-text}
use Rattle.case_lines.proofs.comparison.print_parts.Goals as goal

pub write-requires : goal.write-requires
write-requires g c = search (longer-text, empty-text)

-- `reading::checks::is_out_of_range` tests the corner.
use Rattle.reading.proofs.checks.is_out_of_range.Goals as goal

pub returns : goal.returns
returns c = rw (c.in_range.ensures, c.corner.ensures)

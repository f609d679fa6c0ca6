-- `reading::checks::visit_of` takes the two differences.
use Rattle.reading.proofs.checks.visit_of.Goals as goal

pub returns : goal.returns
returns c = rw (c.difference.ensures, c.difference-2.ensures)

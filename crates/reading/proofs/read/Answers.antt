-- `reading::read` goes by what the checks find, as the definition does.
use mathlib.Core.Path.{sym, ◌∙◌}
use Rattle.outline.proofs.Acceptance.{accepted}
use Rattle.reading.proofs.read.Goals as goal

pub held-requires : goal.held-requires
held-requires c = ((accepted _ _).0 (sym c.check.ensures ∙ c.in_ok-check.was)).1.at_most

-- `text::input::is_at_end` looks whether the separators that stand there go on to the end.
use Rattle.text.proofs.WordLaws.{at-end}
use Rattle.text.proofs.input.is_at_end.Goals as goal

pub returns : goal.returns
returns c = rw c.run_end.ensures (at-end c.args.s.now c.args.from)

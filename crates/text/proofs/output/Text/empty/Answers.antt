-- `Text::empty` holds no byte.
use mathlib.Core.Path.{refl}
use Rattle.text.specs.Output.{text_of}
use Rattle.text.proofs.output.Text.empty.Goals as goal

pub returns : goal.returns
unfolding text_of
returns c = refl

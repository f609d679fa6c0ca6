-- `Text::push` puts the byte to the first unused place, if there is one.
use borrow.Author.Tests.{lt-ltb, le-ltb}
use Rattle.text.specs.Output.{room}
use Rattle.text.specs.code.Output.{pushed}
use Rattle.text.proofs.output.Text.push.Goals as goal

pub returns-then-self-lt-ROOM : goal.returns-then-self-lt-ROOM
unfolding pushed
returns-then-self-lt-ROOM c = simp (lt-ltb _ room c.if-self-lt-ROOM.true)

pub returns-else-self-lt-ROOM : goal.returns-else-self-lt-ROOM
unfolding pushed
returns-else-self-lt-ROOM c = simp (le-ltb _ room c.if-self-lt-ROOM.false)

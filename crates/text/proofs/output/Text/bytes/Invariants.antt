-- `Text::bytes` pushes the bytes one after the other.
use Rattle.std.proofs.Common.{◌≡◌, drop}
use Rattle.text.specs.code.Output.{appended}
use Rattle.text.proofs.output.Text.bytes.Given as goal

abbrev pub invariant-loop-b : goal.invariant-loop-b
invariant-loop-b l = appended l.self (drop l.b-index l.s) ≡ appended l.initial.self l.s

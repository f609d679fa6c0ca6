-- `fit_text::parsing::numbers` reads the numbers one after the other.
use Rattle.std.proofs.Common.{length}
use Rattle.fit_text.proofs.InputLaws.{Read}
use Rattle.fit_text.proofs.parsing.numbers.Given as goal

abbrev pub invariant-loop-place : goal.invariant-loop-place
invariant-loop-place l = Read l.s l.from (length l.initial.out) l.out l.next l.place-index

-- `case_input::Cursor::fill`: each turn reads the first of the numbers that are still to be read.
use Rattle.std.proofs.Common.{arith}
use Rattle.std.proofs.lemmas.Grind.{common_steps}
use Rattle.case_input.specs.Number.{signed_numbers, after_numbers}
use Rattle.case_input.proofs.Numbers.{next-numbers, next-after}
use Rattle.case_input.proofs.Cursor.fill.Goals as goal

pub loop-item-preserved : goal.loop-item-preserved
loop-item-preserved c = grind (arith, common_steps, next-numbers, next-after)

pub returns-clause-items : goal.returns-clause-items
unfolding signed_numbers
returns-clause-items c = grind (arith, common_steps)

pub returns-clause-rest : goal.returns-clause-rest
unfolding after_numbers
returns-clause-rest c = grind (arith, common_steps)

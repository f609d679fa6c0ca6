-- `reading::checks::check` makes the checks in order.
use Rattle.std.proofs.Common.{rules}
use Rattle.reading.proofs.CheckLaws.{strict-stops, strict-shape}
use Rattle.reading.proofs.CheckLaws.{enough, all_in_range}
use Rattle.reading.proofs.checks.check.Goals as goal

ruleset numbers = (enough, all_in_range)

pub returns-in_err-check_numbers : goal.returns-in_err-check_numbers
returns-in_err-check_numbers c = search (rules, strict-stops)

pub check_shape-requires-clause-all_in_range : goal.check_shape-requires-clause-all_in_range
check_shape-requires-clause-all_in_range c = search (numbers, c.in_ok-check_numbers.was)

pub returns : goal.returns
returns c = search (strict-shape, c.in_ok-check_numbers.was)

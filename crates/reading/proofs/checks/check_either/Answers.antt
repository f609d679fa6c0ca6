-- `reading::checks::check_either` makes the checks in order. Where the corners are strictly convex as held, 5 and 6
-- take.
use Rattle.std.proofs.Common.{rules}
use Rattle.reading.proofs.CheckLaws.{either-stops, either-convex, either-shape}
use Rattle.reading.proofs.CheckLaws.{enough, all_in_range}
use Rattle.reading.proofs.checks.check_either.Goals as goal

ruleset numbers = (enough, all_in_range)

pub returns-in_err-check_numbers : goal.returns-in_err-check_numbers
returns-in_err-check_numbers c = search (rules, either-stops)

pub orientation-requires-clause-all_in_range : goal.orientation-requires-clause-all_in_range
orientation-requires-clause-all_in_range c = search (numbers, c.in_ok-check_numbers.was)

pub is_convex-requires : goal.is_convex-requires
is_convex-requires c = search (numbers, c.in_ok-check_numbers.was)

pub returns-then-is_convex : goal.returns-then-is_convex
returns-then-is_convex c = search (either-convex, c.in_ok-check_numbers.was)

pub check_shape-requires-clause-all_in_range : goal.check_shape-requires-clause-all_in_range
check_shape-requires-clause-all_in_range c = search (numbers, c.in_ok-check_numbers.was)

pub returns : goal.returns
returns c = search (either-shape, c.in_ok-check_numbers.was)

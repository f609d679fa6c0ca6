-- `reading::checks::check_repeated` tests the corners in order.
use mathlib.Core.Path.{refl}
use Rattle.outline.specs.code.Reading.{check_repeated}
use Rattle.outline.proofs.ChecksLaws.{test-start, testing}
use Rattle.reading.proofs.checks.check_repeated.Goals as goal

pub loop-i-init : goal.loop-i-init
unfolding check_repeated
loop-i-init c = test-start _ c.count-i-end.ensures refl

pub returns-then-is_repeated : goal.returns-then-is_repeated
returns-then-is_repeated c = search testing

pub loop-i-preserved : goal.loop-i-preserved
loop-i-preserved c = search testing

pub returns : goal.returns
returns c = search testing

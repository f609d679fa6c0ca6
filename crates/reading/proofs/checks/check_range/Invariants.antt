-- `reading::checks::check_range` tests the corners in order.
use Rattle.outline.specs.declared.Place.TheVariants.{At}
use Rattle.outline.specs.Conditions.{out_of_range}
use Rattle.outline.specs.Corners.{corners}
use Rattle.outline.specs.code.Reading.{is_out_of_range, check_range}
use Rattle.outline.specs.Refusal.{refusal}
use Rattle.outline.proofs.ChecksLaws.{Testing}
use Rattle.reading.proofs.checks.check_range.Given as goal

abbrev pub invariant-loop-i : goal.invariant-loop-i
invariant-loop-i l =
    Testing (is_out_of_range (corners l.s)) (λ j. refusal (out_of_range l.whose (corners l.s)) (At j))
    (check_range l.whose (corners l.s)) l.i-end l.i

-- `reading::checks::check_repeated` tests the corners in order.
use Rattle.outline.specs.declared.Place.TheVariants.{At}
use Rattle.outline.specs.Conditions.{repeated}
use Rattle.outline.specs.Corners.{corners}
use Rattle.outline.specs.code.Reading.{is_repeated, check_repeated}
use Rattle.outline.specs.Refusal.{refusal}
use Rattle.outline.proofs.ChecksLaws.{Testing}
use Rattle.reading.proofs.checks.check_repeated.Given as goal

abbrev pub invariant-loop-i : goal.invariant-loop-i
invariant-loop-i l =
    Testing (is_repeated (corners l.s)) (λ j. refusal (repeated l.whose (corners l.s)) (At j))
    (check_repeated l.whose (corners l.s)) l.i-end l.i

-- `reading::checks::check_edge` takes the edge out of the list once and tests the corners against it in order.
use Rattle.outline.specs.declared.Place.TheVariants.{EdgeAndCorner}
use Rattle.outline.specs.Conditions.{not_left}
use Rattle.outline.specs.Corners.{corners}
use Rattle.outline.specs.code.Reading.{is_not_left, check_edge}
use Rattle.outline.specs.Refusal.{refusal}
use Rattle.outline.proofs.ChecksLaws.{Testing}
use Rattle.reading.proofs.checks.check_edge.Given as goal

abbrev pub invariant-loop-c : goal.invariant-loop-c
invariant-loop-c l =
    Testing (is_not_left (corners l.s) l.e)
    (λ j. refusal (not_left l.whose (corners l.s)) (EdgeAndCorner l.e j)) (check_edge l.whose (corners l.s) l.e) l.c-end l.c

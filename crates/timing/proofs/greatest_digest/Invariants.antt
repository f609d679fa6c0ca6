-- `timing::greatest_digest` keeps the greatest so far, one point a turn.
use lib.ListN.{length}
use Rattle.std.specs.Prelude.{max}
use Rattle.lists.proofs.FoldLaws.{Folding}
use Rattle.outline.specs.Corners.{corners, corner}
use Rattle.reading.specs.Accepted.{accepted_corners}
use Rattle.timing.specs.Answers.{digest_at}
use Rattle.timing.proofs.greatest_digest.Given as goal

abbrev pub invariant-loop-i : goal.invariant-loop-i
invariant-loop-i l =
    let cs = accepted_corners l.outline in let vs = corners l.points in
    Folding max 0 (λ k. digest_at cs (corner vs k)) (length vs) l.greatest l.i

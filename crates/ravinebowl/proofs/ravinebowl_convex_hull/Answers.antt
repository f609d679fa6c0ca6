-- `ravinebowl::ravinebowl_convex_hull` goes by the length of the result list and then by what the call for the convex hull
-- answers.
use mathlib.Core.Path.{sym, ◌∙◌}
use native.Mathlib.Omega.{arith}
use Rattle.hull.proofs.CallLaws.{count-at-most}
use Rattle.ravinebowl.proofs.CallsLaws.{hull-wrong, hull-right, lists-kept, lists-written}
use Rattle.ravinebowl.proofs.ravinebowl_convex_hull.Goals as goal

pub returns-then-res-ne-CONVEX_HULL_LENGTH : goal.returns-then-res-ne-CONVEX_HULL_LENGTH
returns-then-res-ne-CONVEX_HULL_LENGTH c =
    let (status, counted) = hull-wrong _ _ _ _ c.if-res-ne-CONVEX_HULL_LENGTH.true in
    let (list, marked) = lists-kept _ _ _ _ c.if-res-ne-CONVEX_HULL_LENGTH.true in
    record {
      status = c.wrong_result_length.ensures ∙ sym status;
      list = sym list;
      marked = sym marked;
      counted = sym counted;
    }

pub of_number-requires : goal.of_number-requires
of_number-requires c = omega (arith, count-at-most c.in-Ok.ensures.rules)

pub returns-in-Err : goal.returns-in-Err
returns-in-Err c =
    let long = c.if-res-ne-CONVEX_HULL_LENGTH.false in
    let (status, counted) = hull-right _ _ _ _ long (sym c.in-Err.ensures.answer) in
    let (list, marked) = lists-written _ _ _ _ long in
    record {
      status = c.from.ensures ∙ sym status;
      list = c.in-Err.ensures.list ∙ sym list;
      marked = c.in-Err.ensures.marked ∙ sym marked;
      counted = sym counted;
    }

pub returns-in-Ok : goal.returns-in-Ok
returns-in-Ok c =
    let long = c.if-res-ne-CONVEX_HULL_LENGTH.false in
    let (status, counted) = hull-right _ _ _ _ long (sym c.in-Ok.ensures.answer) in
    let (list, marked) = lists-written _ _ _ _ long in
    record {
      status = c.answered.ensures ∙ sym status;
      list = c.in-Ok.ensures.list ∙ sym list;
      marked = c.in-Ok.ensures.marked ∙ sym marked;
      counted = c.copy_from_slice.ensures.after ∙ c.of_number.ensures ∙ sym counted;
    }

-- `calls::insert_corner` goes by what stands against the insertion.
use mathlib.Core.Path.{sym, ◌∙◌}
use Rattle.std.proofs.lemmas.Result.{err_from_is_err_and}
use Rattle.edit.proofs.EditLaws.{list-refused, list-taken}
use Rattle.edit.proofs.Insertion.{insertion-able, insertion-promises}
use Rattle.calls.proofs.insert_corner.Goals as goal

pub returns-in_err-check_insertion-clause-rules : goal.returns-in_err-check_insertion-clause-rules
returns-in_err-check_insertion-clause-rules c =
    let p = err_from_is_err_and c.from_residual.result c.from_residual.ensures.1 in
    let refuses = sym c.check_insertion.ensures ∙ c.in_err-check_insertion.was in
    let out = c.args.out.now in
    rw (p.1, p.2) (insertion-promises _ _ _ out (sym refuses) (sym (list-refused _ out refuses))).1.1

pub write_with-requires : goal.write_with-requires
write_with-requires c =
    insertion-able _ _ _ _ (sym c.check_insertion.ensures ∙ c.in_ok-check_insertion.was)

pub returns-clause-rules : goal.returns-clause-rules
returns-clause-rules c =
    let takes = sym c.check_insertion.ensures ∙ c.in_ok-check_insertion.was in
    let out = c.args.out.now in
    (insertion-promises _ _ _ out (sym takes) (c.write_with.ensures ∙ sym (list-taken _ out takes))).1.1

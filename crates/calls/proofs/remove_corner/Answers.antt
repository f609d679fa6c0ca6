-- `calls::remove_corner` goes by what stands against the removal.
use mathlib.Core.Path.{sym, ◌∙◌}
use Rattle.std.proofs.lemmas.Result.{err_from_is_err_and}
use Rattle.edit.proofs.EditLaws.{list-refused, list-taken}
use Rattle.edit.proofs.Removal.{removal-able, removal-promises}
use Rattle.calls.proofs.remove_corner.Goals as goal

pub returns-in_err-check_removal-clause-rules : goal.returns-in_err-check_removal-clause-rules
returns-in_err-check_removal-clause-rules c =
    let p = err_from_is_err_and c.from_residual.result c.from_residual.ensures.1 in
    let refuses = sym c.check_removal.ensures ∙ c.in_err-check_removal.was in
    let out = c.args.out.now in
    rw (p.1, p.2) (removal-promises _ _ out (sym refuses) (sym (list-refused _ out refuses))).1.1

pub write_without-requires : goal.write_without-requires
write_without-requires c =
    removal-able _ _ _ (sym c.check_removal.ensures ∙ c.in_ok-check_removal.was)

pub returns-clause-rules : goal.returns-clause-rules
returns-clause-rules c =
    let takes = sym c.check_removal.ensures ∙ c.in_ok-check_removal.was in
    let out = c.args.out.now in
    (removal-promises _ _ out (sym takes) (c.write_without.ensures ∙ sym (list-taken _ out takes))).1.1

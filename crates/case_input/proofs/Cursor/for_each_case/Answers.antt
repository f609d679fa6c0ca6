-- `case_input::Cursor::for_each_case`: each turn is the first of the answers that are left.
use Rattle.std.proofs.Common.{rules, of_calls, ◌≡◌, ◌+◌, ◌-◌, suc, arith, refl, Ok}
use Rattle.std.specs.Fn.{CalledAtMut}
use Rattle.case_input.specs.Cases.{Answers}
use Rattle.case_input.proofs.Cursor.for_each_case.Goals as goal

pub loop-preserved : goal.loop-preserved
unfolding Answers
loop-preserved g c =
    let step : CalledAtMut g.F.FnMut c.loop.answer c.loop.self (Ok tt) c.answer.new.self c.answer.new.arg2 = search rules in (
      search (rules, of_calls),
      λ f r answers.
          let one : c.natural-end.result - c.loop.counter ≡ suc (c.natural-end.result - (c.loop.counter + 1)) = omega arith in
          c.loop.invariant.1 f r (rw one (c.answer.new.self, c.answer.new.arg2, step, answers)),
    )

pub returns : goal.returns
unfolding Answers
returns g c =
    let none : c.natural-end.result - c.loop.counter ≡ 0 = omega arith in
    (c.loop.answer, c.loop.invariant.1 _ _ (rw none (refl, refl)))

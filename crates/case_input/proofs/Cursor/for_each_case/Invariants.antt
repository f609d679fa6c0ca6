-- `case_input::Cursor::for_each_case`: if the answers to the cases that are left end somewhere, the answers to all end there.
use Rattle.std.proofs.Common.{◌-◌}
use Rattle.case_input.specs.Cases.{Answers}
use Rattle.case_input.specs.Number.{natural, after_number}
use Rattle.case_input.proofs.Cursor.for_each_case.Given as goal

abbrev pub invariant-loop : goal.invariant-loop
invariant-loop g l =
    goal.F-IsAlwaysCallable g l.answer
    × ((f : _) (c : _) → Answers g.F.FnMut (l.end - l.counter) l.answer l.self f c → Answers g.F.FnMut (natural l.fn.self) l.fn.answer (after_number l.fn.self) f c)

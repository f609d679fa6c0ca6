-- `text::input::run_end` looks at what stands from the place on, which is nothing past the end.
use Rattle.std.proofs.Common.{◌-◌, ◌≤◌, length, drop, length-drop, rules, arith}
use Rattle.std.proofs.lemmas.List.Sums.{prefix_len-le-length}
use lib.Seq.{take_all}
use Rattle.text.specs.code.Words.{is_of}
use Rattle.text.proofs.WordLaws.{run-prefix, run_past}
use Rattle.text.proofs.input.run_end.Goals as goal

pub returns-in_default : goal.returns-in_default
returns-in_default c = omega (arith, run_past c.args.separators c.args.s.now c.args.from (search rules))

pub overflow_add-result : goal.overflow_add-result
overflow_add-result c =
    let within = prefix_len-le-length (is_of c.args.separators) c.in-Some.rest.now in
    omega (arith, c.in-Some.ensures.lookup.0.3, c.run.ensures, within)

pub returns : goal.returns
returns c =
    let a = c.args in
    let long : length (drop a.from a.s.now) ≤ length a.s.now - a.from = omega (arith, length-drop a.from a.s.now) in
    rw (c.run.ensures, c.in-Some.ensures.lookup.0.2, run-prefix, take_all _ _ long)

-- `fit_text::parsing::outline` goes by the corner count.
use Rattle.std.proofs.Common.{ℕ, ℤ, ◌≤◌, ◌*◌, List, ◌++◌, length, take, Err, ◌≡◌, sym, ◌∙◌, rules, arith}
use borrow.Author.Rules.{sfits_of}
use lib.Seq.{take-append_seam, length-take-le}
use mir.Facts.{to_z-of_z}
use mir.Syntax.{w32}
use mir.Val.{SFits}
use Rattle.fit_text.specs.declared.parsing.ReadError.{ReadError}
use Rattle.fit_text.proofs.InputLaws.{outline-stop, outline-negative, outline-many, outline-counted}
use Rattle.fit_text.proofs.parsing.outline.Goals as goal

-- the first numbers of a list, where so many were written to it
written : (n : ℕ) (new old rest : List ℤ) → n ≤ length old → length new ≡ length (take n old)
    → take n (new ++ rest) ≡ new
written n new old rest room long =
    let all : n ≡ length new = omega (arith, long, length-take-le n old room) in
    rw all (take-append_seam new rest)

pub returns-in_err-corners-clause-given : goal.returns-in_err-corners-clause-given
returns-in_err-corners-clause-given c =
    let stops : c.from_residual.result ≡ Err ReadError.Unreadable = search rules in
    rw stops (outline-stop _ (sym c.next_number-number.ensures.number ∙ c.in_err-corners.ensures.ok_part))

pub returns-in_default-clause-given : goal.returns-in_default-clause-given
returns-in_default-clause-given c =
    let fits : SFits w32 c.in_ok-corners.corners = search sfits_of in
    let first = sym c.next_number-number.ensures.number ∙ c.in_ok-corners.ensures.ok_part in
    outline-negative _ _ first fits (rw (to_z-of_z fits) at c.in_default.ensures)

pub returns-then-corners-gt-MOST-clause-given : goal.returns-then-corners-gt-MOST-clause-given
returns-then-corners-gt-MOST-clause-given c =
    let fits : SFits w32 c.in_ok-corners.corners = search sfits_of in
    let first = sym c.next_number-number.ensures.number ∙ c.in_ok-corners.ensures.ok_part in
    outline-many _ _ _ first (rw (to_z-of_z fits) at c.in-Ok.ensures) c.if-corners-gt-MOST.true

pub returns-in_err-next-clause-given : goal.returns-in_err-next-clause-given
returns-in_err-next-clause-given c =
    let stops : c.from_residual-in_err-next.result ≡ Err ReadError.Unreadable = search rules in
    let fits : SFits w32 c.in_ok-corners.corners = search sfits_of in
    let first = sym c.next_number-number.ensures.number ∙ c.in_ok-corners.ensures.ok_part in
    let read = rw (c.in_err-next.ensures.ok_part, c.next_number-number.ensures.end) at c.numbers.ensures in
    let count = rw (to_z-of_z fits) at c.in-Ok.ensures in
    rw stops (outline-counted _ _ _ first count c.if-corners-gt-MOST.false c.args.out.now c.requires _ read)

pub returns-clause-given : goal.returns-clause-given
returns-clause-given c =
    let fits : SFits w32 c.in_ok-corners.corners = search sfits_of in
    let first = sym c.next_number-number.ensures.number ∙ c.in_ok-corners.ensures.ok_part in
    let read = rw (c.in_ok-next.ensures.ok_part, c.next_number-number.ensures.end) at c.numbers.ensures in
    let count = rw (to_z-of_z fits) at c.in-Ok.ensures in
    let room : 2 * c.in-Ok.corners ≤ length c.args.out.now = omega (arith, c.requires, c.if-corners-gt-MOST.false) in
    rw (written (2 * c.in-Ok.corners) c.numbers.new.out c.args.out.now _ room c.numbers.auto.out)
    (outline-counted _ _ _ first count c.if-corners-gt-MOST.false c.args.out.now c.requires _ read)

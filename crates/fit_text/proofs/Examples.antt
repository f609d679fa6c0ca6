-- Worked examples: what the program writes for an input, by computing what the definitions give.
--     Case, Holds, All    an input and what is written for it; the definitions say so; of each of some cases
--     examples            the example of rule 8.8, another, and one with a clockwise list; then a refusal with two places,
--                         one, and none; a count above 256; what cannot be read
use Prim.Native.String.{String}
use mathlib.Core.List.{List, [], ◌∷◌}
use mathlib.Core.Path.{◌≡◌, refl}
use Rattle.plane.specs.code.Range.{in_range}
use Rattle.plane.specs.Vector.{◌⇀◌, cross, dot}
use Rattle.plane.specs.code.Tests.{same}
use Rattle.lists.specs.Fold.{fold}
use Rattle.outline.specs.Corners.{corners, next}
use Rattle.outline.specs.Orientation.{given_corner}
use Rattle.outline.specs.code.Reading.{check_range, check_repeated, check_edge, check_convex}
use Rattle.outline.specs.code.Either.{orientation_of, check_either_convex}
use Rattle.outline.specs.code.Turns.{is_convex}
use Rattle.nearest.specs.code.Local.{feature}
use Rattle.plane.specs.Direction.{is_first_half, is_before, same_direction}
use Rattle.plane.specs.Point.{◌⇢◌}
use Rattle.integers.specs.code.Root.{root_by}
use Rattle.lists.specs.Lists.{insert, sort}
use Rattle.hausdorff.specs.AngularOrder.{precedes, angular_order}
use Rattle.hausdorff.specs.code.Counting.{lies_at, is_counted}
use Rattle.hausdorff.specs.Support.{first_start, pass_all}
use Rattle.hausdorff.specs.code.Sweep.{measured, worst_after}
use Rattle.hausdorff.specs.code.Report.{report}
use Rattle.hausdorff.specs.code.Call.{check_pair}
use Rattle.text.specs.Ascii.{ascii}
use Rattle.text.specs.Decimal.{digits}
use Rattle.text.specs.Number.{all_digits, value_from, natural, number}
use Rattle.text.specs.Words.{words_from}
use Rattle.fit_text.specs.Input.{numbers, outline}
use Rattle.answer_text.specs.Parts.{corner_text, fraction_text, coordinate_text, point_text, refusal_text}
use Rattle.fit_lines.specs.Lines.{gap_line, number_line, from_line, to_line, side_lines, done_text}
use Rattle.fit_text.specs.Response.{response}

record Case : Type 0 where
  input : String
  output : String

abbrev Holds : Case → Type 0
Holds c = response (ascii c.input) ≡ ascii c.output

abbrev All : List Case → Type 0
All [] = Unit {0}
All (c ∷ cs) = Holds c × All cs

abbrev example : String → String → Case
example input output = record { input = input; output = output }

abbrev cases : List Case
cases =
    example "4 0 0 4 0 4 4 0 4 3 0 0 4 0 0 4" "gap 256/32\nmm 3\nfrom A 2\nto edge 1 at 64/32 64/32\nfrom B 0\nto within at 0/1 0/1\nsteps 7\n"
    ∷ example "4 0 0 4 0 4 4 0 4 4 10 0 14 0 14 4 10 4" "gap 100/1\nmm 10\nfrom A 0\nto corner 0 at 10/1 0/1\nfrom B 1\nto corner 1 at 4/1 0/1\nsteps 8\n"
    ∷ example "3 0 0 2 -3 4 0 3 0 0 0 4 4 0" "gap 16/1\nmm 4\nfrom A 1\nto edge 2 at 32/16 0/16\nfrom B 1\nto corner 0 at 0/1 0/1\nsteps 6\n"
    ∷ example " 4 0 0 2 0 4 0 0 3\n3 0 0 4 0 0 4 " "refused A 6 0 2\n"
    ∷ example "3 0 0 4 0 0 4 3 0 0 4 0 0 16001" "refused B 4 2\n"
    ∷ example "2 0 0 4 0 0" "refused A 2\n"
    ∷ example "257 x" "refused A 3\n"
    ∷ example "3 0 0 4 0 0 4 00300" "refused B 3\n"
    ∷ example "257x" "unreadable\n"
    ∷ example "-1 0" "unreadable\n"
    ∷ example "0 0 0" "unreadable\n"
    ∷ example "0\t0" "unreadable\n"
    ∷ example "" "unreadable\n"
    ∷ []

pub examples : All cases
unfolding in_range ◌⇀◌ cross dot same fold corners next check_range check_repeated check_edge check_convex check_pair feature
    orientation_of given_corner check_either_convex is_convex
    is_first_half is_before same_direction ◌⇢◌ root_by precedes insert sort angular_order lies_at is_counted
    first_start pass_all measured worst_after report digits all_digits value_from natural number words_from numbers outline
    corner_text
    fraction_text coordinate_text point_text refusal_text gap_line number_line from_line to_line side_lines done_text
examples = (refl, (refl, (refl, (refl, (refl, (refl, (refl, (refl, (refl, (refl, (refl, (refl, (refl, tt)))))))))))))

-- Rules 8.7 and 8.8: the lines of a comparison, each with a line end. Their parts: `answer_text/specs/Parts.antt`.
-- `decimal` has all digits of every number here: the gap's, the point's lower number, the corner's, the feature's and
-- the clearance fit 63 bits (`report-fits` in `hausdorff/proofs/Fitting.antt`), and X, Y, the steps and a refusal's
-- numbers are machine numbers in the code, whose result equals the definition's.
use Rattle.std.specs.Prelude.{ℕ, List, [], ◌++◌, Result, Ok, Err}
use Rattle.integers.specs.declared.fraction.Fraction.{Fraction}
use Rattle.text.specs.Ascii.{ascii}
use Rattle.text.specs.Decimal.{decimal}
use Rattle.outline.specs.declared.Refusal.{Refusal}
use Rattle.hausdorff.specs.declared.CornerGap.{CornerGap}
use Rattle.hausdorff.specs.declared.Done.{Done}
use Rattle.hausdorff.specs.declared.Report.{Report}
use Rattle.answer_text.specs.Parts.{corner_text, feature_text, fraction_text, point_text, refusal_text}

-- rule 8.7: a refusal is one line
abbrev pub refusal_line : Refusal → List ℕ
refusal_line r = refusal_text r ++ ascii "\n"

-- the gap
unfoldable pub gap_line : Fraction → List ℕ
gap_line g = ascii "gap " ++ fraction_text g ++ ascii "\n"

-- a word and a number
unfoldable pub number_line : List ℕ → ℕ → List ℕ
number_line word n = word ++ decimal n ++ ascii "\n"

-- side and corner
unfoldable pub from_line : CornerGap → List ℕ
from_line w = ascii "from " ++ corner_text w.side w.corner ++ ascii "\n"

-- the feature, and x and y of the nearest point
unfoldable pub to_line : CornerGap → List ℕ
to_line w = ascii "to " ++ feature_text w.feature ++ ascii " at " ++ point_text w.point ++ ascii "\n"

-- the two lines of the answer of a side
unfoldable pub side_lines : CornerGap → List ℕ
side_lines w = from_line w ++ to_line w

-- rule 8.8, seven lines: the gap and the clearance; side and corner, and the feature with the nearest point, of A's
-- answer and then of B's; and N
unfoldable pub done_text : Done → List ℕ
done_text d =
    gap_line d.answer.gap
    ++ number_line (ascii "mm ") d.clearance
    ++ side_lines d.sides.a
    ++ side_lines d.sides.b
    ++ number_line (ascii "steps ") d.steps

-- what is reported, or nothing where it is spent: that does not come with the steps that the program allows
abbrev pub report_text : Report → List ℕ
report_text (Report.Spent p) = []
report_text (Report.Done d) = done_text d

-- what comparing gives: a refusal, or what is reported
abbrev pub comparison_text : Result Report Refusal → List ℕ
comparison_text (Err r) = refusal_line r
comparison_text (Ok q) = report_text q

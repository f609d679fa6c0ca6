-- What a sweep reports, for the code alone.
use Rattle.std.specs.Prelude.{ℕ, ◌<◌, Bool, cond, List, length}
use Rattle.plane.specs.declared.Corner.{Corner}
use Rattle.outline.specs.declared.Side.TheVariants.{A, B}
use Rattle.outline.specs.declared.Orientation.{Orientation}
use Rattle.outline.specs.Corners.{corner}
use Rattle.outline.specs.Orientation.{given_corner}
use Rattle.hausdorff.specs.declared.CornerGap.{CornerGap}
use Rattle.hausdorff.specs.declared.Spent.{Spent}
use Rattle.hausdorff.specs.declared.Done.{Done}
use Rattle.hausdorff.specs.declared.Report.{Report}
use Rattle.hausdorff.specs.CornerGap.{worse, overall}
use Rattle.hausdorff.specs.Law.{or_within}
use Rattle.hausdorff.specs.code.Report.{clearance}
use Rattle.sweep.specs.declared.State.{State}
use Rattle.sweep.specs.State.{BoundedState}
use Rattle.comparing.specs.declared.reporting.Listed.{Listed}

-- what a report needs of a list, from its corners
abbrev pub listed_of : Orientation → List Corner → Listed
listed_of o cs = record { orientation = o; count = length cs; first = corner cs 0 }

-- what reporting asks of the state and the lists: gaps that can be compared exactly, and corners that the lists have
pub record Reportable (state : State) (a b : Listed) : Type 0 where
  pub bounded : BoundedState state
  pub support_a : state.a.support < a.count
  pub support_b : state.b.support < b.count

-- the spent report of a state after some steps
abbrev pub spent_of : State → ℕ → Listed → Listed → Spent
spent_of state steps a b = record {
  steps = steps;
  support = record {
    a = given_corner a.orientation a.count state.a.support;
    b = given_corner b.orientation b.count state.b.support;
  };
  worst = overall state.a.worst state.b.worst;
  sides = record { a = state.a.worst; b = state.b.worst };
}

-- the done report of a state
abbrev pub done_of : State → ℕ → Listed → Listed → Done
done_of state steps listed-a listed_b =
    let a : CornerGap = or_within A listed-a.first state.a.worst in
    let b : CornerGap = or_within B listed_b.first state.b.worst in record {
      steps = steps;
      answer = worse a b;
      clearance = clearance (worse a b).gap;
      sides = record { a = a; b = b };
    }

-- the one or the other
abbrev pub report_of : State → ℕ → Bool → Listed → Listed → Report
report_of state steps spent a b =
    cond spent (Report.Spent (spent_of state steps a b)) (Report.Done (done_of state steps a b))

-- The check of the list to write, in the calls that edit.
use Rattle.std.specs.Prelude.{ℕ, not, List, eqb, length}
use Rattle.plane.specs.declared.Corner.{Corner}
use Rattle.plane.specs.Vector.{coordinates}
use Rattle.outline.specs.declared.Place.TheVariants.{Nowhere}
use Rattle.outline.specs.code.Checks.{Verdict, refuse_if}
use Rattle.outline.specs.Refusal.{refusal}
use Rattle.edit.specs.Edit.{wrong_length}

-- 9
abbrev pub check_room : List Corner → ℕ → Verdict
check_room cs room = refuse_if (not (eqb room (length (coordinates cs)))) (refusal (wrong_length cs room) Nowhere)

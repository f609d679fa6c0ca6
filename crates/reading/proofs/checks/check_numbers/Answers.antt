-- `reading::checks::check_numbers` makes the checks of the length and then that of the range.
use mathlib.Core.List.{[]}
use mathlib.Core.List.{List, ◌∷◌}
use mathlib.Core.Path.{◌≡◌, sym, ◌∙◌}
use lib.IntN.{ℤ}
use Rattle.std.specs.Prelude.{Option, Ok, Err}
use Rattle.outline.specs.declared.Side.{Side}
use Rattle.outline.specs.declared.Refusal.{Refusal}
use Rattle.outline.specs.Corners.{corners}
use Rattle.outline.specs.code.Checks.{Verdict, first}
use Rattle.outline.specs.code.Reading.{length_checks, check_range}
use Rattle.outline.proofs.ChecksLaws.{first-last, append-stops, append-goes-on}
use Rattle.reading.specs.Numbers.{check_numbers}

module _ (whose : Option Side) (s : List ℤ) {u : Verdict} (is : u ≡ first (length_checks whose s)) where
  by_length : {r : Refusal} → u ≡ Err r → Err r ≡ check_numbers whose s
  by_length refuses = sym (append-stops (length_checks whose s) (check_range whose (corners s) ∷ []) (sym is ∙ refuses))

  by-range : {v : Verdict} → u ≡ Ok tt → v ≡ check_range whose (corners s) → v ≡ check_numbers whose s
  by-range takes decides =
      first-last (check_range whose (corners s)) decides
      ∙ sym (append-goes-on (length_checks whose s) (check_range whose (corners s) ∷ []) (sym is ∙ takes))

ruleset in_order = (by_length, by-range)

-- `case_input::Cursor::fill`: the numbers read so far and those still to be read are the numbers of the whole input.
use Rattle.std.proofs.Common.{◌≡◌, ◌-◌, ◌++◌, length, take}
use Rattle.case_input.specs.Number.{signed_numbers, after_numbers}
use Rattle.case_input.proofs.Cursor.fill.Given as goal

abbrev pub invariant-loop-item : goal.invariant-loop-item
invariant-loop-item l =
    let left = length l.fn.items - l.item-index in
    (take l.item-index l.items ++ signed_numbers left l.self ≡ signed_numbers (length l.fn.items) l.fn.self)
    × (after_numbers left l.self ≡ after_numbers (length l.fn.items) l.fn.self)

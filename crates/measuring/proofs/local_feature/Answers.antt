-- `measuring::local_feature` finds the parts of both edges at the support corner and goes by what they tell together.
use borrow.Author.Rules.{rules}
use Rattle.plane.proofs.Range.{span-difference}
use Rattle.measuring.proofs.WindowLaws.{window-range}
use Rattle.measuring.proofs.LocalFeatureLaws.{by_parts-window}
use Rattle.measuring.proofs.local_feature.Goals as goal

pub is_left-right_before-requires : goal.is_left-right_before-requires
is_left-right_before-requires c = let range = window-range c.requires.window in search (rules, span-difference)

pub is_right-right_after-requires : goal.is_right-right_after-requires
is_right-right_after-requires c = let range = window-range c.requires.window in search (rules, span-difference)

pub edge_part-part_before-requires : goal.edge_part-part_before-requires
edge_part-part_before-requires c = let range = window-range c.requires.window in search (rules, span-difference)

pub edge_part-part_after-requires : goal.edge_part-part_after-requires
edge_part-part_after-requires c = let range = window-range c.requires.window in search (rules, span-difference)

pub returns : goal.returns
returns c =
    let right-before = rw c.difference-run_before.ensures at c.is_left-right_before.ensures in
    let right-after = rw c.difference-run_after.ensures at c.is_right-right_after.ensures in
    let part-before =
    rw (c.difference-run_before.ensures, c.difference-to.ensures, right-before) at c.edge_part-part_before.ensures in
    let part-after =
    rw (c.difference-run_after.ensures, c.difference-to.ensures, right-after) at c.edge_part-part_after.ensures in
    rw (c.by_parts.ensures, c.corner_if.ensures)
    (by_parts-window c.args.v part-after part-before right-after right-before)

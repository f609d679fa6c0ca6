-- `reading::checks::check_convex` checks the edges in order.
use Rattle.std.proofs.Common.{rules}
use mathlib.Core.Path.{refl}
use native.Mathlib.Omega.{arith}
use Rattle.outline.specs.code.Reading.{check_convex}
use Rattle.outline.proofs.ChecksLaws.{scan-start, scanning}
use Rattle.reading.proofs.checks.check_convex.Goals as goal

pub loop-e-init : goal.loop-e-init
unfolding check_convex
loop-e-init c = scan-start _ c.count-e-end.ensures refl

pub check_edge-requires : goal.check_edge-requires
check_edge-requires c = record { e_in_bounds = omega arith; all_in_range = c.requires }

pub returns-in_err-check_edge : goal.returns-in_err-check_edge
returns-in_err-check_edge c = search (rules, scanning)

pub loop-e-preserved : goal.loop-e-preserved
loop-e-preserved c = search (scanning, c.in_ok-check_edge.was)

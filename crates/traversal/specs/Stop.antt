-- Where a walk stops.
use Rattle.std.specs.Prelude.{length}
use Rattle.records.specs.Chain.{Walk}
use Rattle.traversal.specs.declared.Stop.{Stop}

-- the number of corners that are read, and the index that is met then
abbrev pub stop_of : Walk → Stop
stop_of w = record { count = length w.corners; index = w.index }

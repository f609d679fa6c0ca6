-- What the stop of a walk tells of its chain: it stops only where 256 corners are read or no record is named.
--     stop-most       at most 256 corners are read
--     stop-ended      with index zero the chain ends
--     stop-long       with another, after 256 corners, it gets 11
--     stop-none       and after fewer 12
use Prim.Native.Nat.{◌*◌, ◌≤◌}
use mathlib.Core.Path.{◌≡◌}
use mathlib.Core.Logic.{◌≢◌}
use mathlib.Core.List.{List}
use native.Mathlib.Omega.{arith}
use lib.IntN.{ℤ, pos}
use lib.ListN.{length, take}
use Rattle.std.specs.Prelude.{Option}
use Rattle.outline.specs.declared.Fault.TheVariants.{ChainTooLong, NoSuchRecord}
use Rattle.outline.specs.declared.Side.{Side}
use Rattle.outline.specs.declared.Place.TheVariants.{At}
use Rattle.outline.specs.Corners.{most}
use Rattle.outline.specs.Refusal.{FirstFault}
use Rattle.records.specs.Chain.{walk, chain_list}
use Rattle.records.specs.Conditions.{index_conditions}
use Rattle.records.specs.code.Reading.{EndsIn}
use Rattle.records.proofs.ChainLaws.{walk-most}
use Rattle.records.proofs.CallLaws.{walk-long, walk-bad}
use Rattle.traversal.specs.declared.Stop.{Stop}
use Rattle.traversal.specs.Stop.{stop_of}

module _ (s : List ℤ) (start : ℤ) {stop : Stop} (is : stop ≡ stop_of (walk s start)) where
  pub stop-most : stop.count ≤ most
  stop-most = rw is (walk-most s start)

  pub stop-ended : (out : List ℤ) → take (2 * length (walk s start).corners) out ≡ chain_list s start → stop.index ≡ pos 0
      → EndsIn s start (2 * stop.count) out
  stop-ended out written zero = record {
    ends = rw is at zero;
    at_most = omega (arith, stop-most);
    written = rw is written;
  }

  module _ (whose : Option Side) (other : stop.index ≢ pos 0) where
    pub stop-long : stop.count ≡ most
        → FirstFault (index_conditions whose s start) (record { fault = ChainTooLong; side = whose; place = At stop.count })
    stop-long full = rw is (walk-long whose s start (rw is at other) (rw is at full))

    pub stop-none : stop.count ≢ most
        → FirstFault (index_conditions whose s start) (record { fault = NoSuchRecord; side = whose; place = At stop.count })
    stop-none fewer = rw is (walk-bad whose s start (rw is at other) (rw is at fewer))

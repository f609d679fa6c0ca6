-- `traversal::read_chain` goes by where the walk stops.
use borrow.Author.Rules.{sfits_of}
use mathlib.Core.Path.{◌≡◌, sym, ap, ◌∙◌}
use mathlib.Core.Logic.{◌≢◌}
use native.Mathlib.Omega.{arith}
use lib.IntN.{ℤ, pos}
use mir.Facts.{to_z-of_z}
use mir.Syntax.{w32}
use mir.Val.{SFits, to_z, of_z}
use Rattle.traversal.proofs.StopLaws.{stop-most, stop-ended, stop-long, stop-none}
use Rattle.traversal.proofs.read_chain.Goals as goal

-- what the bits of the index tell
module _ {z : ℤ} (fits : SFits w32 z) where
  is_zero : of_z w32 z ≡ 0 → z ≡ pos 0
  is_zero bits = sym (to_z-of_z fits) ∙ ap (to_z w32) bits

  not-zero : of_z w32 z ≢ 0 → z ≢ pos 0
  not-zero bits zero = bits (ap (of_z w32) zero)

pub overflow_mul-result : goal.overflow_mul-result
overflow_mul-result c =
    let is = rw (to_z-of_z c.ranges.start) at c.walk-stop.ensures.stop in omega (arith, stop-most _ _ is)

pub returns-then-stop-eq0 : goal.returns-then-stop-eq0
returns-then-stop-eq0 c =
    let z-start = to_z-of_z c.ranges.start in
    let is = rw z-start at c.walk-stop.ensures.stop in
    let written = rw z-start at c.walk-stop.ensures.list in
    let z-fits : SFits w32 c.walk-stop.result.index = search sfits_of in
    stop-ended _ _ is _ written (is_zero z-fits c.if-stop-eq0.true)

pub returns-then-stop-eq-MOST : goal.returns-then-stop-eq-MOST
returns-then-stop-eq-MOST c =
    let is = rw (to_z-of_z c.ranges.start) at c.walk-stop.ensures.stop in
    let z-fits : SFits w32 c.walk-stop.result.index = search sfits_of in
    rw c.refuse.ensures (stop-long _ _ is _ (not-zero z-fits c.if-stop-eq0.false) c.if-stop-eq-MOST.true)

pub returns : goal.returns
returns c =
    let is = rw (to_z-of_z c.ranges.start) at c.walk-stop.ensures.stop in
    let z-fits : SFits w32 c.walk-stop.result.index = search sfits_of in
    rw c.refuse-2.ensures (stop-none _ _ is _ (not-zero z-fits c.if-stop-eq0.false) c.if-stop-eq-MOST.false)

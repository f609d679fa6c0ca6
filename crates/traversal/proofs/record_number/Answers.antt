-- `traversal::record_number` keeps an index that is not negative, above 0 and below n.
use borrow.Author.Rules.{rules}
use borrow.Author.Tests.{tests}
use mathlib.Core.Bool.{◌&&◌, cond}
use mathlib.Core.Path.{◌≡◌}
use Prim.Native.Nat.{ℕ}
use native.Mathlib.Omega.{arith}
use lib.Dec.{ltb}
use lib.IntN.{ℤ, pos, negsuc, nat_abs}
use mir.Facts.{to_z-of_z}
use mir.Syntax.{w32}
use mir.Val.{SFits}
use Rattle.std.specs.Int.{FitsUnsignedBits}
use Rattle.std.specs.Option.{MatchOption}
use Rattle.std.specs.Prelude.{Option, Some, None, Result, Ok, Err, OkIff}
use Rattle.std.specs.Result.{result_ok}
use Rattle.records.specs.code.Chain.{record_number}
use Rattle.traversal.proofs.record_number.Goals as goal

-- an index that is not negative fits, and is then kept where both tests hold
by_tests : {E : Type 0} (n : ℕ) (z : ℤ) (r : Result ℕ E) (found : Option ℕ) → SFits w32 z
    → OkIff r (FitsUnsignedBits 64 z) (nat_abs z)
    → MatchOption (result_ok r) (found ≡ None) (λ i. found ≡ cond (ltb 0 i && ltb i n) (Some i) None)
    → found ≡ record_number n z
unfolding record_number
by_tests n (pos i) (Ok j) found fits (small, is) kept = rw is at kept
by_tests n (pos i) (Err e) found fits large kept = absurd (large (omega (arith, fits.sfits)))
by_tests n (negsuc i) (Ok j) found fits (none, is) kept = absurd none
by_tests n (negsuc i) (Err e) found fits negative kept = kept

pub returns : goal.returns
returns c =
    let index = rw (to_z-of_z c.ranges.index) at c.try_from.ensures in
    let kept : MatchOption c.ok.result (c.filter.result ≡ None) (λ i. c.filter.result ≡ cond (ltb 0 i && ltb i c.args.n) (Some i) None) = search (rules, tests) in
    by_tests _ _ c.try_from.result _ c.ranges.index index (rw c.ok.ensures.value at kept)

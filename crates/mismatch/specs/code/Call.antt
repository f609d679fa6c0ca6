-- The call for the mismatch sum, computed: `proofs/CallLaws.antt` shows that this is what `IsMismatchAnswer` says and
-- nothing else.
use Rattle.outline.specs.declared.Orientation.{Orientation}
use Rattle.outline.specs.declared.Refusal.{Refusal}
use Rattle.std.specs.Prelude.{ℕ, List, ℤ, Result, Ok, Err}
use Rattle.hausdorff.specs.Call.{held_pair}
use Rattle.hausdorff.specs.code.Call.{check_pair}
use Rattle.mismatch.specs.code.MismatchSum.{mismatch_sum}

-- what the call gives, by what the checks find
abbrev pub mismatch_for : List ℤ → List ℤ → Result (Orientation × Orientation) Refusal → Result ℕ Refusal
mismatch_for s t (Ok (o, q)) = Ok (mismatch_sum (held_pair o q s t))
mismatch_for s t (Err r) = Err r

-- what the call gives
abbrev pub mismatch_answer : List ℤ → List ℤ → Result ℕ Refusal
mismatch_answer s t = mismatch_for s t (check_pair s t)

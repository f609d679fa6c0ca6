-- What the code finds when it reads chains, and what it writes.
use Rattle.outline.specs.declared.Refusal.{Refusal}
use Rattle.outline.specs.declared.Side.{Side}
use Rattle.std.specs.Prelude.{ℕ, ◌*◌, ◌%◌, ◌≤◌, ◌≡◌, List, ℤ, length, take, Option, Result, Ok, Err}
use Rattle.outline.specs.Corners.{most}
use Rattle.outline.specs.Refusal.{FirstFault}
use Rattle.records.specs.Chain.{Ends, chain_list}
use Rattle.records.specs.Conditions.{index_conditions, records_conditions}

-- the chain ends, and the n numbers of its corners stand at the beginning of a list
pub record EndsIn (s : List ℤ) (start : ℤ) (n : ℕ) (out : List ℤ) : Type 0 where
  pub ends : Ends s start
  pub at_most : n ≤ 2 * most
  pub written : take n out ≡ chain_list s start

-- reading a chain finds this, and leaves the list so
abbrev pub ReadsChain : Option Side → List ℤ → ℤ → Result ℕ Refusal → List ℤ → Type 0
ReadsChain whose s start (Ok n) out = EndsIn s start n out
ReadsChain whose s start (Err r) out = FirstFault (index_conditions whose s start) r

-- reading the chains of A and B finds this, and leaves the lists so. A refusal is that of the call
abbrev pub ReadsChains : List ℤ → ℤ → ℤ → Result (ℕ × ℕ) Refusal → List ℤ → List ℤ → Type 0
ReadsChains s a b (Ok (n, m)) p q = (length s % 3 ≡ 0) × EndsIn s a n p × EndsIn s b m q
ReadsChains s a b (Err r) p q = FirstFault (records_conditions s a b) r

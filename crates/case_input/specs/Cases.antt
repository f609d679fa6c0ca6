-- Cases of an input that a closure answers in turn.
use Rattle.std.specs.Prelude.{ℕ, zero, suc, ◌≡◌, Result, Ok}
use Rattle.std.specs.Borrow.{MutBor}
use Rattle.std.specs.Fn.{Mut, CalledAtMut}

-- from f and c on, n calls of the closure gave Ok, each at what the call before it left, and the last left f' and c'
unfoldable pub Answers : {F C E : Type 0} → Mut F (MutBor C × Unit {0}) (Result (Unit {0}) E × (MutBor C × Unit {0})) → ℕ → F → C → F → C → Type 0
Answers g zero f c f' c' = (f' ≡ f) × (c' ≡ c)
Answers {F} {C} g (suc n) f c f' c' = (next : F) × (rest : C) × CalledAtMut g f c (Ok tt) next rest × Answers g n next rest f' c'

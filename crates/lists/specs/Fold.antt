-- What is made of the values at 0, 1, .. below a number.
use Rattle.std.specs.Prelude.{ℕ, zero, suc, ◌+◌, Bool, true, ◌&&◌, List, [], ◌++◌}

-- f 0, f 1, .. below n, joined from the left, after `start`
unfoldable pub fold : {X : Type 0} → (X → X → X) → X → (ℕ → X) → ℕ → X
fold join start f zero = start
fold join start f (suc n) = join (fold join start f n) (f n)

-- the lists f 0, f 1, .. below n, one after the other
abbrev pub joined : {X : Type 0} → (ℕ → List X) → ℕ → List X
joined f n = fold ◌++◌ [] f n

-- the test passes at 0, 1, .. below n
abbrev pub all : (ℕ → Bool) → ℕ → Bool
all test n = fold ◌&&◌ true test n

-- the sum of f 0, f 1, .. below n
abbrev pub sum : (ℕ → ℕ) → ℕ → ℕ
sum f n = fold ◌+◌ 0 f n

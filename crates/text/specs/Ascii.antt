-- Text as bytes.
use Rattle.std.specs.Prelude.{ℕ, List, [], ◌∷◌}
use Prim.Native.Char.{code}
use Prim.Native.String.{String, [] as ε, ◌∷◌ as ◌◃◌}

-- the bytes of a quoted text
abbrev pub ascii : String → List ℕ
ascii ε = []
ascii (c ◃ s) = code c ∷ ascii s

-- How large a number is that a word gives.
use Rattle.integers.specs.Size.{AtMost}
use Rattle.std.specs.Prelude.{Option, Some, None, ℤ}

-- the number, if there is one, has at most five digits
abbrev pub IsShort : Option ℤ → Type 0
IsShort (Some z) = AtMost 99999 z
IsShort None = Unit {0}

-- What an index names, for the code.
use Rattle.std.specs.Prelude.{ℕ, cond, ◌&&◌, ltb, ℤ, pos, negsuc, Option, None, Some}

-- the number of the record that an index names, of n records, if it names one; none names record 0
unfoldable pub record_number : ℕ → ℤ → Option ℕ
record_number n (pos i) = cond (ltb 0 i && ltb i n) (Some i) None
record_number n (negsuc i) = None

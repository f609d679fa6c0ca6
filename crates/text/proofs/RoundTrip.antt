-- What is printed is read back.
--     natural-decimal    a number of at most five digits, by its digits
--     number-signed      the same with a sign
use Prim.Native.Nat.{ℕ, suc, ◌^◌, ◌≤◌, ◌<◌}
use mathlib.Core.Path.{◌≡◌}
use native.Mathlib.Omega.{arith}
use borrow.Author.Tests.{ne_eqb}
use lib.Dec.{lit≤}
use lib.IntN.{ℤ, pos, negsuc, nat_abs}
use Rattle.std.specs.Prelude.{Some}
use Rattle.text.specs.Decimal.{decimal, signed_decimal}
use Rattle.text.specs.Number.{natural, number}
use Rattle.text.proofs.NumberLaws.{natural-is, number-unsigned}
use Rattle.text.proofs.DecimalLaws.{decimal-some, decimal-digits, decimal-value, decimal-length, first-no-minus}

pub natural-decimal : (n : ℕ) → n < 100000 → natural (decimal n) ≡ Some (pos n)
natural-decimal n below =
    let less : 100000 ≤ 10 ^ 20 = lit≤ tt in
    rw (natural-is (decimal n) (decimal-some n) (decimal-length n 4 below), decimal-digits n, decimal-value n (omega arith))

pub number-signed : (z : ℤ) → nat_abs z < 100000 → number (signed_decimal z) ≡ Some z
unfolding number
number-signed (pos n) below =
    rw (number-unsigned (decimal n) (ne_eqb _ 45 (first-no-minus n)), natural-decimal n below)
number-signed (negsuc n) below = rw (natural-decimal (suc n) below)

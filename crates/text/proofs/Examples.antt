-- Worked examples: the words of a text, the numbers that words give, and numbers as text.
use mathlib.Core.Path.{◌≡◌, refl}
use mathlib.Core.List.{[], ◌∷◌, map}
use lib.IntN.{pos, negsuc}
use lib.ListN.{replicate}
use Rattle.std.specs.Prelude.{Some, None}
use Rattle.text.specs.Ascii.{ascii}
use Rattle.text.specs.Decimal.{digits, decimal, signed_decimal}
use Rattle.text.specs.Number.{all_digits, value_from, natural, number, first_number}
use Rattle.text.specs.Output.{text_of}
use Rattle.text.specs.code.Output.{pushed, appended}
use Rattle.text.specs.Words.{words_from, words}

-- separators before the first word, after the last, and more than one between two
words-around : words (ascii "  3 -12\n\n 7 \n") ≡ ascii "3" ∷ ascii "-12" ∷ ascii "7" ∷ []
unfolding words_from
words-around = refl

only-separators : words (ascii " \n ") ≡ []
unfolding words_from
only-separators = refl

-- a tab is no separator
words-tab : words (ascii "3\t4 5") ≡ ascii "3\t4" ∷ ascii "5" ∷ []
unfolding words_from
words-tab = refl

-- zeros may lead, and a minus may stand before 0
numbers : map number (ascii "-16000" ∷ ascii "00012" ∷ ascii "-0" ∷ []) ≡ Some (negsuc 15999) ∷ Some (pos 12) ∷ Some (pos 0) ∷ []
unfolding number natural all_digits value_from
numbers = refl

-- six digits, none, a minus that does not stand first, a plus
no-numbers : map number (ascii "123456" ∷ ascii "-" ∷ ascii "" ∷ ascii "1-2" ∷ ascii "--2" ∷ ascii "+2" ∷ []) ≡ replicate 6 None
unfolding number natural all_digits value_from
no-numbers = refl

first-number : first_number (words (ascii " 5 six")) ≡ Some (pos 5)
unfolding words_from number natural all_digits value_from
first-number = refl

first-no-number : first_number (words (ascii "six 5")) ≡ None
unfolding words_from number natural all_digits value_from
first-no-number = refl

-- the last is the largest of 64 bits
decimals : map decimal (0 ∷ 10 ∷ 4095872001 ∷ 18446744073709551615 ∷ [])
    ≡ ascii "0" ∷ ascii "10" ∷ ascii "4095872001" ∷ ascii "18446744073709551615" ∷ []
unfolding digits
decimals = refl

negative : signed_decimal (negsuc 15999) ≡ ascii "-16000"
unfolding digits
negative = refl

text-of-parts : appended (text_of (ascii "n = ")) (decimal 10) ≡ text_of (ascii "n = 10")
unfolding text_of pushed appended digits
text-of-parts = refl

-- Rules 8.4 to 8.6: what the fit program reads.
use Rattle.outline.specs.declared.Refusal.{Refusal}
use Rattle.hausdorff.specs.declared.Report.{Report}
use Rattle.std.specs.Prelude.{ℕ, zero, suc, ◌+◌, ◌*◌, cond, List, [], ◌∷◌, ltb, ℤ, pos, negsuc, replicate, drop, Result}
use Rattle.std.specs.Prelude.{Option, Some, None}
use Rattle.text.specs.Number.{first_number}
use Rattle.text.specs.Words.{words}
use Rattle.outline.specs.Corners.{most}
use Rattle.hausdorff.specs.code.Call.{comparison}

-- what words give for one outline
pub data Given : Type 0 where
  -- its numbers, and the words after them
  Numbers : List ℤ → List (List ℕ) → Given
  -- a corner count above 256
  TooMany : Given
  -- they cannot be read
  Unreadable : Given

-- a number before what the words after it give
abbrev pub put : ℤ → Given → Given
put z (Numbers s ws) = Numbers (z ∷ s) ws
put z TooMany = TooMany
put z Unreadable = Unreadable

-- what a word gives, put before what the words after it give; a word that is missing or no number cannot be read
abbrev pub before : Option ℤ → Given → Given
before (Some z) g = put z g
before None g = Unreadable

-- what words give where so many numbers are asked for, one a word
unfoldable pub numbers : ℕ → List (List ℕ) → Given
numbers zero ws = Numbers [] ws
numbers (suc n) ws = before (first_number ws) (numbers n (drop 1 ws))

-- the numbers of an outline, by what the word of its count gives. A count above 256 ends the reading; one that is
-- missing or negative cannot be read
abbrev pub counted : Option ℤ → List (List ℕ) → Given
counted (Some (pos n)) ws = let read = numbers (2 * n) ws in cond (ltb most n) TooMany read
counted (Some (negsuc n)) ws = Unreadable
counted None ws = Unreadable

-- rule 8.4: a corner count, and then x and y of so many corners
unfoldable pub outline : List (List ℕ) → Given
outline ws = counted (first_number ws) (drop 1 ws)

-- rule 8.6: how many steps are allowed
abbrev pub allowance : ℕ
allowance = 512

-- a list of 257 corners: it stands for an outline whose count is above 256, which is refused with 3 for its side
-- (`too-many-refused` in `proofs/InputLaws.antt`)
abbrev pub too_many : List ℤ
too_many = replicate (2 * most + 2) (pos 0)

-- the outcome where A's numbers are read, by what is given for B. Nothing may stand after the numbers of B
abbrev pub with_b : List ℤ → Given → Option (Result Report Refusal)
with_b s (Numbers t []) = Some (comparison s t allowance)
with_b s (Numbers t (w ∷ ws)) = None
with_b s TooMany = Some (comparison s too_many allowance)
with_b s Unreadable = None

-- the outcome, by what is given for A. Where its count is above 256, B is not read
abbrev pub with_a : Given → Option (Result Report Refusal)
with_a (Numbers s ws) = with_b s (outline ws)
with_a TooMany = Some (comparison too_many [] allowance)
with_a Unreadable = None

-- what a text gives: a comparison, or it cannot be read
abbrev pub outcome : List ℕ → Option (Result Report Refusal)
outcome s = with_a (outline (words s))

-- Rules 9.2 and 9.3: the status that every call returns.
use Rattle.outline.specs.Fault.{number}
use Rattle.outline.specs.declared.Side.{Side}
use Rattle.std.specs.Prelude.{ℕ, Option, Some, None}
use Rattle.outline.specs.declared.Place.{Place}
use Rattle.outline.specs.declared.Place.TheVariants.{Nowhere, At, EdgeAndCorner}
use Rattle.outline.specs.declared.Refusal.{Refusal}
use Rattle.outline.specs.declared.Side.TheVariants.{A, B}
use Rattle.encoding.specs.declared.status.Status.{Status}

-- the side of a refusal: 0 for none, 1 for A, 2 for B
abbrev pub refused_side_code : Option Side → ℕ
refused_side_code None = 0
refused_side_code (Some A) = 1
refused_side_code (Some B) = 2

-- how many numbers the place of a refusal has
abbrev pub place_count : Place → ℕ
place_count Nowhere = 0
place_count (At i) = 1
place_count (EdgeAndCorner e c) = 2

-- the first of them, or 0 where there is none
abbrev pub first_place : Place → ℕ
first_place Nowhere = 0
first_place (At i) = i
first_place (EdgeAndCorner e c) = e

-- the second of them, or 0
abbrev pub second_place : Place → ℕ
second_place Nowhere = 0
second_place (At i) = 0
second_place (EdgeAndCorner e c) = c

-- a status with a code alone; all other numbers are 0
abbrev pub plain : ℕ → Status
plain code = record { code = code; side = 0; places = 0; first = 0; second = 0 }

-- code 0, the call answered; a comparison that is spent did too
abbrev pub answered : Status
answered = plain 0

-- code 100, the result list has the wrong length; it is no refusal's number
abbrev pub wrong_result_length : Status
wrong_result_length = plain 100

-- the call refused: the code is the number of the refusal
abbrev pub refused_status : Refusal → Status
refused_status r = record {
  code = number r.fault;
  side = refused_side_code r.side;
  places = place_count r.place;
  first = first_place r.place;
  second = second_place r.place;
}

-- A status tells what it stands for.
--     fault_by, side_by, place_by    the fault, the side and the place that numbers give
--     refusal_of, refused-told    the refusal that a status gives: nothing is lost
--     is_apart, refused-code      the code of a refusal is neither that of an answer nor that of a wrong length, if no
--                                condition's number is
use Prim.Native.Nat.{ℕ, ◌-◌, ◌<◌}
use mathlib.Core.Path.{◌≡◌, refl}
use mathlib.Core.Bool.{Bool, true, ◌&&◌}
use mathlib.Core.List.{List, [], ◌∷◌}
use lib.Dec.{ltb}
use lib.ListN.{get_or}
use Rattle.std.specs.Prelude.{Option, Some, None}
use Rattle.outline.specs.declared.Side.{Side}
use Rattle.integers.proofs.Reflect.{test-and, test-ltb}
use Rattle.outline.specs.Fault.{number}
use Rattle.outline.specs.declared.Fault.{Fault}
use Rattle.outline.specs.declared.Place.{Place}
use Rattle.outline.specs.declared.Place.TheVariants.{Nowhere, At, EdgeAndCorner}
use Rattle.outline.specs.declared.Refusal.{Refusal}
use Rattle.outline.specs.declared.Side.TheVariants.{A, B}
use Rattle.outline.specs.Refusal.{Condition, FirstFault}
use Rattle.outline.proofs.ConditionLaws.{all_numbers, fault-number}
use Rattle.encoding.specs.declared.status.Status.{Status}
use Rattle.encoding.specs.Status.{refused_side_code, place_count, first_place, second_place}
use Rattle.encoding.specs.Status.{answered, wrong_result_length, refused_status}

-- the faults in the order of their numbers, of which the first is 1
abbrev faults : List Fault
faults =
    Fault.OddLength
    ∷ Fault.TooFew
    ∷ Fault.TooMany
    ∷ Fault.OutOfRange
    ∷ Fault.Repeated
    ∷ Fault.NotLeft
    ∷ Fault.PointOutOfRange
    ∷ Fault.NoSuchCorner
    ∷ Fault.WrongLength
    ∷ Fault.PartialRecord
    ∷ Fault.ChainTooLong
    ∷ Fault.NoSuchRecord
    ∷ []

abbrev pub fault_by : ℕ → Fault
fault_by n = get_or faults (n - 1) Fault.OddLength

abbrev pub side_by : ℕ → Option Side
side_by n = get_or (None ∷ Some A ∷ Some B ∷ []) n None

abbrev pub place_by : ℕ → ℕ → ℕ → Place
place_by n i j = get_or (Nowhere ∷ At i ∷ EdgeAndCorner i j ∷ []) n Nowhere

abbrev pub refusal_of : Status → Refusal
refusal_of s = record { fault = fault_by s.code; side = side_by s.side; place = place_by s.places s.first s.second }

fault-told : (f : Fault) → fault_by (number f) ≡ f
fault-told Fault.OddLength = refl
fault-told Fault.TooFew = refl
fault-told Fault.TooMany = refl
fault-told Fault.OutOfRange = refl
fault-told Fault.Repeated = refl
fault-told Fault.NotLeft = refl
fault-told Fault.PointOutOfRange = refl
fault-told Fault.NoSuchCorner = refl
fault-told Fault.WrongLength = refl
fault-told Fault.PartialRecord = refl
fault-told Fault.ChainTooLong = refl
fault-told Fault.NoSuchRecord = refl

side-told : (s : Option Side) → side_by (refused_side_code s) ≡ s
side-told None = refl
side-told (Some A) = refl
side-told (Some B) = refl

place-told : (p : Place) → place_by (place_count p) (first_place p) (second_place p) ≡ p
place-told Nowhere = refl
place-told (At i) = refl
place-told (EdgeAndCorner e c) = refl

pub refused-told : (r : Refusal) → refusal_of (refused_status r) ≡ r
refused-told r = λ k. record { fault = fault-told r.fault k; side = side-told r.side k; place = place-told r.place k }

-- a number between these two codes
abbrev pub is_apart : ℕ → Bool
is_apart n = ltb answered.code n && ltb n wrong_result_length.code

pub refused-code : (cs : List Condition) (r : Refusal) → all_numbers is_apart cs ≡ true → FirstFault cs r
    → (answered.code < (refused_status r).code) × ((refused_status r).code < wrong_result_length.code)
refused-code cs r all fault = (test-and _ _ (test-ltb _ _) (test-ltb _ _)).0 (fault-number is_apart cs r all fault)

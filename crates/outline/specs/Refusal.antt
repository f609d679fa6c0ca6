-- Refusals: a call has conditions in an order, and the first that applies stands.
use Rattle.outline.specs.declared.Side.{Side}
use Rattle.std.specs.Prelude.{ℕ, ◌≡◌, ◌⊎◌, List, [], ◌∷◌, Option}
use Rattle.outline.specs.declared.Fault.{Fault}
use Rattle.outline.specs.declared.Place.{Place}
use Rattle.outline.specs.declared.Place.TheVariants.{Nowhere, At, EdgeAndCorner}
use Rattle.outline.specs.declared.Refusal.{Refusal}

-- what a refusal comes under: its fault, the side that it is about, and the places at which it applies
pub record Condition : Type 1 where
  pub fault : Fault
  pub side : Option Side
  pub applies : Place → Type 0

-- a condition, by its three parts
abbrev pub condition : Fault → Option Side → (Place → Type 0) → Condition
condition fault side applies = record { fault = fault; side = side; applies = applies }

-- P holds; there is no place
abbrev pub without_place : Type 0 → Place → Type 0
without_place P p = (p ≡ Nowhere) × P

-- P holds; the place is the number i
abbrev pub at_place : ℕ → Type 0 → Place → Type 0
at_place i P p = (p ≡ At i) × P

-- the place is one number, of which P holds
abbrev pub at_number : (ℕ → Type 0) → Place → Type 0
at_number P p = (i : ℕ) × (p ≡ At i) × P i

-- the place is an edge and a corner, of which P holds
abbrev pub at_edge_and_corner : (ℕ → ℕ → Type 0) → Place → Type 0
at_edge_and_corner P p = (e : ℕ) × (c : ℕ) × (p ≡ EdgeAndCorner e c) × P e c

-- rule 2.1: the condition's fault and side, with a place
abbrev pub refusal : Condition → Place → Refusal
refusal c p = record { fault = c.fault; side = c.side; place = p }

-- the refusal comes under the condition: it is the condition's, at a place at which that applies
abbrev pub Gives : Condition → Refusal → Type 0
Gives c r = (p : Place) × c.applies p × (refusal c p ≡ r)

-- the condition applies, at some place
abbrev pub Applies : Condition → Type 0
Applies c = (p : Place) × c.applies p

-- rule 2.2: the refusal comes under the first of the conditions that applies
abbrev pub FirstFault : List Condition → Refusal → Type 0
FirstFault [] r = ⊥
FirstFault (c ∷ cs) r = Gives c r ⊎ ((¬ Applies c) × FirstFault cs r)

-- `reading::checks::is_not_left` leaves the edge's two ends out and then goes by the side number's sign.
use borrow.Author.Tests.{eq-eqb, ne_eqb}
use mathlib.Core.Bool.{Bool, false, not, ◌&&◌}
use mathlib.Core.Path.{◌≡◌}
use Prim.Native.Nat.{ℕ}
use lib.Dec.{eqb}
use Rattle.reading.proofs.checks.is_not_left.Goals as goal

-- three tests in a row
module _ (c e f : ℕ) (b : Bool) where
  at-start : c ≡ e → false ≡ (not (eqb c e) && not (eqb c f) && b)
  at-start start = rw (eq-eqb c e start)

  at-end : (c ≡ e → ⊥) → c ≡ f → false ≡ (not (eqb c e) && not (eqb c f) && b)
  at-end other end = rw (ne_eqb c e other, eq-eqb c f end)

  elsewhere : (c ≡ e → ⊥) → (c ≡ f → ⊥) → b ≡ (not (eqb c e) && not (eqb c f) && b)
  elsewhere other another = rw (ne_eqb c e other, ne_eqb c f another)

pub returns-then-c-edge : goal.returns-then-c-edge
returns-then-c-edge c = at-start _ _ _ _ c.if-c-edge.true

pub returns-then-c-edge-2 : goal.returns-then-c-edge-2
returns-then-c-edge-2 c = at-end _ _ _ _ c.if-c-edge.false c.if-c-edge-2.true

pub returns : goal.returns
returns c =
    rw c.is_left.ensures
    (elsewhere _ _ _ _ c.if-c-edge.false c.if-c-edge-2.false)

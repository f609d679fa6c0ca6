-- The state of the sweep as code, and how it stands for the sweep of section 5. What the parts of a step do is for the
-- code alone: `proofs/StepLaws.antt` shows that together they are a step.
use Rattle.std.specs.Prelude.{ℕ, ◌+◌, ◌-◌, ◌<◌, ◌≡◌, Bool, cond, not, ◌&&◌, ◌||◌, eqb, ℤ, pos, length, drop, Option, None}
use Rattle.std.specs.Int.Signed.{lt_z}
use Rattle.plane.specs.Vector.{◌⇀◌, cross}
use Rattle.outline.specs.Corners.{next}
use Rattle.outline.specs.declared.Orientation.{Orientation}
use Rattle.outline.specs.declared.Side.{Side}
use Rattle.outline.specs.declared.Side.TheVariants.{A, B}
use Rattle.hausdorff.specs.Pair.{Pair, Orientations, both_orientations, step_count}
use Rattle.hausdorff.specs.code.Pair.{AcceptedPair}
use Rattle.hausdorff.specs.AngularOrder.{angular_order}
use Rattle.hausdorff.specs.code.Own.{own}
use Rattle.hausdorff.specs.Support.{support_after}
use Rattle.hausdorff.specs.Given.{given_worst}
use Rattle.hausdorff.specs.code.Sweep.{worst_after}
use Rattle.hausdorff.specs.code.Worst.{keep}
use Rattle.sweep.specs.declared.SideState.{SideState}
use Rattle.sweep.specs.declared.State.{State}
use Rattle.measuring.specs.declared.Window.{Window}
use Rattle.measuring.specs.declared.LocalFeature.{LocalFeature}
use Rattle.measuring.specs.Window.{window_at, given_number, IsWindow}
use Rattle.measuring.specs.LocalFeature.{local_given}
use Rattle.measuring.specs.Changes.{BoundedWorst, changes}

-- one side's part of a state
abbrev pub side_state : State → Side → SideState
side_state state A = state.a
side_state state B = state.b

-- how many edges of a side are still to come after k steps
abbrev pub to_come : Pair → ℕ → Side → ℕ
to_come pair k s = length (own s (drop k (angular_order pair)))

-- a state is the sweep after k steps
pub record IsAfter (pair : Pair) (os : Orientations) (k : ℕ) (state : State) : Type 0 where
  pub support : (s : Side) → (side_state state s).support ≡ support_after pair k s
  pub remaining : (s : Side) → (side_state state s).remaining ≡ to_come pair k s
  -- with corner and feature by the lists as given
  pub worst : (s : Side) → (side_state state s).worst ≡ given_worst pair os (worst_after pair os k s)

-- a state and two windows from which a step can be made, where the lists have the orientations o and q: the sweep of some
-- accepted pair after fewer than N steps, and what there is at its support corners
pub record CanStep (state : State) (a b : Window) (o q : Orientation) : Type 0 where
  pub pair : Pair
  pub steps : ℕ
  pub accepted : AcceptedPair pair
  pub more : steps < step_count pair
  pub is_after : IsAfter pair (both_orientations o q) steps state
  pub sees_a : a ≡ window_at (pair A) state.a.support
  pub sees_b : b ≡ window_at (pair B) state.b.support

-- what the parts of a step ask of the windows: each is that of an accepted outline at a corner
pub record Measurable (a b : Window) : Type 0 where
  pub seen_a : IsWindow a
  pub seen_b : IsWindow b

-- what measuring asks of the state: the gap of each side's worst so far can be compared exactly
pub record BoundedState (state : State) : Type 0 where
  pub bounded_a : BoundedWorst state.a.worst
  pub bounded_b : BoundedWorst state.b.worst

-- what passing an edge asks: such windows, support corners that their outlines have, and an edge still to come
pub record Passable (state : State) (a b : Window) : Type 0 where
  pub measurable : Measurable a b
  pub known_a : state.a.support < a.count
  pub known_b : state.b.support < b.count
  pub more : 0 < state.a.remaining + state.b.remaining

-- the next edge is B's: A has no edge left, or both have some and B's is strictly first, where `number`, the side
-- number of A's and then B's, is below 0
abbrev pub next_is_b : ℕ → ℕ → ℤ → Bool
next_is_b remaining-a remaining-b number = eqb remaining-a 0 || (not (eqb remaining-b 0) && lt_z number (pos 0))

-- the same, told from what a step sees
abbrev pub b_is_next : Window → Window → ℕ → ℕ → Bool
b_is_next a b remaining-a remaining-b = next_is_b remaining-a remaining-b (cross (a.corner ⇀ a.after) (b.corner ⇀ b.after))

-- one side's part with its support corner moved on, to the end of the edge that starts there
abbrev pub advanced : ℕ → SideState → SideState
advanced count side = record { support = next count side.support; remaining = side.remaining - 1; worst = side.worst }

-- the state with the next edge passed: the support corner of its side moves on
abbrev pub passed : Window → Window → State → State
passed a b state =
    cond (b_is_next a b state.a.remaining state.b.remaining)
    (record { a = state.a; b = advanced b.count state.b })
    (record { a = advanced a.count state.a; b = state.b })

-- measuring changes the worst so far of a side
abbrev pub changes_worst : Orientation → Orientation → Window → Window → Option LocalFeature → Option LocalFeature → State → Bool
changes_worst o q a b local-a local-b state =
    changes (given_number o a) a.corner b local-a state.a.worst
    || changes (given_number q b) b.corner a local-b state.b.worst

-- the state measured, both ways
abbrev pub with_worst : Orientation → Orientation → Window → Window → Option LocalFeature → Option LocalFeature → State → State
with_worst o q a b local-a local-b state = record {
  a = record {
    support = state.a.support;
    remaining = state.a.remaining;
    worst = keep (λ (i : ℕ). i) state.a.worst (local_given A (given_number o a) a.corner q b local-a);
  };
  b = record {
    support = state.b.support;
    remaining = state.b.remaining;
    worst = keep (λ (i : ℕ). i) state.b.worst (local_given B (given_number q b) b.corner o a local-b);
  };
}

-- one side's part before step 1: its lowest corner, all edges still to come, and no worst so far
abbrev pub beginning : ℕ → ℕ → SideState
beginning lowest count = record { support = lowest; remaining = count; worst = None }

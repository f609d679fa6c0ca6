-- The loop that walks a chain and writes its corners to a list.
--     Walking         k corners are read and stand at the beginning of the list; what the walk gives is decided by the next
--                     index
--     walk_begins, walk-on    how it begins and goes on
--     walk-done       how it ends: no corner may be read any more, or no record is named
use Prim.Native.Nat.{ℕ, suc, ◌+◌, ◌-◌, ◌*◌, ◌≤◌, ◌<◌}
use mathlib.Core.Path.{◌≡◌, refl, ap, ◌∙◌}
use mathlib.Core.Logic.{◌⊎◌, ⊎_elim}
use mathlib.Core.List.{List, [], ◌∷◌, ◌++◌, append_assoc, append-nil}
use native.Mathlib.Omega.{arith}
use lib.IntN.{ℤ, pos}
use lib.ListN.{length, take, length-append}
use Rattle.plane.specs.declared.Corner.{Corner}
use Rattle.plane.specs.Vector.{coordinates}
use Rattle.outline.specs.Corners.{most}
use Rattle.outline.specs.code.Writing.{put_corner}
use Rattle.outline.proofs.WritingLaws.{put-length, put-after}
use Rattle.records.specs.declared.Record.{Record}
use Rattle.records.specs.Chain.{records, record_at, Walk, stopped, walk_from, walk, chain_list}
use Rattle.records.proofs.ChainLaws.{Names, records-fit, walk_from-full, walk_from-none, walk_from-record}
use Rattle.traversal.specs.declared.Stop.{Stop}
use Rattle.traversal.specs.Stop.{stop_of}

-- corners that are read already, before what is read then
abbrev after : List Corner → Walk → Walk
after cs w = record { corners = cs ++ w.corners; index = w.index }

pub record Walking (s : List ℤ) (start : ℤ) (out₀ out : List ℤ) (stop : Stop) : Type 0 where
  pub at_most : stop.count ≤ most
  pub long : length out ≡ length out₀
  pub room : 2 * most ≤ length out₀
  pub read : List Corner
  pub counted : length read ≡ stop.count
  pub written : take (2 * stop.count) out ≡ coordinates read
  pub gives : walk s start ≡ after read (walk_from (records s) (most - stop.count) stop.index)

pub walk_begins : (s : List ℤ) (start : ℤ) (out : List ℤ) → 2 * most ≤ length out
    → Walking s start out out (record { count = 0; index = start })
walk_begins s start out room = record {
  at_most = omega arith;
  long = refl;
  room = room;
  read = [];
  counted = refl;
  written = refl;
  gives = refl;
}

module _ {s : List ℤ} {start : ℤ} {out₀ out : List ℤ} {stop : Stop} (w : Walking s start out₀ out stop) where
  left : stop.count < most → most - stop.count ≡ suc (most - (stop.count + 1))
  left below = omega arith

  pub walk-on : stop.count < most → {i : ℕ} {r : Record} → stop.index ≡ pos (suc i) → suc i < length (records s)
      → r ≡ record_at (records s) (suc i) → {out' : List ℤ} {next : ℤ} → out' ≡ put_corner out stop.count r.corner
      → next ≡ r.next → Walking s start out₀ out' (record { count = stop.count + 1; index = next })
  walk-on below {i} {r} at known is put from = record {
    at_most = omega arith;
    long = ap length put ∙ put-length out stop.count r.corner ∙ w.long;
    room = w.room;
    read = w.read ++ (r.corner ∷ []);
    counted = rw length-append (omega (arith, w.counted));
    written = rw put
        (put-after out w.read stop.count r.corner (omega (arith, w.long, w.room)) w.written);
    gives =
        rw (w.gives, left below, at, walk_from-record (records s) (most - (stop.count + 1)) i known, from, is, append_assoc);
  }

  nothing : (stop.count ≡ most) ⊎ (¬ Names (records s) stop.index)
      → walk_from (records s) (most - stop.count) stop.index ≡ stopped stop.index
  nothing ends = ⊎_elim
      (λ full. (let none : most - stop.count ≡ 0 = omega arith in rw none (walk_from-full (records s) stop.index)))
      (λ none. walk_from-none (records s) (most - stop.count) stop.index none) ends

  -- nothing more is read
  pub walk-done : (stop.count ≡ most) ⊎ (¬ Names (records s) stop.index)
      → (stop ≡ stop_of (walk s start)) × (take (2 * length (walk s start).corners) out ≡ chain_list s start)
  walk-done ends = rw (whole, append-nil, w.counted) (refl, w.written)
    where
      whole : walk s start ≡ after w.read (stopped stop.index)
      whole = w.gives ∙ ap (after w.read) (nothing ends)

-- for what a function reads of a store
pub ruleset sizes = (records-fit)

-- Records, and what is read of a chain.
--     length-records, records-fit, record-at    three numbers to a record; all lie in the store; record i is numbers 3 i to
--                              3 i + 2
--     Names, none-bad          the index names a record; one that names none, and is not zero, is negative or not below the
--                              record count
--     Reads                    these corners are read from an index on, one record after the other, and that index is met
--     IsRead, walk_from-read, walk_from-unique    at most so many corners are read, and fewer only where the next index
--                              names no record: this holds of the walk, and of nothing else
--     walk_from-full, walk_from-none, walk_from-record    its next step
--     cycle-reads              in a cycle, and from an index that leads to one, any number can be read
--     walk-most, walk-stops    of any chain at most 256 corners are read; where fewer, no record is named by the next index
--     walk-zero                a start of zero gives none
--     walk-record-0            record 0 is never read
-- For the code:
--     record_number-some, record_number-none    what the number of the record tells of the index
use Prim.Native.Nat.{ℕ, zero, suc, ◌+◌, ◌-◌, ◌*◌, ◌/◌, ◌≤◌, ◌<◌}
use mathlib.Core.Bool.{Bool, true, false, cond, ◌&&◌}
use mathlib.Core.Path.{◌≡◌, refl, sym, ap, ◌∙◌}
use mathlib.Core.Logic.{◌≢◌, ◌⊎◌, inl, inr, ⊎_elim}
use mathlib.Core.List.{List, [], ◌∷◌}
use native.Mathlib.Omega.{arith}
use borrow.Author.Tests.{lt-ltb, ltb-true, ltb-false}
use lib.Dec.{ltb}
use lib.IntN.{ℤ, pos, negsuc}
use lib.ListN.{length, get_or}
use lib.Signed.{◌<ℤ◌, ◌≤ℤ◌}
use Rattle.std.proofs.lemmas.Option.{cond_some, none-some}
use Rattle.std.specs.Prelude.{Some, None}
use Rattle.integers.proofs.Order.{lt_z-true}
use Rattle.integers.proofs.Reflect.{≤-≤ℤ, test-and, test-ltb}
use Rattle.plane.specs.declared.Corner.{Corner}
use Rattle.outline.specs.Corners.{most}
use Rattle.records.specs.declared.Record.{Record}
use Rattle.records.specs.Chain.{records, record_at, stopped, onward, walk_from, walk}
use Rattle.records.specs.code.Chain.{record_number}

-- ---- the records of a store
pub length-records : (s : List ℤ) → length (records s) ≡ length s / 3
unfolding records
length-records [] = refl
length-records (x ∷ []) = refl
length-records (x ∷ (y ∷ [])) = refl
length-records (x ∷ (y ∷ (next ∷ s))) = omega (arith, length-records s)

pub records-fit : (s : List ℤ) → 3 * length (records s) ≤ length s
records-fit s = omega (arith, length-records s)

thrice-suc : (i : ℕ) → 3 * suc i ≡ suc (suc (suc (3 * i)))
thrice-suc i = omega arith

thrice-suc-plus : (i k : ℕ) → suc (suc (suc (3 * i))) + k ≡ suc (suc (suc (3 * i + k)))
thrice-suc-plus i k = omega arith

pub record-at : (s : List ℤ) (i : ℕ) → i < length (records s) → record_at (records s) i ≡ record {
  corner = record { x = get_or s (3 * i) (pos 0); y = get_or s (3 * i + 1) (pos 0) };
  next = get_or s (3 * i + 2) (pos 0);
}
unfolding records
record-at [] i below = absurd (omega arith)
record-at (x ∷ []) i below = absurd (omega arith)
record-at (x ∷ (y ∷ [])) i below = absurd (omega arith)
record-at (x ∷ (y ∷ (next ∷ s))) zero below = refl
record-at (x ∷ (y ∷ (next ∷ s))) (suc i) below =
    rw (thrice-suc i, thrice-suc-plus i 1, thrice-suc-plus i 2) (record-at s i (omega arith))

-- ---- what an index names
-- the index names a record: it is above zero and below the record count
abbrev pub Names : List Record → ℤ → Type 0
Names rs z = (i : ℕ) × (z ≡ pos (suc i)) × (suc i < length rs)

module _ (rs : List Record) where
  names-or-not : (z : ℤ) → Names rs z ⊎ (¬ Names rs z)
  names-or-not (negsuc j) = inr (λ (i, at, below). (let x : ◌≡◌ {A = ℕ} 0 1 = cc in omega arith))
  names-or-not (pos zero) = inr (λ (i, at, below). (let x : 0 ≡ suc i = cc in omega arith))
  names-or-not (pos (suc j)) = by-test (ltb (suc j) (length rs)) refl
    where
      by-test : (t : Bool) → ltb (suc j) (length rs) ≡ t → Names rs (pos (suc j)) ⊎ (¬ Names rs (pos (suc j)))
      by-test true below = inl (j, refl, ltb-true (suc j) (length rs) below)
      by-test false above = inr (λ (i, at, below).
          (let x : suc j ≡ suc i = cc in omega (arith, ltb-false (suc j) (length rs) above)))

  -- one that names none, and is not zero, is negative or not below the record count
  pub none-bad : (z : ℤ) → ¬ Names rs z → z ≢ pos 0 → (z <ℤ pos 0) ⊎ (pos (length rs) ≤ℤ z)
  none-bad (negsuc j) none other = inl (lt_z-true refl)
  none-bad (pos zero) none other = absurd (other refl)
  none-bad (pos (suc j)) none other = by-test (ltb (suc j) (length rs)) refl
    where
      by-test : (t : Bool) → ltb (suc j) (length rs) ≡ t → (pos (suc j) <ℤ pos 0) ⊎ (pos (length rs) ≤ℤ pos (suc j))
      by-test true below = absurd (none (j, refl, ltb-true (suc j) (length rs) below))
      by-test false above = inr ((≤-≤ℤ (length rs) (suc j)).0 (ltb-false (suc j) (length rs) above))

-- ---- what is read
-- from index z on these corners are read, one record after the other, and then index w is met. Each index on the way
-- names a record
abbrev pub Reads : List Record → ℤ → List Corner → ℤ → Type 0
Reads rs z [] w = z ≡ w
Reads rs z (c ∷ cs) w = (i : ℕ) × (z ≡ pos (suc i)) × (suc i < length rs) × (c ≡ (record_at rs (suc i)).corner)
    × Reads rs (record_at rs (suc i)).next cs w

-- what holds of a walk that may read so many corners
pub record IsRead (rs : List Record) (left : ℕ) (z : ℤ) (cs : List Corner) (w : ℤ) : Type 0 where
  pub reads : Reads rs z cs w
  pub at_most : length cs ≤ left
  pub stops : (length cs ≡ left) ⊎ (¬ Names rs w)

module _ (rs : List Record) where
  -- nothing may be read
  pub walk_from-full : (z : ℤ) → walk_from rs 0 z ≡ stopped z
  unfolding walk_from
  walk_from-full z = refl

  -- by what the index names
  pub walk_from-none : (left : ℕ) (z : ℤ) → ¬ Names rs z → walk_from rs left z ≡ stopped z
  unfolding walk_from
  walk_from-none zero z none = refl
  walk_from-none (suc left) (negsuc i) none = refl
  walk_from-none (suc left) (pos zero) none = refl
  walk_from-none (suc left) (pos (suc i)) none = by-test (ltb (suc i) (length rs)) refl
    where
      by-test : (t : Bool) → ltb (suc i) (length rs) ≡ t
          → cond t (onward (record_at rs (suc i)) (walk_from rs left (record_at rs (suc i)).next)) (stopped (pos (suc i)))
          ≡ stopped (pos (suc i))
      by-test true below = absurd (none (i, refl, ltb-true (suc i) (length rs) below))
      by-test false above = refl

  pub walk_from-record : (left i : ℕ) → suc i < length rs
      → walk_from rs (suc left) (pos (suc i)) ≡ onward (record_at rs (suc i)) (walk_from rs left (record_at rs (suc i)).next)
  unfolding walk_from
  walk_from-record left i below = rw (lt-ltb (suc i) (length rs) below)

  abbrev Read : ℕ → ℤ → Type 0
  Read left z = IsRead rs left z (walk_from rs left z).corners (walk_from rs left z).index

  pub walk_from-read : (left : ℕ) (z : ℤ) → Read left z
  unfolding walk_from
  walk_from-read zero z = record { reads = refl; at_most = omega arith; stops = inl refl }
  walk_from-read (suc left) z = by_name (names-or-not rs z) (λ y. walk_from-read left y)
    where
      by_name : Names rs z ⊎ (¬ Names rs z) → ((y : ℤ) → Read left y) → Read (suc left) z
      by_name (inl (i, at, below)) after =
          let rest = after (record_at rs (suc i)).next in
          rw (at, walk_from-record left i below) (record {
            reads = (i, refl, below, refl, rest.reads);
            at_most = omega (arith, rest.at_most);
            stops = ⊎_elim (λ full. inl (ap suc full)) inr rest.stops;
          })
      by_name (inr none) after =
          rw (walk_from-none (suc left) z none) (record { reads = refl; at_most = omega arith; stops = inr none })

  pub walk_from-unique : (left : ℕ) (z : ℤ) (cs : List Corner) (w : ℤ) → IsRead rs left z cs w
      → walk_from rs left z ≡ record { corners = cs; index = w }
  unfolding walk_from
  walk_from-unique zero z [] w is = ap stopped is.reads
  walk_from-unique zero z (c ∷ cs) w is = absurd (omega (arith, is.at_most))
  walk_from-unique (suc left) z [] w is =
      let none : ¬ Names rs w = ⊎_elim (λ full. absurd (omega arith)) (λ none. none) is.stops in
      walk_from-none (suc left) z (rw is.reads none) ∙ ap stopped is.reads
  walk_from-unique (suc left) z (c ∷ cs) w is =
      let (i, at, below, from, rest) = is.reads in
      let rec : walk_from rs left (record_at rs (suc i)).next ≡ record { corners = cs; index = w } =
      walk_from-unique left (record_at rs (suc i)).next cs w (record {
        reads = rest;
        at_most = omega (arith, is.at_most);
        stops = ⊎_elim (λ full. inl (omega arith)) inr is.stops;
      }) in
      rw (at, walk_from-record left i below, rec, from)

  -- ---- cycles
  -- from z on corners are read until z is met again
  module _ (z : ℤ) (d : Corner) (ds : List Corner) (round : Reads rs z (d ∷ ds) z) where
    -- on the way to z every index names a record
    on-the-way : (y : ℤ) (cs : List Corner) → Reads rs y cs z
        → (i : ℕ) × (y ≡ pos (suc i)) × (suc i < length rs)
        × ((es : List Corner) × Reads rs (record_at rs (suc i)).next es z)
    on-the-way y [] here = let (i, at, below, from, rest) = round in (i, here ∙ at, below, (ds, rest))
    on-the-way y (c ∷ cs) (i, at, below, from, rest) = (i, at, below, (cs, rest))

    -- so any number of corners can be read, and the next index is not zero
    pub cycle-reads : (n : ℕ) (y : ℤ) (cs : List Corner) → Reads rs y cs z
        → (es : List Corner) × (w : ℤ) × Reads rs y es w × (length es ≡ n) × (w ≢ pos 0)
    cycle-reads zero y cs along =
        let (i, at, below, more) = on-the-way y cs along in
        ([], y, refl, refl, λ zero. (let same : pos (suc i) ≡ pos 0 = sym at ∙ zero in let n : suc i ≡ 0 = cc in omega arith))
    cycle-reads (suc n) y cs along =
        let (i, at, below, (es, rest)) = on-the-way y cs along in
        let (fs, w, reads, long, other) = cycle-reads n (record_at rs (suc i)).next es rest in
        ((record_at rs (suc i)).corner ∷ fs, w, (i, at, below, refl, reads), ap suc long, other)

-- ---- record 0 is never read
walk_from-record-0 : (r q : Record) (rs : List Record) (left : ℕ) (z : ℤ)
    → walk_from (r ∷ rs) left z ≡ walk_from (q ∷ rs) left z
unfolding walk_from
walk_from-record-0 r q rs zero z = refl
walk_from-record-0 r q rs (suc left) (negsuc i) = refl
walk_from-record-0 r q rs (suc left) (pos zero) = refl
walk_from-record-0 r q rs (suc left) (pos (suc i)) = rw (walk_from-record-0 r q rs left (record_at rs i).next)

module _ (s : List ℤ) (start : ℤ) where
  -- at most 256 corners are read of any chain
  pub walk-most : length (walk s start).corners ≤ most
  walk-most = (walk_from-read (records s) most start).at_most

  -- and where fewer are read the next index names no record
  pub walk-stops : (length (walk s start).corners ≡ most) ⊎ (¬ Names (records s) (walk s start).index)
  walk-stops = (walk_from-read (records s) most start).stops

-- a start of zero gives no corner, and the chain ends
pub walk-zero : (s : List ℤ) → walk s (pos 0) ≡ stopped (pos 0)
unfolding walk_from
walk-zero s = refl

-- whatever the first three numbers of a store are, the same is read of every chain
pub walk-record-0 : (x y next x' y' next' : ℤ) (s : List ℤ) (start : ℤ)
    → walk (x ∷ y ∷ next ∷ s) start ≡ walk (x' ∷ y' ∷ next' ∷ s) start
unfolding records
walk-record-0 x y next x' y' next' s start = walk_from-record-0 _ _ (records s) most start

-- ---- for the code: where there is a number the index names that record, and else none
pub record_number-some : (n : ℕ) (z : ℤ) {i : ℕ} → record_number n z ≡ Some i
    → (j : ℕ) × (i ≡ suc j) × (z ≡ pos (suc j)) × (suc j < n)
unfolding record_number
record_number-some n (pos i) is =
    let (both, same) = cond_some (ltb 0 i && ltb i n) i _ is in
    let (above, below) = (test-and _ _ (test-ltb 0 i) (test-ltb i n)).0 both in
    let at : i ≡ suc (i - 1) = omega arith in
    (i - 1, sym same ∙ at, ap pos at, rw (← at) below)
record_number-some n (negsuc j) is = absurd (none-some _ is)

pub record_number-none : (rs : List Record) (z : ℤ) → record_number (length rs) z ≡ None → ¬ Names rs z
unfolding record_number
record_number-none rs z none (i, at, below) =
    none-some (suc i) (sym none ∙ (rw (at, lt-ltb 0 (suc i) (omega arith), lt-ltb (suc i) (length rs) below)))

-- The call that compares the outlines of two chains, as its callers see it.
--     records-refuses            it refuses exactly with the refusal of the first condition that applies
--     records-as-comparing       where the store has whole records and both chains end, it gives what comparing gives for
--                                the corners of the chains
--     is-records-comparison      what the call gives is as rule 7.8 lays down
--     records_comparison-unique   and nothing else is
--     never-1-or-3               it never refuses with 1 or 3
--     partial-fault, index-fault, corners-fault, fault-a, fault-b    the first condition that applies, by what it is of:
--                                the store's length, an index, the corners of a chain that ends; A, and B where A's
--                                outline is accepted
--     walk-long, walk-bad        a walk that stops at an index other than zero gets 11 after 256 corners, and 12 after fewer
--     long-fault, bad-fault      so do 256 indexes that name records, with a next one that is not zero; and fewer, with a
--                                next one that is not zero and names none. The place is the number of corners
--     LongChain, long-a, long-b    the call refuses a chain of the first kind with 11 and place 256
--     cycle-long                 every chain that comes to a cycle is one
--     zero-fault                 a start of zero gets 2
--     records-record-0              record 0 does not matter
-- For the code:
--     call-promises              what it gives has both parts of its contract
--     chains-compared            it gives what comparing gives for the lists to which two chains that end are written
use Prim.Native.Nat.{ℕ, ◌%◌, ◌<◌}
use mathlib.Core.Bool.{true, not}
use mathlib.Core.Path.{◌≡◌, refl, sym, ap, subst, ◌∙◌}
use mathlib.Core.Logic.Iff
use mathlib.Core.Logic.{◌↔◌, ◌≢◌, ◌⊎◌, inl, inr, ⊎_elim}
use mathlib.Core.List.{List, ◌∷◌}
use native.Mathlib.Omega.{arith}
use lib.Dec.{eqb}
use lib.IntN.{ℤ, pos}
use lib.ListN.{length, take}
use Rattle.std.specs.Prelude.{Option, Some, Result, Ok, Err}
use Rattle.outline.specs.Fault.{number}
use Rattle.outline.specs.declared.Fault.{Fault}
use Rattle.outline.specs.declared.Fault.TheVariants.{TooFew, PartialRecord, ChainTooLong, NoSuchRecord}
use Rattle.hausdorff.specs.declared.Report.{Report}
use Rattle.outline.specs.declared.Side.{Side}
use Rattle.integers.specs.Equal.{eq_z}
use Rattle.integers.proofs.Order.{lt_z-true, <ℤ-lt_z}
use Rattle.integers.proofs.Reflect.{test-not, test-and, test-or, test-eqb, test-eq_z, test-le_z, test-stable}
use Rattle.plane.specs.declared.Corner.{Corner}
use Rattle.outline.specs.declared.Orientation.{Orientation}
use Rattle.outline.specs.declared.Place.TheVariants.{Nowhere, At}
use Rattle.outline.specs.declared.Refusal.{Refusal}
use Rattle.outline.specs.declared.Side.TheVariants.{A, B}
use Rattle.outline.specs.Conditions.{either_conditions}
use Rattle.outline.specs.Corners.{corners, most}
use Rattle.outline.specs.Orientation.{AcceptedAs}
use Rattle.outline.specs.Refusal.{FirstFault, Applies}
use Rattle.outline.specs.code.Checks.{Verdict, first, ◌or_else◌}
use Rattle.outline.specs.code.Either.{orientation_of, either_checks}
use Rattle.outline.proofs.ChecksLaws.{first-append}
use Rattle.outline.proofs.CornersLaws.{length-coordinates, corners-coordinates}
use Rattle.outline.proofs.ConditionLaws.{◌and◌, Decides, AllDecide, NoneApplies, decides-taken, first-refused, first_taken}
use Rattle.outline.proofs.ConditionLaws.{decide-append, none-append, fault-append, nowhere-plain}
use Rattle.outline.proofs.ConditionLaws.{AllApplying, applying-append, fault-applying}
use Rattle.outline.proofs.ConditionLaws.{test-decides, place-decides}
use Rattle.outline.proofs.EitherLaws.{either-decide, none-either, accepted-orientation}
use Rattle.hausdorff.specs.code.Call.{pair_checks, pair_verdict_for, check_pair, comparison_for, comparison}
use Rattle.hausdorff.proofs.CallLaws.{verdict-refused, comparison_for-refused, is-comparison}
use Rattle.hausdorff.proofs.CallLaws.{comparison-unique}
use Rattle.records.specs.Chain.{records, Walk, walk_from, walk, Ends, chain_list}
use Rattle.records.specs.Conditions.{partial_record, too_long, no_such_record, index_conditions, chain_conditions}
use Rattle.records.specs.Conditions.{records_conditions}
use Rattle.records.specs.Call.{IsRecordsComparison, refused, compared}
use Rattle.records.specs.code.Checks.{check_partial_record, is_too_long, is_no_such_record, check_too_long, check_no_such_record, chain_checks}
use Rattle.records.specs.code.Checks.{records_checks}
use Rattle.records.specs.code.Call.{check_records, records_comparison}
use Rattle.records.specs.code.Reading.{ReadsChains}
use Rattle.records.proofs.ChainLaws.{Names, none-bad, Reads, walk_from-unique, cycle-reads, walk-most, walk-stops, walk-zero}
use Rattle.records.proofs.ChainLaws.{walk-record-0}

-- ---- the checks decide the conditions
partial-decides : (s : List ℤ) → Decides (check_partial_record s) (partial_record s)
partial-decides s = test-decides PartialRecord (Some A) (not (eqb (length s % 3) 0)) (test-not _ (test-eqb (length s % 3) 0))

module _ (whose : Option Side) (s : List ℤ) (start : ℤ) where
  abbrev n : ℕ
  n = length (records s)

  abbrev k : ℕ
  k = length (walk s start).corners

  abbrev z : ℤ
  z = (walk s start).index

  not-zero : (not (eq_z z (pos 0)) ≡ true) ↔ (z ≢ pos 0)
  not-zero = test-not _ (test-eq_z z (pos 0))

  long-decides : Decides (check_too_long whose (walk s start)) (too_long whose (walk s start))
  long-decides = place-decides ChainTooLong whose (is_too_long (walk s start)) (test-and _ _ (test-eqb k most) not-zero) k

  record-decides : Decides (check_no_such_record whose n (walk s start)) (no_such_record whose n (walk s start))
  record-decides = place-decides NoSuchRecord whose (is_no_such_record n (walk s start))
      (test-and _ _ not-zero (test-or _ _ (lt_z-true, <ℤ-lt_z) (test-le_z (pos n) z))) k

  chain-decide : AllDecide (chain_checks whose s start) (chain_conditions whose s start)
  chain-decide = long-decides and record-decides and either-decide whose (chain_list s start)

  -- neither 11 nor 12 applies exactly where the chain ends: the walk stops only after 256 corners, or where the next index
  -- names no record
  index-none : ((¬ Applies (too_long whose (walk s start))) × (¬ Applies (no_such_record whose n (walk s start)))) ↔ Ends s start
  index-none = (there, λ ends. (λ (p, (at, (full, other))). other ends, λ (p, (at, (other, bad))). other ends))
    where
      there : (¬ Applies (too_long whose (walk s start))) × (¬ Applies (no_such_record whose n (walk s start))) → Ends s start
      there (no-long, no-bad) = test-stable _ (test-eq_z z (pos 0)) (λ other. ⊎_elim
          (λ full. no-long (At k, (refl, (full, other))))
          (λ none. no-bad (At k, (refl, (other, none-bad (records s) z none other))))
          (walk-stops s start))

  -- with an index other than zero it gets 11 after 256 corners, and 12 after fewer
  module _ (other : z ≢ pos 0) where
    pub walk-long : k ≡ most
        → FirstFault (index_conditions whose s start) (record { fault = ChainTooLong; side = whose; place = At k })
    walk-long full = inl (At k, (refl, (full, other)), refl)

    pub walk-bad : k ≢ most
        → FirstFault (index_conditions whose s start) (record { fault = NoSuchRecord; side = whose; place = At k })
    walk-bad fewer =
        let none = ⊎_elim (λ full. absurd (fewer full)) (λ none. none) (walk-stops s start) in
        inr (
          λ (p, (at, (full, _))). fewer full,
          inl (At k, (refl, (other, none-bad (records s) z none other)), refl),
        )

  none-chain : NoneApplies (chain_conditions whose s start)
      ↔ (Ends s start × AcceptedAs (orientation_of (corners (chain_list s start))) (chain_list s start))
  none-chain = (
    λ (no-long, (no-bad, none)). (index-none.0 (no-long, no-bad), (none-either whose (chain_list s start)).0 none),
    λ (ends, ok). (let (no-long, no-bad) = index-none.1 ends in (no-long, (no-bad, (none-either whose (chain_list s start)).1 ok))),
  )

  -- so the checks of 11 and 12 take it
  ends-taken : Ends s start → first (chain_checks whose s start) ≡ first (either_checks whose (chain_list s start))
  ends-taken ends =
      let (no-long, no-bad) = index-none.1 ends in
      rw ((decides-taken long-decides).1 no-long, (decides-taken record-decides).1 no-bad)

-- ---- the call
module _ (s : List ℤ) (a b : ℤ) where
  decide : AllDecide (records_checks s a b) (records_conditions s a b)
  decide =
      partial-decides s
      and decide-append (chain_checks (Some A) s a) (chain_checks (Some B) s b) (chain_conditions (Some A) s a)
      (chain_conditions (Some B) s b) (chain-decide (Some A) s a) (chain-decide (Some B) s b)

  whole-taken : length s % 3 ≡ 0 → check_partial_record s ≡ Ok tt
  whole-taken whole = (decides-taken (partial-decides s)).1 (nowhere-plain (λ partial. partial whole))

  -- the checks of a store of whole records: those of A's chain, and then those of B's
  first-chains : length s % 3 ≡ 0
      → first (records_checks s a b) ≡ first (chain_checks (Some A) s a) or_else first (chain_checks (Some B) s b)
  first-chains whole = rw (whole-taken whole) (first-append (chain_checks (Some A) s a) (chain_checks (Some B) s b))

  -- where both chains end they find what those of the lists of their corners find
  as-pair : length s % 3 ≡ 0 → Ends s a → Ends s b → check_records s a b ≡ check_pair (chain_list s a) (chain_list s b)
  unfolding check_records check_pair
  as-pair whole ends-a ends-b =
      let both : first (records_checks s a b) ≡ first (pair_checks (chain_list s a) (chain_list s b)) =
      first-chains whole ∙ rw (ends-taken (Some A) s a ends-a, ends-taken (Some B) s b ends-b)
      (sym (first-append (either_checks (Some A) (chain_list s a)) (either_checks (Some B) (chain_list s b)))) in
      ap (pair_verdict_for (chain_list s a) (chain_list s b)) both

  module _ (allowance : ℕ) where
    pub records-refuses : (r : Refusal) → (records_comparison s a b allowance ≡ Err r) ↔ FirstFault (records_conditions s a b) r
    unfolding check_records
    records-refuses r =
        Iff.trans (comparison_for-refused _ _ allowance (check_records s a b) r)
        (Iff.trans (verdict-refused _ _ (first (records_checks s a b)) r)
        (first-refused (records_checks s a b) (records_conditions s a b) decide r))

    pub records-as-comparing : length s % 3 ≡ 0 → Ends s a → Ends s b
        → records_comparison s a b allowance ≡ comparison (chain_list s a) (chain_list s b) allowance
    records-as-comparing whole ends-a ends-b =
        ap (comparison_for (chain_list s a) (chain_list s b) allowance) (as-pair whole ends-a ends-b)

    -- some condition applies, or the store has whole records and both chains end
    pub is-records-comparison : IsRecordsComparison s a b allowance (records_comparison s a b allowance)
    unfolding check_records
    is-records-comparison = go (first (records_checks s a b)) refl
      where
        go : (v : Verdict) → first (records_checks s a b) ≡ v
            → IsRecordsComparison s a b allowance (records_comparison s a b allowance)
        go (Err r) refuses =
            refused r ((first-refused (records_checks s a b) (records_conditions s a b) decide r).0 refuses) (rw refuses)
        go (Ok _) takes =
            let (not-partial, none) = (first_taken (records_checks s a b) (records_conditions s a b) decide).0 takes in
            let (none-a, none-b) = (none-append (chain_conditions (Some A) s a) (chain_conditions (Some B) s b)).0 none in
            let whole : length s % 3 ≡ 0 =
            test-stable _ (test-eqb (length s % 3) 0) (λ partial. not-partial (Nowhere, (refl, partial))) in
            let (ends-a, _) = (none-chain (Some A) s a).0 none-a in let (ends-b, _) = (none-chain (Some B) s b).0 none-b in
            compared whole ends-a ends-b (rw (records-as-comparing whole ends-a ends-b)
            (is-comparison (chain_list s a) (chain_list s b) allowance))

    -- where both cases of rule 7.8 apply they say the same
    pub records_comparison-unique : {result : Result Report Refusal} → IsRecordsComparison s a b allowance result
        → result ≡ records_comparison s a b allowance
    records_comparison-unique (refused r fault is) = is ∙ sym ((records-refuses r).1 fault)
    records_comparison-unique (compared whole ends-a ends-b is) =
        comparison-unique _ _ allowance is ∙ sym (records-as-comparing whole ends-a ends-b)

    pub call-promises : {result : Result Report Refusal} → result ≡ records_comparison s a b allowance
        → (result ≡ records_comparison s a b allowance) × IsRecordsComparison s a b allowance result
    call-promises is = (is, rw is is-records-comparison)

-- ---- faults, by what they are of
module _ (whose : Option Side) (s : List ℤ) (start : ℤ) {r : Refusal} where
  -- of an index
  pub index-fault : FirstFault (index_conditions whose s start) r → FirstFault (chain_conditions whose s start) r
  index-fault fault =
      (fault-append (index_conditions whose s start) (either_conditions whose (chain_list s start)) r).1 (inl fault)

  -- of the corners, where the chain ends
  pub corners-fault : Ends s start → FirstFault (either_conditions whose (chain_list s start)) r
      → FirstFault (chain_conditions whose s start) r
  corners-fault ends fault =
      let (no-long, no-bad) = (index-none whose s start).1 ends in (inr (no-long, inr (no-bad, fault)))

module _ (s : List ℤ) (a b : ℤ) where
  -- of the store's length
  pub partial-fault : length s % 3 ≢ 0
      → FirstFault (records_conditions s a b) (record { fault = PartialRecord; side = Some A; place = Nowhere })
  partial-fault partial = inl (Nowhere, (refl, partial), refl)

  module _ (whole : length s % 3 ≡ 0) {r : Refusal} where
    both-faults : FirstFault (chain_conditions (Some A) s a) r
        ⊎ (NoneApplies (chain_conditions (Some A) s a) × FirstFault (chain_conditions (Some B) s b) r)
        → FirstFault (records_conditions s a b) r
    both-faults fault = inr (
      nowhere-plain (λ partial. partial whole),
      (fault-append (chain_conditions (Some A) s a) (chain_conditions (Some B) s b) r).1 fault,
    )

    -- of A
    pub fault-a : FirstFault (chain_conditions (Some A) s a) r → FirstFault (records_conditions s a b) r
    fault-a fault = both-faults (inl fault)

    -- of B, where A's outline is accepted
    pub fault-b : (o : Orientation) → Ends s a → AcceptedAs o (chain_list s a) → FirstFault (chain_conditions (Some B) s b) r
        → FirstFault (records_conditions s a b) r
    fault-b o ends ok fault =
        let none = (none-chain (Some A) s a).1 (ends, rw (accepted-orientation o (chain_list s a) ok) ok) in
        both-faults (inr (none, fault))

-- ---- what a chain gets, by what is read of it
module _ (whose : Option Side) (s : List ℤ) (start : ℤ) where
  -- a refusal of an index, with the number of the corners that are read as its place
  read-fault : (fault : Fault) (cs : List Corner) {z : ℤ} → walk s start ≡ record { corners = cs; index = z }
      → FirstFault (index_conditions whose s start)
      (record { fault = fault; side = whose; place = At (length (walk s start).corners) })
      → FirstFault (chain_conditions whose s start) (record { fault = fault; side = whose; place = At (length cs) })
  read-fault fault cs is applies = subst
      (λ (i : ℕ). FirstFault (chain_conditions whose s start) (record { fault = fault; side = whose; place = At i }))
      (ap (λ (w : Walk). length w.corners) is) (index-fault whose s start applies)

  module _ (cs : List Corner) (z : ℤ) (reads : Reads (records s) start cs z) (other : z ≢ pos 0) where
    -- 256 indexes, one after the other, name records, and the next is not zero: that gets 11
    pub long-fault : length cs ≡ most
        → FirstFault (chain_conditions whose s start) (record { fault = ChainTooLong; side = whose; place = At (length cs) })
    unfolding walk_from
    long-fault long =
        let is : walk s start ≡ record { corners = cs; index = z } = walk_from-unique (records s) most start cs z
        (record { reads = reads; at_most = omega arith; stops = inl long }) in
        read-fault ChainTooLong cs is (walk-long whose s start (rw is other) (rw is long))

    -- fewer, and the next is not zero and names none: that gets 12
    pub bad-fault : length cs < most → ¬ Names (records s) z
        → FirstFault (chain_conditions whose s start) (record { fault = NoSuchRecord; side = whose; place = At (length cs) })
    unfolding walk_from
    bad-fault fewer none =
        let is : walk s start ≡ record { corners = cs; index = z } = walk_from-unique (records s) most start cs z
        (record { reads = reads; at_most = omega arith; stops = inr none }) in
        read-fault NoSuchRecord cs is (walk-bad whose s start (rw is other) (rw is (λ full. omega arith)))

-- ---- chains of more than 256 records
abbrev pub LongChain : List ℤ → ℤ → Type 0
LongChain s start = (cs : List Corner) × (z : ℤ) × Reads (records s) start cs z × (length cs ≡ most) × (z ≢ pos 0)

-- a chain that comes to a cycle is such: z is met, and met again after at least one corner more
pub cycle-long : (s : List ℤ) (start z : ℤ) (cs : List Corner) (d : Corner) (ds : List Corner)
    → Reads (records s) start cs z → Reads (records s) z (d ∷ ds) z → LongChain s start
cycle-long s start z cs d ds along round = cycle-reads (records s) z d ds round most start cs along

-- its place is 256
long-at-most : (whose : Option Side) (s : List ℤ) (start : ℤ) → LongChain s start
    → FirstFault (chain_conditions whose s start) (record { fault = ChainTooLong; side = whose; place = At most })
long-at-most whose s start (cs, z, reads, long, other) = subst
    (λ (i : ℕ). FirstFault (chain_conditions whose s start) (record { fault = ChainTooLong; side = whose; place = At i }))
    long (long-fault whose s start cs z reads other long)

-- so the call refuses a long one: of A, and of B where A's outline is accepted
module _ (s : List ℤ) (a b : ℤ) (allowance : ℕ) (whole : length s % 3 ≡ 0) where
  pub long-a : LongChain s a
      → records_comparison s a b allowance ≡ Err (record { fault = ChainTooLong; side = Some A; place = At most })
  long-a long = (records-refuses s a b allowance _).1 (fault-a s a b whole (long-at-most (Some A) s a long))

  pub long-b : (o : Orientation) → Ends s a → AcceptedAs o (chain_list s a) → LongChain s b
      → records_comparison s a b allowance ≡ Err (record { fault = ChainTooLong; side = Some B; place = At most })
  long-b o ends ok long =
      (records-refuses s a b allowance _).1 (fault-b s a b whole o ends ok (long-at-most (Some B) s b long))

-- ---- a start of zero gets 2
pub zero-fault : (whose : Option Side) (s : List ℤ)
    → FirstFault (chain_conditions whose s (pos 0)) (record { fault = TooFew; side = whose; place = Nowhere })
unfolding corners
zero-fault whose s =
    let none = walk-zero s in
    corners-fault whose s (pos 0) (rw none)
    (rw none (inr (nowhere-plain (λ odd. omega arith), inl (Nowhere, (refl, omega arith), refl))))

-- ---- refusals that never come
abbrev Neither : ℕ → Type 0
Neither i = (i ≢ 1) × (i ≢ 3)

-- two numbers for each corner, and at most 256 corners
chain-numbers : (whose : Option Side) (s : List ℤ) (start : ℤ) → AllApplying Neither (chain_conditions whose s start)
chain-numbers whose s start =
    let cs = (walk s start).corners in
    let count : length (corners (chain_list s start)) ≡ length cs = ap length (corners-coordinates cs) in
    (λ _. (omega arith, omega arith))
    and (λ _. (omega arith, omega arith))
    and (λ (p, (at, odd)). absurd (omega (arith, length-coordinates cs)))
    and (λ _. (omega arith, omega arith))
    and (λ (p, (at, many)). absurd (omega (arith, count, walk-most s start)))
    and (λ _. (omega arith, omega arith))
    and (λ _. (omega arith, omega arith))
    and (λ _. (omega arith, omega arith))
    and tt

pub never-1-or-3 : (s : List ℤ) (a b : ℤ) (allowance : ℕ) (r : Refusal) → records_comparison s a b allowance ≡ Err r
    → (number r.fault ≢ 1) × (number r.fault ≢ 3)
never-1-or-3 s a b allowance r is =
    fault-applying Neither (records_conditions s a b) r
    ((λ _. (omega arith, omega arith)) and applying-append Neither (chain_conditions (Some A) s a) (chain_conditions (Some B) s b)
    (chain-numbers (Some A) s a) (chain-numbers (Some B) s b))
    ((records-refuses s a b allowance r).0 is)

-- ---- record 0 is never read
pub records-record-0 : (x y next x' y' next' : ℤ) (s : List ℤ) (a b : ℤ) (allowance : ℕ)
    → records_comparison (x ∷ y ∷ next ∷ s) a b allowance ≡ records_comparison (x' ∷ y' ∷ next' ∷ s) a b allowance
unfolding check_records records
records-record-0 x y next x' y' next' s a b allowance =
    rw (walk-record-0 x y next x' y' next' s a, walk-record-0 x y next x' y' next' s b)

-- ---- for the code: both chains end, and their corners stand in lists
pub chains-compared : (s : List ℤ) (a b : ℤ) (allowance : ℕ) {n m : ℕ} {p q : List ℤ}
    → ReadsChains s a b (Ok (n, m)) p q
    → comparison (take n p) (take m q) allowance ≡ records_comparison s a b allowance
chains-compared s a b allowance (whole, in-a, in_b) =
    rw (in-a.written, in_b.written) (sym (records-as-comparing s a b allowance whole in-a.ends in_b.ends))

-- The call for the mismatch sum, as its callers see it.
--     mismatch-refuses          it refuses exactly with the refusal of the first condition that applies
--     refuses-as-comparing      that is, exactly as comparing does
--     is-mismatch-answer        what the call gives is as rule 7.7 lays down
--     mismatch_answer-unique           and nothing else is
--     Sums, sums-iff            it gives a sum exactly where both lists are accepted and it is that of the outlines as held
--     mismatch-zero-iff             it is 0 exactly where every gap is less than one unit
--     mismatch-same-piece             so it is 0 where the lists give the same piece
--     mismatch-swap             the call gives the same for B and A
--     mismatch-start, mismatch-reversal    and for lists that start at other corners, or of which A's, B's or both are in
--                               the opposite order
--     mismatch-fits             a sum fits 63 bits
-- For the code, by what the checks give:
--     call-refused, call-summed    a refusal, and the sum
--     call-promises             what it gives has both parts of its contract
use Prim.Native.Nat.{ℕ, ◌%◌}
use mathlib.Core.Path.{◌≡◌, refl, sym, ap, ◌∙◌}
use mathlib.Core.Logic.Iff
use mathlib.Core.Logic.{◌↔◌, ⊎_elim}
use mathlib.Core.List.{List}
use native.Mathlib.Omega.{arith}
use lib.IntN.{ℤ}
use lib.ListN.{length}
use Rattle.std.specs.Prelude.{Result, Ok, Err}
use Rattle.integers.specs.Fraction.{LessThan}
use Rattle.integers.specs.Units.{of_units}
use Rattle.outline.specs.declared.Orientation.{Orientation}
use Rattle.outline.specs.declared.Refusal.{Refusal}
use Rattle.outline.specs.Corners.{corners}
use Rattle.outline.specs.Orientation.{as_held, AcceptedAs}
use Rattle.outline.specs.Refusal.{FirstFault}
use Rattle.outline.proofs.EitherLaws.{accepted-held}
use Rattle.nearest.proofs.Rotation.{starting_at}
use Rattle.nearest.proofs.Reversal.{opposite, SameCycle, held_start, held-reversal, accepted-start, accepted-reversal}
use Rattle.hausdorff.specs.declared.CornerGap.{CornerGap}
use Rattle.hausdorff.specs.Answer.{IsGap}
use Rattle.hausdorff.specs.Call.{pair_conditions, held_pair}
use Rattle.hausdorff.specs.code.Sizes.{FitsI64}
use Rattle.hausdorff.specs.code.Call.{check_pair, comparison}
use Rattle.hausdorff.proofs.CallLaws.{pair-refused, pair-taken, compare-refuses, held-polygons}
use Rattle.hausdorff.proofs.SamePieces.{SameHeldPiece, SameOrReversed}
use Rattle.mismatch.specs.MismatchSum.{units}
use Rattle.mismatch.specs.Call.{IsMismatchAnswer, refused, summed}
use Rattle.mismatch.specs.code.MismatchSum.{mismatch_sum}
use Rattle.mismatch.specs.code.Call.{mismatch_for, mismatch_answer}
use Rattle.mismatch.proofs.MismatchLaws.{mismatch_sum-is, mismatch_sum-unique, mismatch_sum-zero-iff, same-piece-zero, mismatch_sum-swap, mismatch_sum-cycle}
use Rattle.mismatch.proofs.MismatchLaws.{mismatch_sum-fits}

module _ (s t : List ℤ) where
  pub mismatch-refuses : (r : Refusal) → (mismatch_answer s t ≡ Err r) ↔ FirstFault (pair_conditions s t) r
  mismatch-refuses r = Iff.trans (by-checks (check_pair s t)) (pair-refused s t r)
    where
      by-checks : (v : Result (Orientation × Orientation) Refusal) → (mismatch_for s t v ≡ Err r) ↔ (v ≡ Err r)
      by-checks (Ok (o, q)) = (λ e. cc, λ e. cc)
      by-checks (Err q) = (λ e. cc, λ e. cc)

  -- both go by the same conditions
  pub refuses-as-comparing : (allowance : ℕ) (r : Refusal)
      → (mismatch_answer s t ≡ Err r) ↔ (comparison s t allowance ≡ Err r)
  refuses-as-comparing allowance r = Iff.trans (mismatch-refuses r) (Iff.symm (compare-refuses s t allowance r))

  -- some condition applies, or both lists are accepted
  pub is-mismatch-answer : IsMismatchAnswer s t (mismatch_answer s t)
  is-mismatch-answer = go (check_pair s t) refl
    where
      go : (v : Result (Orientation × Orientation) Refusal) → check_pair s t ≡ v → IsMismatchAnswer s t (mismatch_for s t v)
      go (Err r) refuses = refused r ((pair-refused s t r).0 refuses) refl
      go (Ok (o, q)) takes =
          let (ok-a, ok-b) = (pair-taken s t o q).0 takes in
          summed o q _ ok-a ok-b (mismatch_sum-is (held_pair o q s t) (held-polygons s t o q ok-a ok-b)) refl

  -- of lists that are accepted with orientations it gives the sum of the outlines as held
  accepted-summed : (o q : Orientation) → AcceptedAs o s → AcceptedAs q t
      → mismatch_answer s t ≡ Ok (mismatch_sum (held_pair o q s t))
  accepted-summed o q ok-a ok-b = ap (mismatch_for s t) ((pair-taken s t o q).1 (ok-a, ok-b))

  pub mismatch_answer-unique : {result : Result ℕ Refusal} → IsMismatchAnswer s t result → result ≡ mismatch_answer s t
  mismatch_answer-unique (refused r first is) = is ∙ sym ((mismatch-refuses r).1 first)
  mismatch_answer-unique (summed o q m ok-a ok-b sums is) =
      is ∙ ap Ok (mismatch_sum-unique (held_pair o q s t) (held-polygons s t o q ok-a ok-b) sums)
      ∙ sym (accepted-summed o q ok-a ok-b)

  pub call-promises : {result : Result ℕ Refusal} → result ≡ mismatch_answer s t
      → (result ≡ mismatch_answer s t) × IsMismatchAnswer s t result
  call-promises is = (is, rw is is-mismatch-answer)

  module _ {v : Result (Orientation × Orientation) Refusal} (found : v ≡ check_pair s t) where
    pub call-refused : {r : Refusal} → v ≡ Err r → Err r ≡ mismatch_answer s t
    call-refused is = ap (mismatch_for s t) (sym is ∙ found)

    pub call-summed : {o q : Orientation} {m : ℕ} → v ≡ Ok (o, q) → m ≡ mismatch_sum (held_pair o q s t)
        → Ok m ≡ mismatch_answer s t
    call-summed is made = ap Ok made ∙ ap (mismatch_for s t) (sym is ∙ found)

-- an answer has one sum
same_sum : {m k : ℕ} → ◌≡◌ {A = Result ℕ Refusal} (Ok m) (Ok k) → m ≡ k
same_sum e = cc

-- both lists are accepted, and the sum is that of the outlines as held
pub record Sums (s t : List ℤ) (m : ℕ) : Type 0 where
  pub of_a : Orientation
  pub of_b : Orientation
  pub accepted_a : AcceptedAs of_a s
  pub accepted_b : AcceptedAs of_b t
  pub is_sum : m ≡ mismatch_sum (held_pair of_a of_b s t)

pub sums-iff : (s t : List ℤ) (m : ℕ) → IsMismatchAnswer s t (Ok m) ↔ Sums s t m
sums-iff s t m = (there, back)
  where
    there : IsMismatchAnswer s t (Ok m) → Sums s t m
    there (refused r first is) = absurd (let z : ◌≡◌ {A = ℕ} 0 1 = cc in omega arith)
    there (summed o q k ok-a ok-b sums is) = record {
      of_a = o;
      of_b = q;
      accepted_a = ok-a;
      accepted_b = ok-b;
      is_sum = same_sum is ∙ mismatch_sum-unique (held_pair o q s t) (held-polygons s t o q ok-a ok-b) sums;
    }

    back : Sums s t m → IsMismatchAnswer s t (Ok m)
    back sums = summed sums.of_a sums.of_b m sums.accepted_a sums.accepted_b
        (rw sums.is_sum (mismatch_sum-is _ (held-polygons s t _ _ sums.accepted_a sums.accepted_b))) refl

module _ (s t : List ℤ) (m : ℕ) (is : IsMismatchAnswer s t (Ok m)) where
  -- it is 0 exactly where every gap is less than one unit, with the outlines as held
  pub mismatch-zero-iff : (o q : Orientation) → AcceptedAs o s → AcceptedAs q t
      → (m ≡ 0) ↔ ((w : CornerGap) → IsGap (held_pair o q s t) w → LessThan w.gap (of_units units 1))
  mismatch-zero-iff o q ok-a ok-b =
      rw (same_sum (mismatch_answer-unique s t is ∙ accepted-summed s t o q ok-a ok-b))
      (mismatch_sum-zero-iff (held_pair o q s t) (held-polygons s t o q ok-a ok-b))

  -- so it is 0 where the lists give the same piece
  pub mismatch-same-piece : SameHeldPiece s t → m ≡ 0
  mismatch-same-piece same =
      let sums = (sums-iff s t m).0 is in let ok-a = sums.accepted_a in let ok-b = sums.accepted_b in
      sums.is_sum ∙ same-piece-zero _ (held-polygons s t _ _ ok-a ok-b) (same _ _ ok-a ok-b)

  -- the call gives the same sum for B and A
  pub mismatch-swap : IsMismatchAnswer t s (Ok m)
  mismatch-swap = let sums = (sums-iff s t m).0 is in (sums-iff t s m).1 (record {
    of_a = sums.of_b;
    of_b = sums.of_a;
    accepted_a = sums.accepted_b;
    accepted_b = sums.accepted_a;
    is_sum = sums.is_sum ∙ mismatch_sum-swap (as_held sums.of_b (corners t)) (as_held sums.of_a (corners s));
  })

-- s' is accepted where s is, and then they differ as held only in where they start
abbrev SameHeldCycle : List ℤ → List ℤ → Type 1
SameHeldCycle s s' = (o : Orientation) → AcceptedAs o s
    → (p : Orientation) × AcceptedAs p s' × SameCycle (as_held o (corners s)) (as_held p (corners s'))

start-same-cycle : (s s' : List ℤ) (k : ℕ) → length s' % 2 ≡ 0 → corners s' ≡ starting_at k (corners s) → SameHeldCycle s s'
start-same-cycle s s' k even is = λ o ok. (o, accepted-start o s s' even k is ok, rw is (held_start o k (corners s)))

reversal-same-cycle : (s s' : List ℤ) → length s' % 2 ≡ 0 → SameOrReversed s s' → SameHeldCycle s s'
reversal-same-cycle s s' even = ⊎_elim (start-same-cycle s s' 0 even)
    (λ is o ok. (opposite o, accepted-reversal o s s' even is ok, rw is (held-reversal o (corners s))))

module _ (s t s' t' : List ℤ) (m : ℕ) (is : IsMismatchAnswer s t (Ok m)) where
  same-cycle : SameHeldCycle s s' → SameHeldCycle t t' → IsMismatchAnswer s' t' (Ok m)
  same-cycle same-a same-b =
      let sums = (sums-iff s t m).0 is in
      let (o, ok-a, cycle-a) = same-a sums.of_a sums.accepted_a in
      let (q, ok-b, cycle-b) = same-b sums.of_b sums.accepted_b in
      (sums-iff s' t' m).1 (record {
        of_a = o;
        of_b = q;
        accepted_a = ok-a;
        accepted_b = ok-b;
        is_sum = sums.is_sum
            ∙ sym (mismatch_sum-cycle (held-polygons s t _ _ sums.accepted_a sums.accepted_b) cycle-a cycle-b);
      })

  module _ (even-s : length s' % 2 ≡ 0) (even-t : length t' % 2 ≡ 0) where
    -- the call gives the same sum for lists of even length that start at other corners,
    pub mismatch-start : (a b : ℕ) → corners s' ≡ starting_at a (corners s) → corners t' ≡ starting_at b (corners t)
        → IsMismatchAnswer s' t' (Ok m)
    mismatch-start a b from-s from-t = same-cycle (start-same-cycle s s' a even-s from-s) (start-same-cycle t t' b even-t from-t)

    -- and for lists of which A's, B's or both are in the opposite order
    pub mismatch-reversal : SameOrReversed s s' → SameOrReversed t t' → IsMismatchAnswer s' t' (Ok m)
    mismatch-reversal way_a way-b = same-cycle (reversal-same-cycle s s' even-s way_a) (reversal-same-cycle t t' even-t way-b)

-- a sum fits 63 bits
pub mismatch-fits : (s t : List ℤ) (m : ℕ) → IsMismatchAnswer s t (Ok m) → FitsI64 m
mismatch-fits s t m is =
    let sums = (sums-iff s t m).0 is in
    rw sums.is_sum (mismatch_sum-fits (accepted-held sums.accepted_a) (accepted-held sums.accepted_b))

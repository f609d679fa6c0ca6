-- The order of directions, for vectors with whole components of any size. A vector that is 0 has no direction.
--     Before, Along, Apart         d comes before e; neither comes before the other; one of them does
--     before?, along?              these are decided
--     not-along-apart              directions that are not along are apart
--     Around                       t lies from e counterclockwise to f, less than a whole turn
--     Across, across               d is in the first half and e in the second; so it is where d comes before e,
--                                  which is not left of it
--     before-asym, before-irrefl   no two directions come before each other, and none before itself
--     axis-first                   none comes before the positive x axis
--     before_split, before-trans   where d comes before f, any third direction comes after d or before f; so the
--                                  order is transitive
--     same-iff, along-iff          directions are the same exactly where they are along, which is on one line and
--                                  the same way
--     along-apart                  f does not have t's direction where e has it and f another than e
--     around-start, around-end     t lies around where it has the direction of e, or of f
--     around-turns                 and where it is not right of e and not left of f
--     cross-between, cross-first, cross-last    a direction k from e counterclockwise to f, which is less than half
--                                  a turn on, is left of e and has f on its left: if it comes between e and f, or,
--                                  where f comes before e, before f or after e
use mathlib.Core.Path.{◌≡◌, refl, sym, ap, ◌∙◌}
use mathlib.Core.Logic.Iff
use mathlib.Core.Logic.{◌⊎◌, inl, inr, ⊎_elim, ◌↔◌}
use mathlib.Core.Bool.{Bool, true, false, not, Bool-discrete, true≢false}
use mathlib.Core.List.{List, [], ◌∷◌}
use borrow.Author.Tests.{not-true}
use lib.IntN.{pos}
use lib.Signed.{◌≤ℤ◌, ◌<ℤ◌, <ℤ_irrefl, clash_ℤ}
use Rattle.integers.proofs.Order.{lt_z-true, <ℤ-lt_z, <ℤ-≤ℤ, ≤ℤ-or-<ℤ, ≰ℤ-<ℤ, ≮ℤ-≤ℤ, ≤ℤ-antisym}
use Rattle.integers.proofs.Polynomial.{Expr, var, lit}
use Rattle.integers.proofs.Certificate.{Claim, ◌≺◌, ◌≼◌, Cert, hyp, ◌⊞◌, ◌⊠◌, refute}
use Rattle.integers.proofs.Reflect.{test-and, test-or, test-eq_z}
use Rattle.plane.specs.declared.Vector.{Vector}
use Rattle.plane.specs.Vector.{cross, dot}
use Rattle.plane.specs.Direction.{is_first_half, is_before, same_half, same_direction}
use Rattle.plane.proofs.Algebra.{O, vec, cross_e, components, cross-swap, cross-back, turn-length, cross-length}
use Rattle.plane.proofs.Halves.{NonZero, half, first-up, Sign, Reference, reference, line-halves}

abbrev pub Before : Vector → Vector → Type 0
Before d e = is_before d e ≡ true

abbrev pub Along : Vector → Vector → Type 0
Along d e = (¬ Before d e) × (¬ Before e d)

abbrev pub Apart : Vector → Vector → Type 0
Apart d e = Before d e ⊎ Before e d

pub before? : (d e : Vector) → Dec (Before d e)
before? d e = Bool-discrete (is_before d e) true

pub along? : (d e : Vector) → Along d e ⊎ Apart d e
along? d e = elim (before? d e) [
  | yes first ↦ inr (inl first)
  | no a ↦ elim (before? e d) [ yes second ↦ inr (inr second) | no b ↦ inl (a, b) ]
]

pub not-along-apart : (d e : Vector) → ¬ Along d e → Apart d e
not-along-apart d e other = ⊎_elim (λ along. absurd (other along)) (λ apart. apart) (along? d e)

-- not both before e and after f; and where e comes before f, neither
pub record Around (e f t : Vector) : Type 0 where
  pub inside : (¬ Before t e) ⊎ (¬ Before f t)
  pub rising : Before e f → (¬ Before t e) × (¬ Before f t)

-- ---- the order by halves

-- the first half comes before the second
abbrev pub Across : Vector → Vector → Type 0
Across d e = (is_first_half d ≡ true) × (is_first_half e ≡ false)

-- within a half a vector comes before those on its left
abbrev Within : Vector → Vector → Type 0
Within d e = (is_first_half d ≡ is_first_half e) × (pos 0 <ℤ cross d e)

-- the test of one half
test-half : (a b : Bool) → (same_half a b ≡ true) ↔ (a ≡ b)
test-half true b = (sym, sym)
test-half false b = (λ is. sym (not-true b is), λ is. ap not (sym is))

-- d comes before e in one of these two ways
before-iff : (d e : Vector) → Before d e ↔ (Across d e ⊎ Within d e)
unfolding is_before
before-iff d e =
    test-or _ _ (test-and _ _ (λ first. first, λ first. first) (not-true (is_first_half e), ap not))
    (test-and _ _ (test-half (is_first_half d) (is_first_half e)) (lt_z-true, <ℤ-lt_z))

-- the way is across if e is not left of d, and within if e is in the first half, or d in the second, or both in one
module _ (d e : Vector) (before : Before d e) where
  pub across : cross d e ≤ℤ pos 0 → Across d e
  across right = elim ((before-iff d e).0 before) [ inl halves ↦ halves | inr (_, left) ↦ clash_ℤ left right ]

  not-across : ¬ Across d e → Within d e
  not-across other = ⊎_elim (λ halves. absurd (other halves)) (λ is. is) ((before-iff d e).0 before)

  within_first : is_first_half e ≡ true → Within d e
  within_first first = not-across (λ halves. true≢false (sym first ∙ halves.1))

  within-second : is_first_half d ≡ false → Within d e
  within-second second = not-across (λ halves. true≢false (sym halves.0 ∙ second))

  within_same : is_first_half d ≡ is_first_half e → Within d e
  within_same same = not-across (λ halves. true≢false (sym halves.0 ∙ same ∙ halves.1))

-- two vectors are of one half, or one is of the first and the other of the second
same-or-across : (d e : Vector) → (is_first_half d ≡ is_first_half e) ⊎ Across d e ⊎ Across e d
same-or-across d e = go (is_first_half d) (is_first_half e) refl refl
  where
    go : (a b : Bool) → is_first_half d ≡ a → is_first_half e ≡ b → (is_first_half d ≡ is_first_half e) ⊎ Across d e ⊎ Across e d
    go true true first second = inl (first ∙ sym second)
    go true false first second = inr (inl (first, second))
    go false true first second = inr (inr (second, first))
    go false false first second = inl (first ∙ sym second)

-- ---- a third direction beside two of one half

-- What is claimed of the sides of r on which e and f lie and t lies, and of the turns from e to t and from t to f:
-- if t lies with e and f, the turns are not both to the right, and if not, not both to the left. For cross e f
-- times cross r t is cross r f times cross e t plus cross r e times cross t f.
abbrev claims : (Expr → Claim) → (Expr → Claim) → (Expr → Claim) → List Claim
claims ends third turns =
    let r = vec 0 in let e = vec 2 in let f = vec 4 in let t = vec 6 in
    O ≺ cross_e e f ∷ ends (cross_e r e) ∷ ends (cross_e r f) ∷ third (cross_e r t) ∷ turns (cross_e e t) ∷ turns (cross_e t f) ∷ []

abbrev cramer : Cert
cramer = hyp 0 ⊠ hyp 3 ⊞ hyp 2 ⊠ hyp 4 ⊞ hyp 1 ⊠ hyp 5

module _ (r e f t : Vector) (left : pos 0 <ℤ cross e f) where
  signs-alike : (half : Bool) → Sign half (cross r e) → Sign half (cross r f) → Sign half (cross r t)
      → cross e t ≤ℤ pos 0 → cross t f ≤ℤ pos 0 → ⊥
  unfolding cross
  signs-alike true = refute (components (r ∷ e ∷ f ∷ t ∷ [])) (claims (λ z. O ≺ z) (λ z. O ≺ z) (λ z. z ≼ O)) cramer tt left
  signs-alike false = refute (components (r ∷ e ∷ f ∷ t ∷ [])) (claims (λ z. z ≺ O) (λ z. z ≺ O) (λ z. z ≼ O)) cramer tt left

  signs-opposite : (half : Bool) → Sign half (cross r e) → Sign half (cross r f) → Sign (not half) (cross r t)
      → pos 0 ≤ℤ cross e t → pos 0 ≤ℤ cross t f → ⊥
  unfolding cross
  signs-opposite true = refute (components (r ∷ e ∷ f ∷ t ∷ [])) (claims (λ z. O ≺ z) (λ z. z ≺ O) (λ z. O ≼ z)) cramer tt left
  signs-opposite false = refute (components (r ∷ e ∷ f ∷ t ∷ [])) (claims (λ z. z ≺ O) (λ z. O ≺ z) (λ z. O ≼ z)) cramer tt left

-- t of the half of e and f is left of e or has f on its left; t of the other half is right of e or left of f
module _ (e f t : Vector) (within : Within e f) (some : NonZero t) where
  seen : Reference e f t
  seen = reference e f t (turn-length e f within.1) (cross-length e f within.1) some

  alike : is_first_half t ≡ is_first_half e → cross e t ≤ℤ pos 0 → cross t f ≤ℤ pos 0 → ⊥
  alike same =
      signs-alike seen.from e f t within.1 (is_first_half e) seen.of_e (rw within.0 seen.of_f) (rw (← same) seen.of_t)

  opposite : is_first_half t ≡ not (is_first_half e) → pos 0 ≤ℤ cross e t → cross f t ≤ℤ pos 0 → ⊥
  opposite other left right =
      signs-opposite seen.from e f t within.1 (is_first_half e) seen.of_e (rw within.0 seen.of_f) (rw (← other) seen.of_t)
      left ((cross-back t f).1 right)

-- ---- the laws

-- across and within exclude each other, and neither goes both ways
pub before-asym : (d e : Vector) → Before d e → ¬ Before e d
before-asym d e before back = elim ((before-iff d e).0 before) [
  | inl (first, second) ↦ true≢false (sym first ∙ sym (within-second e d back second).0 ∙ second)
  | inr (same, left) ↦ clash_ℤ (within_same e d back (sym same)).1 ((cross-back d e).0 (<ℤ-≤ℤ left))
]

pub before-irrefl : (d : Vector) → ¬ Before d d
before-irrefl d itself = before-asym d d itself itself

-- rule 5.1: the angle is from the positive x axis. What comes before it would be in the first half and fall
pub axis-first : (d : Vector) → ¬ Before d (record { x = pos 1; y = pos 0 })
unfolding cross is_first_half
axis-first d before =
    let (same, left) = within_first d (record { x = pos 1; y = pos 0 }) before refl in
    refute (d.x ∷ d.y ∷ []) (O ≺ cross_e (vec 0) (record { x = lit (pos 1); y = O }) ∷ O ≼ var 1 ∷ []) (hyp 0 ⊞ hyp 1) tt
    left (first-up d (rw same at (half d)))

-- if all three are of one half, e is left of d or has f on its left
pub before_split : (d e f : Vector) → NonZero e → Before d f → Before d e ⊎ Before e f
before_split d e f some before = elim (same-or-across d e) [
  | inl same ↦ elim ((before-iff d f).0 before) [
    | inl (first, second) ↦ inr ((before-iff e f).1 (inl (sym same ∙ first, second)))
    | inr within ↦ elim (≤ℤ-or-<ℤ (cross d e) (pos 0)) [
      | inl right ↦ inr ((before-iff e f).1 (inr (sym same ∙ within.0, ≰ℤ-<ℤ (alike d f e within some (sym same) right))))
      | inr left ↦ inl ((before-iff d e).1 (inr (same, left)))
    ]
  ]
  | inr (inl to-e) ↦ inl ((before-iff d e).1 (inl to-e))
  | inr (inr (first, second)) ↦ inr ((before-iff e f).1 (inl (first, sym (within-second d f before second).0 ∙ second)))
]

-- f comes after d or before e, and it does not come before e
pub before-trans : (d e f : Vector) → Before d e → Before e f → Before d f
before-trans d e f first next = elim ((before-iff e f).0 next) [
  | inl (e-first, f-second) ↦ (before-iff d f).1 (inl ((within_first d e first e-first).0 ∙ e-first, f-second))
  | inr (_, left) ↦
      ⊎_elim (λ before. before) (λ back. absurd (before-asym e f next back)) (before_split d f e (cross-length e f left) first)
]

-- neither comes before the other exactly where both are of one half and on one line
along-parts : (d e : Vector) → Along d e ↔ ((is_first_half d ≡ is_first_half e) × (cross d e ≡ pos 0))
along-parts d e = (
  λ (a, b).
      let same : is_first_half d ≡ is_first_half e = elim (same-or-across d e) [
        | inl same ↦ same
        | inr (inl there) ↦ absurd (a ((before-iff d e).1 (inl there)))
        | inr (inr back) ↦ absurd (b ((before-iff e d).1 (inl back)))
      ] in
      let right = ≮ℤ-≤ℤ (λ left. a ((before-iff d e).1 (inr (same, left)))) in
      let left = (cross-back d e).1 (≮ℤ-≤ℤ (λ left. b ((before-iff e d).1 (inr (sym same, left))))) in
      (same, ≤ℤ-antisym right left),
  λ (same, line). (
    λ there. <ℤ_irrefl (rw line at (within_same d e there same).1),
    λ back. <ℤ_irrefl (rw (cross-swap e d, line) at (within_same e d back (sym same)).1),
  ),
)

pub same-iff : (d e : Vector) → (same_direction d e ≡ true) ↔ Along d e
unfolding same_direction
same-iff d e =
    Iff.trans (test-and _ _ (test-half (is_first_half d) (is_first_half e)) (test-eq_z (cross d e) (pos 0))) (Iff.symm (along-parts d e))

-- directions are the same exactly where the vectors lie on one line and point the same way
pub along-iff : (d e : Vector) → NonZero d → NonZero e → Along d e ↔ ((cross d e ≡ pos 0) × (pos 0 <ℤ dot d e))
along-iff d e d-some e-some = (
  λ along. let (half, line) = (along-parts d e).0 along in (line, (line-halves d e d-some e-some line).0 half),
  λ (line, ahead). (along-parts d e).1 ((line-halves d e d-some e-some line).1 ahead, line),
)

module _ (e f t : Vector) where
  -- what is apart from a direction along t is apart from t
  pub along-apart : NonZero t → Along e t → Apart e f → Apart f t
  along-apart some (a, b) (inl first) = ⊎_elim (λ h. absurd (a h)) inr (before_split e t f some first)
  along-apart some (a, b) (inr first) = ⊎_elim inl (λ h. absurd (b h)) (before_split f t e some first)

  pub around-start : Along e t → Around e f t
  around-start (a, b) = record { inside = inl b; rising = λ first. (b, λ h. a (before-trans e f t first h)) }

  pub around-end : Along f t → Around e f t
  around-end (a, b) = record { inside = inr a; rising = λ first. (λ h. b (before-trans t e f h first), a) }

  -- if t came before e and after f it would lie in both halves; and where e comes before f, in the other half than
  -- both if it came before e or after f
  pub around-turns : NonZero t → pos 0 ≤ℤ cross e t → cross f t ≤ℤ pos 0 → Around e f t
  around-turns some left right = record { inside = inside; rising = λ before. (early before, late before) }
    where
      inside : (¬ Before t e) ⊎ (¬ Before f t)
      inside = elim (before? t e) [
        | yes early ↦ inr (λ late. true≢false (sym (across t e early ((cross-back e t).0 left)).0 ∙ (across f t late right).1))
        | no not-early ↦ inl not-early
      ]

      early : Before e f → ¬ Before t e
      early before to-e =
          let halves = across t e to-e ((cross-back e t).0 left) in
          opposite e f t (within-second e f before halves.1) some (rw (halves.0, halves.1)) left right

      late : Before e f → ¬ Before f t
      late before from-f =
          let halves = across f t from-f right in
          let within = within_first e f before halves.0 in
          opposite e f t within some (rw (halves.1, within.0, halves.0)) left right

module _ (e f k : Vector) (turns : pos 0 <ℤ cross e f) where
  not_left : cross f e ≤ℤ pos 0
  not_left = (cross-back e f).0 (<ℤ-≤ℤ turns)

  -- k is in the half of f, or of e, and the other of them is not
  with-last : Within k f → is_first_half e ≡ not (is_first_half k) → (pos 0 <ℤ cross e k) × (pos 0 <ℤ cross k f)
  with-last within other =
      (≰ℤ-<ℤ (λ right. opposite k f e within (turn-length e f turns) other ((cross-back k e).1 right) not_left), within.1)

  with_first : Within e k → is_first_half f ≡ not (is_first_half e) → (pos 0 <ℤ cross e k) × (pos 0 <ℤ cross k f)
  with_first within other = (within.1, ≰ℤ-<ℤ (opposite e k f within (cross-length e f turns) other (<ℤ-≤ℤ turns)))

  -- the two steps of the order are not both across
  pub cross-between : Before e k → Before k f → (pos 0 <ℤ cross e k) × (pos 0 <ℤ cross k f)
  cross-between from to = elim ((before-iff e k).0 from) [
    | inl (first, second) ↦ with-last (within-second k f to second) (rw (first, second))
    | inr near ↦ elim ((before-iff k f).0 to)
        [ inl (first, second) ↦ with_first near (rw (second, near.0, first)) | inr far ↦ (near.1, far.1) ]
  ]

  -- f is in the first half and e in the second, so k is in the half of f, or, after e, in that of e
  pub cross-first : Before f e → Before k f → (pos 0 <ℤ cross e k) × (pos 0 <ℤ cross k f)
  cross-first wraps before =
      let halves = across f e wraps not_left in
      let within = within_first k f before halves.0 in
      with-last within (rw (halves.1, within.0, halves.0))

  pub cross-last : Before f e → Before e k → (pos 0 <ℤ cross e k) × (pos 0 <ℤ cross k f)
  cross-last wraps after =
      let halves = across f e wraps not_left in
      with_first (within-second e k after halves.1) (rw (halves.0, halves.1))

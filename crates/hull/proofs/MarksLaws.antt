-- The marks of points, given the corners of their hull.
--     repeat-true        the test `is_repeat` holds exactly of points that repeat an earlier one
--     mark-is            the mark that is computed is the mark
--     mark-unique        and nothing else is
--     marks-length, marks-at    one for each point
--     marks-are, marks-unique   so the marks that are computed are the marks, and nothing else is
--     marked-once        a corner's number is the mark of one point alone
--     marked-first       and of every corner that is a point: of the first that is there
use Prim.Native.Nat.{ℕ, zero, suc, ◌+◌, ◌<◌}
use native.Mathlib.Decide.{dec_lt}
use native.Mathlib.Nat.{zero-add}
use native.Mathlib.Omega.{arith}
use mathlib.Core.Path.{◌≡◌, refl, sym, ap, ◌∙◌}
use mathlib.Core.Logic.Iff
use mathlib.Core.Logic.{◌↔◌, ◌≢◌, ◌⊎◌, inl, inr}
use mathlib.Core.Bool.{Bool, true, false, cond, false≢true}
use mathlib.Core.List.{List, [], ◌∷◌, ◌++◌}
use lib.IntN.{ℤ, pos, negsuc}
use lib.ListN.{length, get_or, take, length-take, length-append, get_or-append}
use lib.Seq.{get_or-take, get_or-append_seam, ext_get_or}
use Rattle.integers.proofs.Reflect.{test-false, test-or}
use Rattle.lists.specs.Fold.{fold, joined}
use Rattle.plane.specs.declared.Corner.{Corner}
use Rattle.plane.specs.code.Tests.{same}
use Rattle.plane.proofs.Tests.{same_true}
use Rattle.outline.specs.Corners.{origin, corner}
use Rattle.outline.specs.code.Polygon.{Polygon}
use Rattle.outline.proofs.EdgeLaws.{corner-number}
use Rattle.hull.specs.Marks.{Repeats, IsMark, repeats, numbered, unnumbered, AreMarks}
use Rattle.hull.specs.code.Marks.{is_among, is_repeat, number_from, mark, marks}

-- ---- repeats
among-true : (v : Corner) (cs : List Corner) → (is_among v cs ≡ true) ↔ ((j : ℕ) × (j < length cs) × (corner cs j ≡ v))
unfolding is_among
among-true v [] = (λ never. absurd (false≢true never), λ (j, below, is). absurd (omega arith))
among-true v (c ∷ cs) = Iff.trans (test-or (same c v) (is_among v cs) (same_true c v) (among-true v cs)) (there, back)
  where
    there : (c ≡ v) ⊎ ((j : ℕ) × (j < length cs) × (corner cs j ≡ v)) → (j : ℕ) × (j < length (c ∷ cs)) × (corner (c ∷ cs) j ≡ v)
    there (inl is) = (0, omega arith, is)
    there (inr (j, below, is)) = (suc j, omega arith, is)

    back : (j : ℕ) × (j < length (c ∷ cs)) × (corner (c ∷ cs) j ≡ v) → (c ≡ v) ⊎ ((j : ℕ) × (j < length cs) × (corner cs j ≡ v))
    back (zero, below, is) = inl is
    back (suc j, below, is) = inr (j, omega arith, is)

pub repeat-true : (ps : List Corner) (i : ℕ) → i < length ps → (is_repeat ps i ≡ true) ↔ Repeats ps i
repeat-true ps i below = (
  λ holds. (let (j, known, is) = (among-true (corner ps i) (take i ps)).0 holds in
      let earlier : j < i = omega (arith, length-take i ps) in
      (j, earlier, sym (get_or-take i ps j origin earlier) ∙ is)),
  λ (j, earlier, is). (among-true (corner ps i) (take i ps)).1
      (j, omega (arith, length-take i ps), get_or-take i ps j origin earlier ∙ is),
)

-- ---- numbers
-- v has a number among the corners, or it is none of them
number_from-is : (k : ℕ) (cs : List Corner) (v : Corner)
    → ((j : ℕ) × (j < length cs) × (corner cs j ≡ v) × (number_from k cs v ≡ pos (k + j)))
    ⊎ (((j : ℕ) → j < length cs → corner cs j ≢ v) × (number_from k cs v ≡ negsuc 1))
unfolding number_from
number_from-is k [] v = inr (λ j below. absurd (omega arith), refl)
number_from-is k (c ∷ cs) v = go (same c v) refl (number_from-is (suc k) cs v)
  where
    go : (t : Bool) → same c v ≡ t
        → ((j : ℕ) × (j < length cs) × (corner cs j ≡ v) × (number_from (suc k) cs v ≡ pos (suc k + j)))
        ⊎ (((j : ℕ) → j < length cs → corner cs j ≢ v) × (number_from (suc k) cs v ≡ negsuc 1))
        → ((j : ℕ) × (j < length (c ∷ cs)) × (corner (c ∷ cs) j ≡ v)
        × (cond t (pos k) (number_from (suc k) cs v) ≡ pos (k + j)))
        ⊎ (((j : ℕ) → j < length (c ∷ cs) → corner (c ∷ cs) j ≢ v)
        × (cond t (pos k) (number_from (suc k) cs v) ≡ negsuc 1))
    go true is later = let at : k ≡ k + 0 = omega arith in inl (0, omega arith, (same_true c v).0 is, ap pos at)
    go false not (inl (j, below, is, number)) =
        let at : suc k + j ≡ k + suc j = omega arith in inl (suc j, omega arith, is, number ∙ ap pos at)
    go false not (inr (none, number)) = inr (no_other, number)
      where
        no_other : (j : ℕ) → j < length (c ∷ cs) → corner (c ∷ cs) j ≢ v
        no_other zero below = (test-false (same c v) (same_true c v)).0 not
        no_other (suc j) below = none j (omega arith)

-- ---- one mark
module _ (ps hs : List Corner) (i : ℕ) (below : i < length ps) where
  pub mark-is : IsMark ps hs i (mark ps hs i)
  mark-is = go (is_repeat ps i) refl (number_from-is 0 hs (corner ps i))
    where
      go : (t : Bool) → is_repeat ps i ≡ t
          → ((k : ℕ) × (k < length hs) × (corner hs k ≡ corner ps i) × (number_from 0 hs (corner ps i) ≡ pos (0 + k)))
          ⊎ (((k : ℕ) → k < length hs → corner hs k ≢ corner ps i) × (number_from 0 hs (corner ps i) ≡ negsuc 1))
          → IsMark ps hs i (cond t (negsuc 0) (number_from 0 hs (corner ps i)))
      go true is found = repeats ((repeat-true ps i below).0 is) refl
      go false not (inl (k, known, is, number)) =
          numbered ((test-false (is_repeat ps i) (repeat-true ps i below)).0 not) k known is (number ∙ ap pos (zero-add k))
      go false not (inr (none, number)) =
          unnumbered ((test-false (is_repeat ps i) (repeat-true ps i below)).0 not) none number

module _ {ps hs : List Corner} (polygon : Polygon hs) where
  -- a polygon has no two corners at one point
  pub mark-unique : {i : ℕ} {m n : ℤ} → IsMark ps hs i m → IsMark ps hs i n → m ≡ n
  mark-unique (repeats _ is) (repeats _ also) = is ∙ sym also
  mark-unique (repeats again _) (numbered not _ _ _ _) = absurd (not again)
  mark-unique (repeats again _) (unnumbered not _ _) = absurd (not again)
  mark-unique (numbered not _ _ _ _) (repeats again _) = absurd (not again)
  mark-unique (numbered _ k below at is) (numbered _ l known there also) =
      is ∙ ap pos (corner-number polygon k l below known (at ∙ sym there)) ∙ sym also
  mark-unique (numbered _ k below at _) (unnumbered _ none _) = absurd (none k below at)
  mark-unique (unnumbered not _ _) (repeats again _) = absurd (not again)
  mark-unique (unnumbered _ none _) (numbered _ k below at _) = absurd (none k below at)
  mark-unique (unnumbered _ _ is) (unnumbered _ _ also) = is ∙ sym also

-- ---- all marks
module _ (f : ℕ → ℤ) where
  singles-length : (n : ℕ) → length (joined (λ i. f i ∷ []) n) ≡ n
  unfolding fold
  singles-length zero = refl
  singles-length (suc n) = simp length-append (omega (arith, singles-length n))

  singles-at : (n i : ℕ) → i < n → get_or (joined (λ j. f j ∷ []) n) i (pos 0) ≡ f i
  unfolding fold
  singles-at zero i below = absurd (omega arith)
  singles-at (suc n) i below = elim (dec_lt i n) [
    | yes less ↦ get_or-append (joined (λ j. f j ∷ []) n) (f n ∷ []) (pos 0) i (omega (arith, singles-length n))
        ∙ singles-at n i less
    | no not ↦ let last : i ≡ length (joined (λ j. f j ∷ []) n) = omega (arith, singles-length n) in
        let same : i ≡ n = omega arith in
        ap (λ j. get_or (joined (λ j. f j ∷ []) n ++ (f n ∷ [])) j (pos 0)) last
        ∙ get_or-append_seam (joined (λ j. f j ∷ []) n) (f n) [] (pos 0) ∙ ap f (sym same)
  ]

module _ (ps hs : List Corner) where
  pub marks-length : length (marks ps hs) ≡ length ps
  unfolding marks
  marks-length = singles-length (mark ps hs) (length ps)

  pub marks-at : (i : ℕ) → i < length ps → get_or (marks ps hs) i (pos 0) ≡ mark ps hs i
  unfolding marks
  marks-at i below = singles-at (mark ps hs) (length ps) i below

  pub marks-are : AreMarks ps hs (marks ps hs)
  marks-are = record { long = marks-length; each = λ i below. rw (marks-at i below) (mark-is ps hs i below) }

  pub marks-unique : Polygon hs → {ms : List ℤ} → AreMarks ps hs ms → ms ≡ marks ps hs
  marks-unique polygon {ms} are =
      ext_get_or (pos 0) ms (marks ps hs) (are.long ∙ sym marks-length)
      (λ i below. (let known : i < length ps = omega (arith, are.long) in
      mark-unique polygon (are.each i known) (marks-are.each i known)))

-- ---- a corner's number
number_of : {ps hs : List Corner} {i k : ℕ} → IsMark ps hs i (pos k) → (¬ Repeats ps i) × (corner hs k ≡ corner ps i)
number_of (repeats _ is) = absurd (let z : ◌≡◌ {A = ℕ} 0 1 = cc in omega arith)
number_of {hs} {k} (numbered not l below at is) = let same : k ≡ l = cc in (not, ap (λ j. corner hs j) same ∙ at)
number_of (unnumbered _ _ is) = absurd (let z : ◌≡◌ {A = ℕ} 0 1 = cc in omega arith)

-- of two points with one number the later would repeat the earlier
pub marked-once : {ps hs : List Corner} {i j k : ℕ} → IsMark ps hs i (pos k) → IsMark ps hs j (pos k) → i ≡ j
marked-once {i} {j} of-i of-j =
    let (not-i, at_i) = number_of of-i in let (not-j, at_j) = number_of of-j in
    elim (dec_lt i j) [
      | yes less ↦ absurd (not-j (i, less, sym at_i ∙ at_j))
      | no not ↦ elim (dec_lt j i) [
        | yes more ↦ absurd (not-i (j, more, sym at_j ∙ at_i))
        | no same ↦ omega arith
      ]
    ]

-- the first of the points at one place
first_of : (ps : List Corner) (n i : ℕ) → i < n → i < length ps
    → (j : ℕ) × (j < length ps) × (corner ps j ≡ corner ps i) × (¬ Repeats ps j)
first_of ps zero i less below = absurd (omega arith)
first_of ps (suc n) i less below = go (is_repeat ps i) refl (first_of ps n)
  where
    go : (t : Bool) → is_repeat ps i ≡ t
        → ((k : ℕ) → k < n → k < length ps → (j : ℕ) × (j < length ps) × (corner ps j ≡ corner ps k) × (¬ Repeats ps j))
        → (j : ℕ) × (j < length ps) × (corner ps j ≡ corner ps i) × (¬ Repeats ps j)
    go true is before =
        let (k, earlier, at) = (repeat-true ps i below).0 is in
        let (j, known, there, not) = before k (omega arith) (omega arith) in
        (j, known, there ∙ at, not)
    go false not before = (i, below, refl, (test-false (is_repeat ps i) (repeat-true ps i below)).0 not)

pub marked-first : (ps hs : List Corner) (k i : ℕ) → k < length hs → i < length ps → corner ps i ≡ corner hs k
    → (j : ℕ) × (j < length ps) × (corner ps j ≡ corner hs k) × IsMark ps hs j (pos k)
marked-first ps hs k i known below is =
    let (j, j-below, at, not) = first_of ps (suc i) i (omega arith) below in
    (j, j-below, at ∙ is, numbered not k known (sym (at ∙ is)) refl)

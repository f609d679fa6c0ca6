-- Laws of a text that is made part by part.
--     appended-append, joined    two lists are appended as one
--     appended-nil, appended-snoc    no list; a list and a byte after it
--     appended-text, text_of-text    these are texts
--     text_of-appended      a text of some bytes, to which others that fit are appended, is the text of both
use Prim.Native.Nat.{ℕ, suc, ◌+◌, ◌-◌, ◌≤◌, ◌<◌}
use mathlib.Core.Bool.{Bool, true, false, cond}
use mathlib.Core.Path.{◌≡◌, refl, sym, ◌∙◌}
use mathlib.Core.List.{List, [], ◌∷◌, ◌++◌, append-nil, append_assoc}
use native.Mathlib.Omega.{arith}
use borrow.Author.Tests.{lt-ltb, ltb-true}
use lib.Dec.{ltb}
use lib.ListN.{length, replicate, set, length-append, length-replicate, length-set}
use lib.Seq.{set_at}
use Rattle.text.specs.declared.output.Text.{Text}
use Rattle.text.specs.Output.{room, text_of}
use Rattle.text.specs.code.Output.{IsText, pushed, appended}

pub appended-append : (t : Text) (r s : List ℕ) → appended (appended t r) s ≡ appended t (r ++ s)
unfolding appended
appended-append t [] s = refl
appended-append t (b ∷ r) s = appended-append (pushed t b) r s

-- the same of texts that are known to come about so
pub joined : (t : Text) (r s : List ℕ) {u v : Text} → u ≡ appended t r → v ≡ appended u s → v ≡ appended t (r ++ s)
joined t r s first second = rw (second, first) (appended-append t r s)

pub appended-nil : (t : Text) → t ≡ appended t []
unfolding appended
appended-nil t = refl

pub appended-snoc : (t : Text) (s : List ℕ) (b : ℕ) → pushed (appended t s) b ≡ appended t (s ++ (b ∷ []))
unfolding appended
appended-snoc t s b = appended-append t s (b ∷ [])

pushed-text : (t : Text) (b : ℕ) → IsText t → IsText (pushed t b)
unfolding pushed
pushed-text t b is = by-test (ltb t.count room) refl
  where
    by-test : (less : Bool) → ltb t.count room ≡ less
        → IsText (cond less (record { count = t.count + 1; bytes = set t.bytes t.count b }) t)
    by-test true below = record { fits = omega (arith, ltb-true t.count room below); places = length-set t.bytes t.count b ∙ is.places }
    by-test false full = is

pub appended-text : (t : Text) (s : List ℕ) → IsText t → IsText (appended t s)
unfolding appended
appended-text t [] is = is
appended-text t (b ∷ s) is = appended-text (pushed t b) s (pushed-text t b is)

pub text_of-text : (s : List ℕ) → length s ≤ room → IsText (text_of s)
unfolding text_of
text_of-text s fits = record { fits = fits; places = simp (length-append, length-replicate) (omega arith) }

-- a place that is not used yet takes the next byte
filled : (s : List ℕ) (b k : ℕ) → set (s ++ replicate (suc k) 0) (length s) b ≡ (s ++ (b ∷ [])) ++ replicate k 0
filled s b k = set_at s 0 (replicate k 0) b (length s) refl ∙ sym (append_assoc s (b ∷ []) (replicate k 0))

text_of-pushed : (s : List ℕ) (b : ℕ) → length s < room → pushed (text_of s) b ≡ text_of (s ++ (b ∷ []))
unfolding text_of pushed
text_of-pushed s b fits =
    let left : room - length s ≡ suc (room - length (s ++ (b ∷ []))) = simp length-append (omega arith) in
    rw (lt-ltb (length s) room fits, left, filled s b, length-append)

pub text_of-appended : (r s : List ℕ) → length (r ++ s) ≤ room → appended (text_of r) s ≡ text_of (r ++ s)
unfolding appended
text_of-appended r [] fits = rw append-nil
text_of-appended r (b ∷ s) fits =
    let longer : length ((r ++ (b ∷ [])) ++ s) ≤ room = rw append_assoc fits in
    let fits_one : length r < room = omega (arith, length-append r (b ∷ s)) in
    rw (text_of-pushed r b fits_one, text_of-appended (r ++ (b ∷ [])) s longer, append_assoc)

-- Laws of the words of a text.
--     run-prefix         a run is the longest prefix of such bytes
--     run-≤, run_past    a run is no longer than the text; past the end there is none
--     NoSeparator, IsWord    no byte of a text is a separator; a word is such a text that is not empty
--     words-none, words-separator, words-word, words_last    the rules of `words`: the empty text has none, a
--                                                            separator before a text gives
--                        none, and a word before a separator, or at the end, is one
--     words-are-words    every one of them is a word
--     next_word, no_word, past_words    the first word from a place on, as the code finds it, and where there is none
--     at-end             no word stands from a place on: the separators that stand there reach the end
use Prim.Native.Nat.{ℕ, suc, ◌+◌, ◌≤◌, ◌<◌}
use mathlib.Core.Bool.{Bool, true, false, cond, not}
use mathlib.Core.Path.{◌≡◌, refl, ap, ◌∙◌}
use mathlib.Core.List.{List, [], ◌∷◌, ◌++◌, append_assoc, append-nil}
use mathlib.Core.List.Memᴰ
use mathlib.Core.List.{Memᴰ}
use mathlib.Core.Logic.{⊎_elim}
use native.Mathlib.Numerals.{one-add}
use native.Mathlib.Omega.{arith}
use borrow.Author.Tests.{leb-true, leb-false, ltb-true, ltb-false}
use lib.Dec.{leb, ltb}
use Rattle.std.specs.List.{prefix_len}
use Rattle.std.proofs.lemmas.List.Sums.{prefix_len-le-length, prefix_len-drop_all}
use lib.ListN.{length, take, drop, length-drop, drop_of_length-le}
use lib.Seq.{drop-drop, take-append_seam, drop-append_seam}
use Rattle.text.specs.Words.{is_separator, ended, words_from, words}
use Rattle.text.specs.code.Words.{is_of, run, is_empty}

pub run-prefix : (separators : Bool) (s : List ℕ) → prefix_len (is_of separators) s ≡ run separators s
unfolding run
run-prefix separators [] = refl
run-prefix separators (b ∷ s) = rw (run-prefix separators s, one-add (run separators s))

pub run-≤ : (separators : Bool) (s : List ℕ) → run separators s ≤ length s
run-≤ separators s = rw run-prefix at (prefix_len-le-length (is_of separators) s)

pub run_past : (separators : Bool) (s : List ℕ) (i : ℕ) → length s ≤ i → run separators (drop i s) ≡ 0
run_past separators s i past = rw run-prefix at (prefix_len-drop_all (is_of separators) s i past)

pub words-none : words [] ≡ []
unfolding words_from
words-none = refl

pub words-separator : (b : ℕ) (s : List ℕ) → is_separator b ≡ true → words (b ∷ s) ≡ words s
unfolding words_from
words-separator b s splits = rw splits

-- a word that has begun goes on to the next separator
word-goes-on : (b : ℕ) (w s : List ℕ)
    → words_from (b ∷ w) s ≡ (b ∷ (w ++ take (run false s) s)) ∷ words (drop (run false s) s)
unfolding words_from run
word-goes-on b w [] = rw append-nil
word-goes-on b w (x ∷ s) = by-test (is_separator x) refl (word-goes-on b (w ++ (x ∷ [])) s)
  where
    by-test : (t : Bool) → is_separator x ≡ t
        → words_from (b ∷ (w ++ (x ∷ []))) s ≡ (b ∷ ((w ++ (x ∷ [])) ++ take (run false s) s)) ∷ words (drop (run false s) s)
        → cond t ((b ∷ w) ∷ words s) (words_from (b ∷ (w ++ (x ∷ []))) s)
        ≡ (b ∷ (w ++ take (cond (not t) (suc (run false s)) 0) (x ∷ s))) ∷ words (drop (cond (not t) (suc (run false s)) 0) (x ∷ s))
    by-test true splits onward = rw (splits, append-nil)
    by-test false other onward = rw append_assoc at onward

first_word : (s : List ℕ) → 0 < run false s → words s ≡ take (run false s) s ∷ words (drop (run false s) s)
unfolding words_from run
first_word [] some = absurd (omega arith)
first_word (b ∷ s) some = by-test (is_separator b) refl some
  where
    by-test : (t : Bool) → is_separator b ≡ t → 0 < cond (not t) (suc (run false s)) 0
        → cond t (words s) (words_from (b ∷ []) s)
        ≡ take (cond (not t) (suc (run false s)) 0) (b ∷ s) ∷ words (drop (cond (not t) (suc (run false s)) 0) (b ∷ s))
    by-test true splits none = absurd (omega arith)
    by-test false other begun = word-goes-on b [] s

abbrev pub NoSeparator : List ℕ → Type 0
NoSeparator w = (b : ℕ) → Memᴰ b w → is_separator b ≡ false

pub record IsWord (w : List ℕ) : Type 0 where
  pub some : 0 < length w
  pub whole : NoSeparator w

-- bytes that are no separators make the run after them longer
run-whole : (w s : List ℕ) → NoSeparator w → run false (w ++ s) ≡ length w + run false s
unfolding run
run-whole [] s whole = omega arith
run-whole (b ∷ w) s whole =
    rw (whole b (Memᴰ.head refl), run-whole w s (λ c there. whole c (Memᴰ.tail there))) (omega arith)

-- a word before a text that goes on with a separator, or is empty
word_first : (w s : List ℕ) → IsWord w → run false s ≡ 0 → words (w ++ s) ≡ w ∷ words s
word_first w s is ends =
    let long : run false (w ++ s) ≡ length w = omega (arith, run-whole w s is.whole) in
    first_word (w ++ s) (omega (arith, is.some)) ∙ rw (long, take-append_seam w s, drop-append_seam w s)

pub words-word : (w : List ℕ) (b : ℕ) (s : List ℕ) → IsWord w → is_separator b ≡ true → words (w ++ (b ∷ s)) ≡ w ∷ words s
unfolding run
words-word w b s is splits = rw (word_first w (b ∷ s) is (rw splits), words-separator b s splits)

pub words_last : (w : List ℕ) → IsWord w → words w ≡ w ∷ []
unfolding run words_from
words_last w is = rw append-nil at (word_first w [] is refl)

-- every one is a word: the one that has begun when it ends, and the others
ended-is-word : (v w : List ℕ) → NoSeparator v → Memᴰ w (ended v) → IsWord w
ended-is-word [] w whole there = absurd (Memᴰ.not-nil there)
ended-is-word (b ∷ v) w whole there = rw (Memᴰ.eq_of_singleton there) (record { some = omega arith; whole = whole })

none-whole : NoSeparator []
none-whole b there = absurd (Memᴰ.not-nil there)

longer-whole : (v : List ℕ) (b : ℕ) → NoSeparator v → is_separator b ≡ false → NoSeparator (v ++ (b ∷ []))
longer-whole v b whole other c there =
    ⊎_elim (whole c) (λ (last : Memᴰ c (b ∷ [])). ap is_separator (Memᴰ.eq_of_singleton last) ∙ other) (Memᴰ.append_cases v there)

from-are-words : (v s w : List ℕ) → NoSeparator v → Memᴰ w (words_from v s) → IsWord w
unfolding words_from
from-are-words v [] w whole there = ended-is-word v w whole there
from-are-words v (b ∷ s) w whole there =
    by-test (is_separator b) refl (from-are-words [] s w none-whole) (from-are-words (v ++ (b ∷ [])) s w) there
  where
    by-test : (t : Bool) → is_separator b ≡ t → (Memᴰ w (words s) → IsWord w)
        → (NoSeparator (v ++ (b ∷ [])) → Memᴰ w (words_from (v ++ (b ∷ [])) s) → IsWord w)
        → Memᴰ w (cond t (ended v ++ words s) (words_from (v ++ (b ∷ [])) s)) → IsWord w
    by-test true splits next longer among = ⊎_elim (ended-is-word v w whole) next (Memᴰ.append_cases (ended v) among)
    by-test false other next longer among = longer (longer-whole v b whole other) among

pub words-are-words : (s w : List ℕ) → Memᴰ w (words s) → IsWord w
words-are-words s w = from-are-words [] s w none-whole

-- separators before a text give no word, and none stands after them
skipped : (s : List ℕ) → words (drop (run true s) s) ≡ words s
unfolding words_from run
skipped [] = refl
skipped (b ∷ s) = by-test (is_separator b) refl (skipped s)
  where
    by-test : (t : Bool) → is_separator b ≡ t → words (drop (run true s) s) ≡ words s
        → words (drop (cond t (suc (run true s)) 0) (b ∷ s)) ≡ cond t (words s) (words_from (b ∷ []) s)
    by-test true splits onward = onward
    by-test false other onward = rw other

none_after : (s : List ℕ) → run true (drop (run true s) s) ≡ 0
unfolding run
none_after [] = refl
none_after (b ∷ s) = by-test (is_separator b) refl (none_after s)
  where
    by-test : (t : Bool) → is_separator b ≡ t → run true (drop (run true s) s) ≡ 0 → run true (drop (cond t (suc (run true s)) 0) (b ∷ s)) ≡ 0
    by-test true splits onward = onward
    by-test false other onward = rw other

-- a byte is a separator or is not
no_run : (s : List ℕ) → run true s ≡ 0 → run false s ≡ 0 → length s ≡ 0
unfolding run
no_run [] no-separator no_other = refl
no_run (b ∷ s) no-separator no_other = by-test (is_separator b) no-separator no_other
  where
    by-test : (t : Bool) → cond t (suc (run true s)) 0 ≡ 0 → cond (not t) (suc (run false s)) 0 ≡ 0 → suc (length s) ≡ 0
    by-test true one none = absurd (omega arith)
    by-test false none one = absurd (omega arith)

module _ (s : List ℕ) (from : ℕ) where
  abbrev start : ℕ
  start = from + run true (drop from s)

  -- after the separators
  beyond : drop (run true (drop from s)) (drop from s) ≡ drop start s
  beyond = drop-drop (run true (drop from s)) from s

  pub next_word : 0 < run false (drop start s)
      → words (drop from s) ≡ take (run false (drop start s)) (drop start s) ∷ words (drop (start + run false (drop start s)) s)
  next_word some =
      rw (← skipped (drop from s), beyond, ← drop-drop (run false (drop start s)) start s) (first_word (drop start s) some)

  pub no_word : run false (drop start s) ≡ 0 → length s ≤ start
  no_word none =
      let empty = no_run (drop start s) (rw beyond at (none_after (drop from s))) none in
      omega (arith, rw length-drop at empty)

  pub past_words : length s ≤ start → words (drop from s) ≡ []
  unfolding words_from
  past_words past = rw (← skipped (drop from s), beyond, drop_of_length-le s past)

  pub at-end : leb (length s) start ≡ is_empty (words (drop from s))
  at-end = by-test (leb (length s) start) refl (ltb 0 (run false (drop start s))) refl
    where
      by-test : (t : Bool) → leb (length s) start ≡ t → (u : Bool) → ltb 0 (run false (drop start s)) ≡ u → t ≡ is_empty (words (drop from s))
      by-test true past u k = rw (past_words (leb-true (length s) start past))
      by-test false before true some = rw (next_word (ltb-true 0 (run false (drop start s)) some))
      by-test false before false none =
          let no : run false (drop start s) ≡ 0 = omega (arith, ltb-false 0 (run false (drop start s)) none) in
          absurd (omega (arith, leb-false (length s) start before, no_word no))

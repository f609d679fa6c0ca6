-- `Text::bytes` pushes the bytes one after the other.
use Rattle.std.proofs.Common.{ℕ, ◌+◌, ◌≤◌, ◌<◌, List, length, get_or, drop, drop-cons, drop_of_length-le, add-one, ◌≡◌, sym, ◌∙◌, arith}
use Rattle.text.specs.declared.output.Text.{Text}
use Rattle.text.specs.code.Output.{pushed, appended}
use Rattle.text.proofs.output.Text.bytes.Goals as goal

-- the text with what is left after it stays the same
one_more : (t : Text) (s : List ℕ) (i : ℕ) → i < length s
    → appended t (drop i s) ≡ appended (pushed t (get_or s i 0)) (drop (i + 1) s)
unfolding appended
one_more t s i below = rw (add-one, drop-cons s i 0)

none_left : (t : Text) (s : List ℕ) (i : ℕ) → length s ≤ i → appended t (drop i s) ≡ t
unfolding appended
none_left t s i past = rw (drop_of_length-le s past)

pub loop-b-preserved : goal.loop-b-preserved
loop-b-preserved c =
    let l = c.loop-b in
    rw c.push.ensures (sym (one_more l.self _ l.b-index c.loop-b-test.true) ∙ l.invariant)

pub returns : goal.returns
returns c = sym (none_left _ _ c.loop-b.b-index (omega arith)) ∙ c.loop-b.invariant

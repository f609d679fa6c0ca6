-- `projection::answers::coordinate` computes exactly in 64 bits: the sum is below 2^47 in size.
use Prim.Native.Nat.{◌+◌, ◌*◌}
use lib.IntN.{ℤ, ◌+ℤ◌, ◌*ℤ◌}
use mir.Syntax.{w32, w64}
use Rattle.integers.specs.Size.{AtMost}
use Rattle.integers.proofs.Machine.{i32, i64, Exact, value, stored, plus, times, fits}
use Rattle.plane.specs.Range.{limit}
use Rattle.plane.specs.code.Range.{reach, product_limit}
use Rattle.projection.proofs.answers.coordinate.Goals as goal

start_is : {s : ℤ} → AtMost limit s → Exact limit s (i32 s)
start_is h = stored w32 (value h) tt

first : {l s : ℤ} → AtMost product_limit l → AtMost limit s → Exact (product_limit * limit) (l *ℤ s) (i64 l *ℤ i64 (i32 s))
first h k = times (stored w64 (value h) tt) (stored w64 (start_is k) tt)

second : {t r : ℤ} → AtMost product_limit t → AtMost reach r → Exact (product_limit * reach) (t *ℤ r) (i64 t *ℤ i64 r)
second h k = times (stored w64 (value h) tt) (stored w64 (value k) tt)

sum : {l s t r : ℤ} → AtMost product_limit l → AtMost limit s → AtMost product_limit t → AtMost reach r
    → Exact (product_limit * limit + product_limit * reach) (l *ℤ s +ℤ t *ℤ r) (i64 (i64 l *ℤ i64 (i32 s)) +ℤ i64 (i64 t *ℤ i64 r))
sum l s t r = plus (stored w64 (first l s) tt) (stored w64 (second t r) tt)

pub overflow_add-result : goal.overflow_add-result
overflow_add-result c = fits (sum c.requires.at_most c.requires.at_most_2 c.requires.at_most_3 c.requires.at_most_4) tt

pub returns : goal.returns
returns c = (stored w64 (sum c.requires.at_most c.requires.at_most_2 c.requires.at_most_3 c.requires.at_most_4) tt).exact

-- `editing::insertion::check_result` writes the result to a list of its own and checks that.
use mathlib.Core.Path.{◌≡◌, sym, ap, ◌∙◌}
use mathlib.Core.List.{List, ◌++◌}
use native.Mathlib.Omega.{arith}
use Prim.Native.Nat.{ℕ, ◌+◌, ◌*◌, ◌≤◌}
use lib.IntN.{ℤ}
use lib.ListN.{length, take, drop, length-append, length-take}
use lib.Seq.{take_at}
use Rattle.plane.specs.declared.Corner.{Corner}
use Rattle.plane.specs.Vector.{coordinates}
use Rattle.outline.specs.Corners.{corners}
use Rattle.outline.proofs.CornersLaws.{corners-coordinates}
use Rattle.edit.specs.Insertion.{inserted}
use Rattle.edit.specs.code.Insertion.{check_result}
use Rattle.edit.proofs.Inserted.{length_inserted, numbers-inserted, inserted-in-range}
use Rattle.editing.proofs.insertion.check_result.Goals as goal

-- the numbers w of the result, at the beginning of a longer list, of which they are taken again
module _ (s : List ℤ) (k : ℕ) (v : Corner) {n : ℕ} (count : n ≡ length (corners s)) where
  numbers : length (coordinates (inserted k v (corners s))) ≡ 2 * (n + 1)
  numbers = rw count (numbers-inserted k v (corners s))

  module _ (rest : List ℤ) {w : List ℤ} (written : w ≡ coordinates (inserted k v (corners s))) where
    reaches : 2 * (n + 1) ≤ length (w ++ rest)
    reaches = simp length-append (omega (arith, ap length written, numbers))

    again : corners (take (2 * (n + 1)) (w ++ rest)) ≡ inserted k v (corners s)
    again = rw (take_at w rest (2 * (n + 1)) (ap length written ∙ numbers), written) (corners-coordinates (inserted k v (corners s)))

pub slice_bounds-write_with-end : goal.slice_bounds-write_with-end
slice_bounds-write_with-end c = rw length-take (omega (arith, c.no_numbers-result.ensures))

pub write_with-requires : goal.write_with-requires
write_with-requires c =
    record {
      known = c.requires.k_in_bounds;
      long = sym (slice_bounds-write_with-end c) ∙ sym (numbers _ c.args.k c.args.v c.count.ensures);
    }

pub slice_bounds-result-end-2 : goal.slice_bounds-result-end-2
slice_bounds-result-end-2 c =
    reaches _ _ _ c.count.ensures _ c.write_with.ensures

pub slice_bounds-check_shape-end : goal.slice_bounds-check_shape-end
slice_bounds-check_shape-end c =
    let rest = drop (2 * (c.count.result + 1)) c.no_numbers-result.result in
    rw length-take (omega (arith, reaches _ c.args.k c.args.v c.count.ensures rest c.write_with.ensures))

pub check_shape-requires : goal.check_shape-requires
check_shape-requires c =
    rw (again _ _ _ c.count.ensures _ c.write_with.ensures) (record {
      fewest_in_bounds =
          omega (arith, c.requires.fewest_in_bounds, length_inserted c.args.k c.args.v (corners c.args.s.now));
      all_in_range = inserted-in-range _ _ _ c.requires.k_in_bounds c.requires.in_range c.requires.all_in_range;
    })

pub returns : goal.returns
unfolding check_result
returns c =
    rw (again _ _ _ c.count.ensures _ c.write_with.ensures) at c.check_shape.ensures

-- `wrapping::marks::is_repeat` passes over the earlier points.
use Rattle.std.proofs.Common.{rules, ◌≡◌, ◌∙◌, List, [], ◌∷◌, arith, refl, ap, ◌||◌}
use Rattle.std.proofs.lemmas.Iterator.{YieldsList-from_range}
use Rattle.std.proofs.lemmas.Iterator.Search.{any_from_yields_List}
use Rattle.std.specs.List.{list_any, range_with_len}
use borrow.Author.Tests.{tests}
use Rattle.plane.specs.declared.Corner.{Corner}
use Rattle.plane.specs.code.Tests.{same}
use Rattle.plane.proofs.Tests.{same-is}
use Rattle.outline.specs.Corners.{corners, corner, origin}
use Rattle.hull.specs.code.Marks.{is_among}
use Rattle.wrapping.proofs.PlacesLaws.{any-places}
use Rattle.wrapping.proofs.marks.is_repeat.Goals as goal

among-any : (v : Corner) (cs : List Corner) → list_any (λ c. same c v) cs ≡ is_among v cs
unfolding is_among
among-any v [] = refl
among-any v (c ∷ cs) = ap (λ r. same c v || r) (among-any v cs)

pub returns : goal.returns
returns c =
    let cs = corners c.args.s.now in
    let test = λ (p : Corner). same p c.corner-v.result in
    let any : c.any.result ≡ list_any (λ j. test (corner cs j)) (range_with_len 0 c.args.i) =
    any_from_yields_List (λ j. test (corner cs j)) _ _ _ c.any.ensures.ran (YieldsList-from_range 0 c.args.i c.args.i refl (omega arith))
    (λ x b q k. search (rules, tests, same-is)) in
    any ∙ any-places test cs origin 0 c.args.i (omega arith) ∙ rw c.corner-v.ensures (among-any _ _)

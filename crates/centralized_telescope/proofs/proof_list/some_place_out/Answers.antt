-- `some_place_out`: a place that `any` finds is one that the definition does.
use Rattle.std.proofs.Common.{leb, ◌∙◌, rules, tests}
use Rattle.std.proofs.lemmas.Iterator.{YieldsList-from_slice}
use Rattle.std.proofs.lemmas.Iterator.Search.{any_from_yields_List}
use Rattle.centralized_telescope.specs.laws.ListsLaws.{any_some}
use Rattle.centralized_telescope.proofs.proof_list.some_place_out.Goals as goal

pub returns : goal.returns
returns c =
    let places = c.args.places.now in
    any_from_yields_List (leb c.args.len) _ _ c.any.result c.any.ensures.ran (YieldsList-from_slice places cc) (λ x b q k. search (rules, tests))
    ∙ any_some (leb c.args.len) places

-- `some_mark_over`: a mark that `any` finds is one that the definition does.
use Rattle.std.proofs.Common.{ltb, ◌∙◌, rules, tests}
use Rattle.std.proofs.lemmas.Iterator.{YieldsList-from_slice}
use Rattle.std.proofs.lemmas.Iterator.Search.{any_from_yields_List}
use Rattle.centralized_telescope.specs.laws.ListsLaws.{any_some}
use Rattle.centralized_telescope.proofs.types.some_mark_over.Goals as goal

pub returns : goal.returns
returns c =
    let marks = c.args.marks.now in
    any_from_yields_List (ltb 1) _ _ c.any.result c.any.ensures.ran (YieldsList-from_slice marks cc) (λ x b q k. search (rules, tests))
    ∙ any_some (ltb 1) marks

-- `some_over_zero`: a byte that `any` finds is one that the definition does.
use Rattle.std.proofs.Common.{ltb, ◌∙◌, rules, tests}
use Rattle.std.proofs.lemmas.Iterator.{YieldsList-from_slice}
use Rattle.std.proofs.lemmas.Iterator.Search.{any_from_yields_List}
use Rattle.centralized_telescope.specs.laws.ListsLaws.{any_some}
use Rattle.centralized_telescope.proofs.ticket.some_over_zero.Goals as goal

pub returns : goal.returns
returns c =
    let bytes = c.args.bytes.now in
    any_from_yields_List (ltb 0) _ _ c.any.result c.any.ensures.ran (YieldsList-from_slice bytes cc) (λ x b q k. search (rules, tests))
    ∙ any_some (ltb 0) bytes

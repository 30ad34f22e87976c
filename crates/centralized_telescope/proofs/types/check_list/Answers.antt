-- `check_list`: the answer by what is found.
use Rattle.std.proofs.Common.{refl, ◌∙◌}
use Rattle.centralized_telescope.specs.core.LentLists.{lent}
use Rattle.centralized_telescope.proofs.ListAnswers.{found}
use Rattle.centralized_telescope.proofs.types.check_list.Goals as goal

pub returns : goal.returns
returns c =
    let ends = c.find_in_ends.ensures in
    c.list_answer.ensures
    ∙ found (lent c.args.list) _ _ _ _ _ refl refl c.some_mark_over.ensures ends.wrong ends.long

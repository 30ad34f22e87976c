-- `all_cases`: the theorem.
use Rattle.centralized_telescope.proofs.CasesHold.{all_cases}
use Rattle.centralized_telescope.proofs.theorems.all_cases.Goals as goal

pub returns : goal.returns
returns c = all_cases

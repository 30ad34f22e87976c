-- `cases_served`: the theorem.
use Rattle.centralized_telescope.proofs.CasesHold.{cases_served}
use Rattle.centralized_telescope.proofs.theorems.cases_served.Goals as goal

pub returns : goal.returns
returns c = cases_served

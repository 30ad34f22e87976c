-- `steps_not_passed`: the theorem.
use Rattle.centralized_telescope.proofs.PlanHolds.{steps_not_passed}
use Rattle.centralized_telescope.proofs.theorems.steps_not_passed.Goals as goal

pub returns : goal.returns
returns c = steps_not_passed

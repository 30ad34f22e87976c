-- `plan_needed`: the theorem.
use Rattle.centralized_telescope.proofs.PlanHolds.{plan_needed}
use Rattle.centralized_telescope.proofs.theorems.plan_needed.Goals as goal

pub returns : goal.returns
returns c = plan_needed

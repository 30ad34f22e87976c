-- `plan_suffices`: the theorem.
use Rattle.centralized_telescope.proofs.PlanHolds.{plan_suffices}
use Rattle.centralized_telescope.proofs.theorems.plan_suffices.Goals as goal

pub returns : goal.returns
returns c = plan_suffices

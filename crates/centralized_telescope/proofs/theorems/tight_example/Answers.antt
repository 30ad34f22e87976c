-- `tight_example`: the theorem.
use Rattle.centralized_telescope.proofs.PlanHolds.{tight_example}
use Rattle.centralized_telescope.proofs.theorems.tight_example.Goals as goal

pub returns : goal.returns
returns c = tight_example

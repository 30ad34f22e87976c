-- `demand_3`: the theorem.
use Rattle.centralized_telescope.proofs.DemandHolds.{demand_3}
use Rattle.centralized_telescope.proofs.theorems.demand_3.Goals as goal

pub returns : goal.returns
returns c = demand_3

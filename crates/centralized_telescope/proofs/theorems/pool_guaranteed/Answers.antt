-- `pool_guaranteed`: the theorem.
use Rattle.centralized_telescope.proofs.PoolHolds.{pool_guaranteed}
use Rattle.centralized_telescope.proofs.theorems.pool_guaranteed.Goals as goal

pub returns : goal.returns
returns c = pool_guaranteed

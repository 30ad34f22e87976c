-- `pool_as_one_list`: the theorem.
use Rattle.centralized_telescope.proofs.PoolHolds.{pool_as_one_list}
use Rattle.centralized_telescope.proofs.theorems.pool_as_one_list.Goals as goal

pub returns : goal.returns
returns c = pool_as_one_list

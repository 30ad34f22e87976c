-- `pair_proves`: the theorem.
use Rattle.centralized_telescope.proofs.PrepareHolds.{pair_proves}
use Rattle.centralized_telescope.proofs.theorems.pair_proves.Goals as goal

pub returns : goal.returns
returns c = pair_proves

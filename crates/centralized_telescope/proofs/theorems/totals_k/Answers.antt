-- `totals_k`: the theorem.
use Rattle.centralized_telescope.proofs.ShapeHolds.{totals_k}
use Rattle.centralized_telescope.proofs.theorems.totals_k.Goals as goal

pub returns : goal.returns
returns c = totals_k

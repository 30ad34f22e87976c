-- `counts_exact`: the theorem.
use Rattle.centralized_telescope.proofs.ShapeHolds.{counts_exact}
use Rattle.centralized_telescope.proofs.theorems.counts_exact.Goals as goal

pub returns : goal.returns
returns c = counts_exact

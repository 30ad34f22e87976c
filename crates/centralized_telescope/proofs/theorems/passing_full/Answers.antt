-- `passing_full`: the theorem.
use Rattle.centralized_telescope.proofs.ShapeHolds.{passing_full}
use Rattle.centralized_telescope.proofs.theorems.passing_full.Goals as goal

pub returns : goal.returns
returns c = passing_full

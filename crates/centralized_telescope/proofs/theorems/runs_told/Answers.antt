-- `runs_told`: the theorem.
use Rattle.centralized_telescope.proofs.PrepareHolds.{runs_told}
use Rattle.centralized_telescope.proofs.theorems.runs_told.Goals as goal

pub returns : goal.returns
returns c = runs_told

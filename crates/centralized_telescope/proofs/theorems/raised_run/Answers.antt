-- `raised_run`: the theorem.
use Rattle.centralized_telescope.proofs.RaisingHolds.{raised_run}
use Rattle.centralized_telescope.proofs.theorems.raised_run.Goals as goal

pub returns : goal.returns
returns c = raised_run

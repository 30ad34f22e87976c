-- `raised_try`: the theorem.
use Rattle.centralized_telescope.proofs.RaisingHolds.{raised_try}
use Rattle.centralized_telescope.proofs.theorems.raised_try.Goals as goal

pub returns : goal.returns
returns c = raised_try

-- `change_noticed`: the theorem.
use Rattle.centralized_telescope.proofs.PrepareHolds.{change_noticed}
use Rattle.centralized_telescope.proofs.theorems.change_noticed.Goals as goal

pub returns : goal.returns
returns c = change_noticed

-- `served_example`: the theorem.
use Rattle.centralized_telescope.proofs.DemandHolds.{served_example}
use Rattle.centralized_telescope.proofs.theorems.served_example.Goals as goal

pub returns : goal.returns
returns c = served_example

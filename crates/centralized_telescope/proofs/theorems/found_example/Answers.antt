-- `found_example`: the theorem.
use Rattle.centralized_telescope.proofs.FoundHolds.{found_example}
use Rattle.centralized_telescope.proofs.theorems.found_example.Goals as goal

pub returns : goal.returns
returns c = found_example

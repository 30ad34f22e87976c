-- `parties_example`: the theorem.
use Rattle.centralized_telescope.proofs.PartiesExampleHolds.{parties_example}
use Rattle.centralized_telescope.proofs.theorems.parties_example.Goals as goal

pub returns : goal.returns
returns c = parties_example

-- `raised_example`: the theorem.
use Rattle.centralized_telescope.proofs.RaisedExampleHolds.{raised_example}
use Rattle.centralized_telescope.proofs.theorems.raised_example.Goals as goal

pub returns : goal.returns
returns c = raised_example

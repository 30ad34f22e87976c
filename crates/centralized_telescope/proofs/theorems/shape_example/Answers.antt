-- `shape_example`: the theorem.
use Rattle.centralized_telescope.proofs.ShapeExampleHolds.{shape_example}
use Rattle.centralized_telescope.proofs.theorems.shape_example.Goals as goal

pub returns : goal.returns
returns c = shape_example

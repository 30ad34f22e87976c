-- `try_guaranteed`: the theorem.
use Rattle.centralized_telescope.proofs.TwoProductsHold.{try_guaranteed}
use Rattle.centralized_telescope.proofs.theorems.try_guaranteed.Goals as goal

pub returns : goal.returns
returns c = try_guaranteed

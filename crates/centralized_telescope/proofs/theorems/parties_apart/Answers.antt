-- `parties_apart`: the theorem.
use Rattle.centralized_telescope.proofs.TwoProductsHold.{parties_apart}
use Rattle.centralized_telescope.proofs.theorems.parties_apart.Goals as goal

pub returns : goal.returns
returns c = parties_apart

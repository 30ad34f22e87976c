-- `last_alone`: the theorem.
use Rattle.centralized_telescope.proofs.TwoProductsHold.{last_alone}
use Rattle.centralized_telescope.proofs.theorems.last_alone.Goals as goal

pub returns : goal.returns
returns c = last_alone

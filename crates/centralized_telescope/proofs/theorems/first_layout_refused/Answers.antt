-- `first_layout_refused`: the theorem.
use Rattle.centralized_telescope.proofs.FirstLayoutHolds.{first_refused}
use Rattle.centralized_telescope.proofs.theorems.first_layout_refused.Goals as goal

pub returns : goal.returns
returns c = first_refused

-- `blocks_counted`: the theorem.
use Rattle.centralized_telescope.proofs.TicketsHold.{blocks_counted}
use Rattle.centralized_telescope.proofs.theorems.blocks_counted.Goals as goal

pub returns : goal.returns
returns c = blocks_counted

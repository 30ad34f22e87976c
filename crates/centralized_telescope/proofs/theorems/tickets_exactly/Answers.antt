-- `tickets_exactly`: the theorem.
use Rattle.centralized_telescope.proofs.TicketsHold.{tickets_exactly}
use Rattle.centralized_telescope.proofs.theorems.tickets_exactly.Goals as goal

pub returns : goal.returns
returns c = tickets_exactly

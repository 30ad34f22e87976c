-- `ticket_writes_back`: the theorem.
use Rattle.centralized_telescope.proofs.TicketsHold.{writes_back}
use Rattle.centralized_telescope.proofs.theorems.ticket_writes_back.Goals as goal

pub returns : goal.returns
returns c = writes_back

-- `ticket_reads_back`: the theorem.
use Rattle.centralized_telescope.proofs.TicketsHold.{reads_back}
use Rattle.centralized_telescope.proofs.theorems.ticket_reads_back.Goals as goal

pub returns : goal.returns
returns c = reads_back

-- `ticket_judged_alike`: the theorem.
use Rattle.centralized_telescope.proofs.TicketsHold.{judged_alike}
use Rattle.centralized_telescope.proofs.theorems.ticket_judged_alike.Goals as goal

pub returns : goal.returns
returns c = judged_alike

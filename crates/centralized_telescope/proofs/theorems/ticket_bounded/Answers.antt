-- `ticket_bounded`: the theorem.
use Rattle.centralized_telescope.proofs.PlanHolds.{ticket_bounded}
use Rattle.centralized_telescope.proofs.theorems.ticket_bounded.Goals as goal

pub returns : goal.returns
returns c = ticket_bounded

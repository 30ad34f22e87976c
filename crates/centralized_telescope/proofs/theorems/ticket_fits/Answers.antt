-- `ticket_fits`: the theorem.
use Rattle.centralized_telescope.proofs.PlanHolds.{ticket_fits}
use Rattle.centralized_telescope.proofs.theorems.ticket_fits.Goals as goal

pub returns : goal.returns
returns c = ticket_fits

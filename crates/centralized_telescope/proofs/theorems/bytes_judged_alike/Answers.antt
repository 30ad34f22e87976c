-- `bytes_judged_alike`: the theorem.
use Rattle.centralized_telescope.proofs.TicketsHold.{bytes_judged_alike}
use Rattle.centralized_telescope.proofs.theorems.bytes_judged_alike.Goals as goal

pub returns : goal.returns
returns c = bytes_judged_alike

-- `verdict_exactly`: the theorem.
use Rattle.centralized_telescope.proofs.VerdictHolds.{verdict_exactly}
use Rattle.centralized_telescope.proofs.theorems.verdict_exactly.Goals as goal

pub returns : goal.returns
returns c = verdict_exactly

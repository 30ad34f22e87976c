-- `raised_answer`: the theorem.
use Rattle.centralized_telescope.proofs.RaisingHolds.{raised_answer}
use Rattle.centralized_telescope.proofs.theorems.raised_answer.Goals as goal

pub returns : goal.returns
returns c = raised_answer

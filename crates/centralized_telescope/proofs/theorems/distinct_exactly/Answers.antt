-- `distinct_exactly`: the theorem.
use Rattle.centralized_telescope.specs.laws.DistinctLaws.{distinct_exactly}
use Rattle.centralized_telescope.proofs.theorems.distinct_exactly.Goals as goal

pub returns : goal.returns
returns c = distinct_exactly

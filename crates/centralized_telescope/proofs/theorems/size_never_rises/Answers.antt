-- `size_never_rises`: the theorem.
use Rattle.centralized_telescope.specs.laws.ProofSizeLaws.{never_rises}
use Rattle.centralized_telescope.proofs.theorems.size_never_rises.Goals as goal

pub returns : goal.returns
returns c = never_rises

-- `size_never_falls`: the theorem.
use Rattle.centralized_telescope.specs.laws.ProofSizeLaws.{never_falls}
use Rattle.centralized_telescope.proofs.theorems.size_never_falls.Goals as goal

pub returns : goal.returns
returns c = never_falls

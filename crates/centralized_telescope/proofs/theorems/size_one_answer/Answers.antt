-- `size_one_answer`: the theorem.
use Rattle.centralized_telescope.specs.laws.ProofSizeLaws.{one_answer}
use Rattle.centralized_telescope.proofs.theorems.size_one_answer.Goals as goal

pub returns : goal.returns
returns c = one_answer

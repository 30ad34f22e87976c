-- `proof_listed`: the theorem.
use Rattle.centralized_telescope.specs.laws.ProofListLaws.{proof_listed}
use Rattle.centralized_telescope.proofs.theorems.proof_listed.Goals as goal

pub returns : goal.returns
returns c = proof_listed

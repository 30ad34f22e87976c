-- `hasher_hashes`: the theorem.
use Rattle.sampling.specs.laws.HasherLaws.{hasher_hashes}
use Rattle.sampling.proofs.theorems.hasher_hashes.Goals as goal

pub returns : goal.returns
returns c = hasher_hashes

-- `plus`: eight sums, word by word.
use Rattle.sampling.specs.core.Fips180.{plus}
use Rattle.sampling.proofs.sha256.State.plus.Goals as goal

pub returns : goal.returns
unfolding plus
returns c = cc

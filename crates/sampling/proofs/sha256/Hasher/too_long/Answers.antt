-- `too_long`: a new hasher's state and block.
use Rattle.sampling.specs.later.Hasher.{new_hasher, too_long}
use Rattle.sampling.proofs.sha256.Hasher.too_long.Goals as goal

pub returns : goal.returns
unfolding new_hasher too_long
returns c = rw c.new.ensures

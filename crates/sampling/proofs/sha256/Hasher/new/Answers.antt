-- `new`: the definition's own values.
use Rattle.sampling.specs.later.Hasher.{new_hasher}
use Rattle.sampling.proofs.sha256.Hasher.new.Goals as goal

pub returns : goal.returns
unfolding new_hasher
returns c = rw c.initial.ensures

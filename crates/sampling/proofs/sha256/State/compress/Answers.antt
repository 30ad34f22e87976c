-- `compress`: the rounds, and the sum with the hash value.
use Rattle.sampling.specs.core.Fips180.{compressed}
use Rattle.sampling.proofs.sha256.State.compress.Goals as goal

pub returns : goal.returns
unfolding compressed
returns c = cc

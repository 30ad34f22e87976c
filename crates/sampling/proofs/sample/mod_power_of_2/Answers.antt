-- `mod_power_of_2`: n - 1 is a mask of the bits below n's one.
use Rattle.sampling.proofs.PowerOfTwo.{power_positive, masked}
use Rattle.sampling.proofs.sample.mod_power_of_2.Goals as goal

pub overflow_sub-result : goal.overflow_sub-result
overflow_sub-result c = power_positive c.args.n c.requires

pub returns : goal.returns
returns c = masked c.args.n c.requires c.args.first

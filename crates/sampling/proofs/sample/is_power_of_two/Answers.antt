-- `is_power_of_two`: a number above 0 has a highest bit, and is a power of two where that is all of it.
use Rattle.std.proofs.Common.{rules}
use Rattle.sampling.proofs.PowerOfTwo.{some_bit, highest_bit_is_all}
use Rattle.sampling.proofs.sample.is_power_of_two.Goals as goal

pub overflow_sub-result : goal.overflow_sub-result
overflow_sub-result c = some_bit c.args.n c.requires (search rules)

pub returns : goal.returns
returns c = highest_bit_is_all c.args.n c.requires (search rules)

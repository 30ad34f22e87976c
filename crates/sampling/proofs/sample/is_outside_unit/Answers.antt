-- `is_outside_unit`: a NaN is no number, and any other double is judged by the two bounds.
use Rattle.std.proofs.Common.{rules}
use lib.Ieee.{of_bits}
use Rattle.sampling.specs.later.Threshold.{outside}
use Rattle.sampling.proofs.sample.is_outside_unit.Goals as goal

pub returns-then-q : goal.returns-then-q
unfolding of_bits outside
returns-then-q c = search rules

pub returns-else-q : goal.returns-else-q
unfolding of_bits outside
returns-else-q c = search rules

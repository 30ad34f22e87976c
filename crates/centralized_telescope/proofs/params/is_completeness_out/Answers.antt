-- `is_completeness_out`: a NaN is no number, and any other double is judged by the two bounds.
use Rattle.std.proofs.Common.{rules}
use lib.Ieee.{of_bits}
use Rattle.sampling.specs.later.Threshold.{outside}
use Rattle.centralized_telescope.proofs.params.is_completeness_out.Goals as goal

pub returns-then-c : goal.returns-then-c
unfolding of_bits outside
returns-then-c c = search rules

pub returns-else-c : goal.returns-else-c
unfolding of_bits outside
returns-else-c c = search rules

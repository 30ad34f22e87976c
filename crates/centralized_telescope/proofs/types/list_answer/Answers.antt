-- `list_answer`: the faults in the table's order.
use Rattle.std.proofs.Common.{arith}
use Rattle.std.proofs.lemmas.Bool.Decides.{nat_tests}
use Rattle.sampling.specs.core.FirstNumber.{first_number}
use Rattle.centralized_telescope.proofs.types.list_answer.Goals as goal

pub returns-then-ends-marks : goal.returns-then-ends-marks
unfolding first_number
returns-then-ends-marks c = grind (arith, nat_tests)

pub returns-then-ends-gt-MAX_ELEMENTS : goal.returns-then-ends-gt-MAX_ELEMENTS
unfolding first_number
returns-then-ends-gt-MAX_ELEMENTS c = grind (arith, nat_tests)

pub returns : goal.returns
unfolding first_number
returns c = grind (arith, nat_tests)

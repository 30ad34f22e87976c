-- `is_small`: each of the two comparisons is one of the clause's.
use lib.Ieee.{of_bits}
use Rattle.arguments.proofs.numbers.is_small.Goals as goal

pub returns-then-c : goal.returns-then-c
unfolding of_bits
returns-then-c c upto = (rw c.if-c.true tt, rw upto tt)

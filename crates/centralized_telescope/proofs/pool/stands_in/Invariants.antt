-- `stands_in`: what is in front of `low` stands before the element sought, what is from `high` on behind it.
use Rattle.std.proofs.Common.{◌-◌}
use Rattle.centralized_telescope.proofs.Sought.{Seeking}
use Rattle.centralized_telescope.proofs.pool.stands_in.Given as goal

abbrev pub invariant-loop-low : goal.invariant-loop-low
invariant-loop-low l = Seeking l.list l.list2 l.keys l.key l.low l.high

abbrev pub decreases-loop-low : goal.decreases-loop-low
decreases-loop-low l = l.high - l.low

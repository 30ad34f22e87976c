-- `list_added`: which of the places before `place` are added.
use Rattle.centralized_telescope.specs.inner.Held.{held}
use Rattle.centralized_telescope.specs.inner.Pooling.{Adding}
use Rattle.centralized_telescope.proofs.pool.list_added.Given as goal

abbrev pub invariant-loop-place : goal.invariant-loop-place
invariant-loop-place l = Adding (held l.list) (held l.list2) l.place l.count l.added

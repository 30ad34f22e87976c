-- A count from a round above full length goes along its bin, and along a bin it counts from rounds one length deeper.
use Rattle.std.proofs.Common.{◌+◌, ◌-◌, ◌*◌}
use Rattle.centralized_telescope.specs.inner.Visit.{try_held}
use Rattle.centralized_telescope.proofs.Tallying.{Along}
use Rattle.centralized_telescope.proofs.shape.+count_walk.Given as goal

abbrev pub decreases-count_from : goal.decreases-count_from
decreases-count_from l = 2 * (l.t.now.settings.params.proof_size - l.depth) + 1

abbrev pub decreases-count_along : goal.decreases-count_along
decreases-count_along l = 2 * (l.t.now.settings.params.proof_size - l.depth)

abbrev pub invariant-count_along-loop-place : goal.invariant-count_along-loop-place
invariant-count_along-loop-place l = Along (try_held l.fn.t) l.fn.h l.fn.depth l.fn.candidates l.fn.tally l.place-index l.tally

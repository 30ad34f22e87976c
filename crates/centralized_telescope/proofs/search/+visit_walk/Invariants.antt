-- Visit and walk call each other. A visit of a round above full length walks, and a walk visits one length deeper.
use Rattle.std.proofs.Common.{◌+◌, ◌-◌, ◌*◌, take}
use Rattle.centralized_telescope.specs.inner.Visit.{try_held}
use Rattle.centralized_telescope.proofs.Turn.{Looping}
use Rattle.centralized_telescope.proofs.search.+visit_walk.Given as goal

abbrev pub decreases-visit : goal.decreases-visit
decreases-visit l = 2 * (l.t.now.settings.params.proof_size - l.depth) + 1

abbrev pub decreases-walk : goal.decreases-walk
decreases-walk l = 2 * (l.t.now.settings.params.proof_size - l.depth)

abbrev pub invariant-walk-loop-place : goal.invariant-walk-loop-place
invariant-walk-loop-place l =
    Looping (record {
      of = try_held l.fn.t;
      search = l.fn.search.0;
      hash = l.fn.h;
      path = take l.depth l.initial.path;
      depth = l.depth;
      candidates = l.candidates;
      steps = l.fn.steps;
      old = l.initial.places;
    }) l.place-index l.count l.path l.places

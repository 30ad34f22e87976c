-- `prove_index`: from the search counter s on, the try gives what the whole of it is to give.
use Rattle.centralized_telescope.specs.inner.Visit.{try_held}
use Rattle.centralized_telescope.proofs.OneTry.{Trying}
use Rattle.centralized_telescope.proofs.search.prove_index.Given as goal

abbrev pub invariant-loop-s : goal.invariant-loop-s
invariant-loop-s l = Trying (try_held l.fn.t) l.s l.count l.places l.initial.places

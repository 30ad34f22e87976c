-- `prove_routine`: the tries from that of the retry counter r on end as the whole search does.
use Rattle.std.proofs.Common.{◌-◌}
use Rattle.centralized_telescope.specs.inner.Source.{meant}
use Rattle.centralized_telescope.specs.inner.SourceHeld.{source_held}
use Rattle.centralized_telescope.proofs.ManyTries.{Retrying}
use Rattle.centralized_telescope.proofs.search.prove_routine.Given as goal

abbrev pub invariant-loop-r : goal.invariant-loop-r
invariant-loop-r l =
    Retrying l.fn.p.params (meant (source_held l.fn.source)) (l.r - 1) l.steps l.table l.initial.table l.places l.initial.places

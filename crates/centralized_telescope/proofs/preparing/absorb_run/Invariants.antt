-- `absorb_run`: the head and the elements up to the place are absorbed or gathered.
use Rattle.centralized_telescope.specs.core.Elements.{elements}
use Rattle.centralized_telescope.specs.inner.Held.{held}
use Rattle.centralized_telescope.proofs.RunHashing.{Gathering}
use Rattle.centralized_telescope.proofs.preparing.absorb_run.Given as goal

abbrev pub invariant-loop-place : goal.invariant-loop-place
invariant-loop-place l = Gathering l.run.settings.params (elements (held l.list)) l.place l.hasher l.gathered l.used

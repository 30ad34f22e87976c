-- The source that a value of the code holds.
use Rattle.centralized_telescope.specs.inner.Held.{held}
use Rattle.centralized_telescope.specs.inner.Source.{Source}
use Rattle.centralized_telescope.specs.declared.source.Source.{Source as HeldSource}

abbrev pub source_held : HeldSource → Source
source_held s = record { first = held s.first; second = held s.second; added = s.added.now }

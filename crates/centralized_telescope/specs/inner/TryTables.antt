-- The try of a retry counter on a source, and a bin table that is the one for it.
use Rattle.std.specs.Prelude.{◌≡◌, ℕ, List, length, take}
use Rattle.centralized_telescope.specs.declared.params.Params.{Params}
use Rattle.centralized_telescope.specs.core.Bins.{table_of}
use Rattle.centralized_telescope.specs.core.Chains.{Try, try_of}
use Rattle.centralized_telescope.specs.core.Search.{bins_of}
use Rattle.centralized_telescope.specs.inner.Source.{Source, meant}

-- the try of a retry counter on a source
abbrev pub try_on : Params → Source → ℕ → Try
try_on p s R = try_of p (meant s) R

-- what is lent begins with its bin table
abbrev pub HasTable : Params → Source → ℕ → List ℕ → Type 0
HasTable p s R table =
    let own : List ℕ = table_of p.set_size (bins_of (try_on p s R)) in
    take (length own) table ≡ own

-- The chains of each length, summed up over trees.
use Rattle.std.specs.Prelude.{ℕ, ◌+◌, ◌-◌, ◌^◌, min, max}
use Rattle.shape.specs.declared.sums.Chains.{Chains}

abbrev pub no_chains : Chains
no_chains = record { total = 0; largest = 0 }

-- with the chains of one tree more
abbrev pub with_count : Chains → ℕ → Chains
with_count c n = record { total = min (c.total + n) (2 ^ 64 - 1); largest = max c.largest n }

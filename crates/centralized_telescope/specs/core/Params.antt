-- Document 01, Settings: their limits, and the check of them.
use Rattle.std.specs.Prelude.{ℕ, ◌-◌, ◌^◌, Bool, ◌||◌, [], ◌∷◌, nat_lt}
use Rattle.sampling.specs.core.FirstNumber.{line, first_number}
use Rattle.sampling.specs.declared.sample.U128.{U128}
use Rattle.centralized_telescope.specs.declared.params.Params.{Params}

-- ---- the settings

-- the settings, each a number, X by its high word and its low (02, N4)
abbrev pub settings_of : ℕ → ℕ → ℕ → ℕ → ℕ → ℕ → ℕ → Params
settings_of size proof retries width bound high low =
    let X : U128 = record { hi = high; lo = low } in
    record { set_size = size; proof_size = proof; max_retries = retries; search_width = width; dfs_bound = bound; x = X }

-- ---- the check of the settings

-- 01, Lent and given back, the limits of the settings
abbrev pub max_set_size : ℕ
max_set_size = 32768

abbrev pub max_proof_size : ℕ
max_proof_size = 1024

abbrev pub max_retries : ℕ
max_retries = 65535

abbrev pub max_search_width : ℕ
max_search_width = 2 ^ 32 - 1

abbrev pub max_dfs_bound : ℕ
max_dfs_bound = 2 ^ 48

-- n isn't 1 to hi
unfoldable pub not_one_to : ℕ → ℕ → Bool
not_one_to hi n = nat_lt n 1 || nat_lt hi n

-- 01, Lent and given back, refusal 1: set_size is 0 or over its limit
abbrev pub set_size_out : ℕ → Bool
set_size_out n = not_one_to max_set_size n

-- 01, Lent and given back, refusal 2: another of the whole numbers is over its limit. All may be 0
unfoldable pub limit_broken : Params → Bool
limit_broken p =
    nat_lt max_proof_size p.proof_size
    || (nat_lt max_retries p.max_retries || (nat_lt max_search_width p.search_width || nat_lt max_dfs_bound p.dfs_bound))

-- 01, Lent and given back, the order of the table: the number of the first refusal, or 0. Every X is lawful (02, N4)
unfoldable pub checked : Params → ℕ
checked p = first_number (line 1 (set_size_out p.set_size) ∷ line 2 (limit_broken p) ∷ [])

-- The prover's answer in numbers.
use mathlib.Core.Path.{◌≡◌}
use mathlib.Core.List.{List, []}
use Prim.Native.Nat.{ℕ}
use Rattle.centralized_telescope.specs.core.Prover.{Proved, proved_by}
use Rattle.std.specs.Prelude.{Result, Ok, Err}
use Rattle.centralized_telescope.specs.declared.errors.Refusal.{Refusal}
use Rattle.centralized_telescope.specs.declared.search.Search.{Search}
use Rattle.centralized_telescope.specs.declared.search.Search.TheVariants as search
use Rattle.harness_exports.specs.Exported.{with_counters, exported_search}

-- s is what the definition answers; number, counters and count don't hang on what is lent
pub exported_so : (s : Proved) (out : List ℕ) (a : Result Search Refusal) (k : ℕ) (places' table' out' : List ℕ)
    → proved_by a places' table' ≡ s
    → k ≡ (proved_by a [] []).number
    → out' ≡ with_counters (proved_by a [] []) out
    → (k, places', table', out') ≡ exported_search s out
exported_so s out (Ok (search.Found R S count)) k places' table' out' e ek eo = rw (ek, eo, ← e)
exported_so s out (Ok (search.NotFoundInBounds count)) k places' table' out' e ek eo = rw (ek, eo, ← e)
exported_so s out (Ok (search.NotFound count)) k places' table' out' e ek eo = rw (ek, eo, ← e)
exported_so s out (Err refusal) k places' table' out' e ek eo = rw (ek, eo, ← e)

-- 02, N8: two lists pooled, the call for the pool's size, the lookup by place, and the prover over the pool.
use Rattle.std.specs.Prelude.{ℕ, Bool, cond, List, [], ◌∷◌, ◌++◌, length, ◌==◌, nat_lt, Result, Ok, Err}
use Rattle.sampling.specs.core.FirstNumber.{line, first_number}
use Rattle.centralized_telescope.specs.core.Lists.{some_of}
use Rattle.centralized_telescope.specs.core.Refusals.{refusal_number}
use Rattle.centralized_telescope.specs.core.Elements.{Element, elements, element_at, list_check, Lent, max_elements}
use Rattle.centralized_telescope.specs.core.Params.{checked}
use Rattle.centralized_telescope.specs.core.Prover.{Proved, refused, by_search, room_refusals}
use Rattle.centralized_telescope.specs.later.Distinct.{same_element}
use Rattle.centralized_telescope.specs.declared.params.Params.{Params}
use Rattle.centralized_telescope.specs.declared.errors.Refusal.{Refusal}

-- ---- the pool

-- 02, N8, as in N2: an element equals one of a list
abbrev pub stands_in : List Element → Element → Bool
stands_in es e = some_of (same_element e) es

-- 02, N8: each element of the second list that equals none of the first. Those that repeat within it stay
unfoldable pub added_to : List Element → List Element → List Element
added_to first [] = []
added_to first (e ∷ es) = cond (stands_in first e) (added_to first es) (e ∷ added_to first es)

-- 02, N8: the first list, then those
abbrev pub pooled : List Element → List Element → List Element
pooled first second = first ++ added_to first second

-- of two lists as they are lent
abbrev pub pool : Lent → Lent → List Element
pool first second = pooled (elements first) (elements second)

-- ---- 02, N8: the first list's 4 and 5, then the second's, then 45 for a pool that is too large

unfoldable pub pool_refusal : Lent → Lent → ℕ
pool_refusal first second =
    first_number (list_check first ∷ list_check second ∷ line 45 (nat_lt max_elements (length (pool first second))) ∷ [])

-- ---- the size: 0 with the size, or the refusal's number with 0

unfoldable pub pool_size : Lent → Lent → ℕ × ℕ
pool_size first second =
    cond (pool_refusal first second == 0) (0, length (pool first second)) (pool_refusal first second, 0)

-- the number and the size for each answer
abbrev pub pool_size_by : Result ℕ Refusal → ℕ × ℕ
pool_size_by (Ok size) = (0, size)
pool_size_by (Err k) = (refusal_number k, 0)

-- ---- the lookup: the data of the element at a place of the pool; nothing past the pool, or where lists or pool are refused

unfoldable pub pool_data : Lent → Lent → ℕ → List ℕ
pool_data first second place =
    cond (pool_refusal first second == 0)
    (cond (nat_lt place (length (pool first second))) (element_at (pool first second) place).bytes [])
    []

-- ---- the prover over the pool

-- settings, lists and pool; then, as over a list of so many elements, 6 and 10
unfoldable pub pool_prover_refusal : Params → Lent → Lent → ℕ → ℕ → ℕ
pool_prover_refusal p first second places_len table_len =
    first_number (checked p ∷ pool_refusal first second ∷ room_refusals p (length (pool first second)) places_len table_len)

unfoldable pub proved_pool : Params → Lent → Lent → List ℕ → List ℕ → Proved
proved_pool p first second places table =
    let refusal : ℕ = pool_prover_refusal p first second (length places) (length table) in
    cond (refusal == 0) (by_search p (pool first second) places table) (refused refusal places table)

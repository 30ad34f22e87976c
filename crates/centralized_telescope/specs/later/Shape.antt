-- Document 02, N12: how many chains of each length a search counter has in a try, and how many of them pass.
use Rattle.std.specs.Prelude.{ℕ, ◌+◌, cond, List, [], ◌∷◌, map, length, count_by, ◌==◌, nat_lt, Result, Ok, Err}
use Rattle.std.specs.List.{range_with_len}
use Rattle.sampling.specs.core.FirstNumber.{line, first_number}
use Rattle.centralized_telescope.specs.declared.params.Params.{Params}
use Rattle.centralized_telescope.specs.declared.errors.Refusal.{Refusal}
use Rattle.centralized_telescope.specs.core.Refusals.{refusal_number}
use Rattle.centralized_telescope.specs.core.Params.{checked}
use Rattle.centralized_telescope.specs.core.Elements.{elements, list_check, Lent}
use Rattle.centralized_telescope.specs.core.Lists.{over}
use Rattle.centralized_telescope.specs.core.Bins.{bin_table}
use Rattle.centralized_telescope.specs.core.Chains.{Try, try_of, Chain}
use Rattle.centralized_telescope.specs.core.Search.{bins_of, chains_at, passing}
use Rattle.centralized_telescope.specs.core.Prover.{table_short}

-- ---- 02, N12, the counts

-- how many of some chains have so many places
abbrev pub number_of_length : List Chain → ℕ → ℕ
number_of_length cs l = count_by (λ (c : Chain). length c.places == l) cs

-- of every length from 0 to proof_size
unfoldable pub numbers_by_length : ℕ → List Chain → List ℕ
numbers_by_length proof_size cs = map (number_of_length cs) (range_with_len 0 (proof_size + 1))

-- ---- the answer: the number, how many chains pass, and the lent counts and the bin table afterwards

pub record Shaped : Type 0 where
  pub number : ℕ
  pub passing : ℕ
  pub counts : List ℕ
  pub table : List ℕ

abbrev pub shape_of : ℕ → ℕ → List ℕ → List ℕ → Shaped
shape_of number passed counts table = record { number = number; passing = passed; counts = counts; table = table }

-- the chains of a search counter that exist, which may be none: 50 for more than dfs_bound, the counts as they were; else the numbers over
-- the first counts lent
unfoldable pub by_chains : Try → ℕ → List ℕ → List ℕ → Shaped
by_chains T S counts table =
    let cs : List Chain = chains_at T S in
    cond (nat_lt T.settings.dfs_bound (length cs))
    (shape_of 50 0 counts table)
    (shape_of 0 (count_by (passing T) cs) (over (numbers_by_length T.settings.proof_size cs) counts) table)

-- 02, N12, the refusals before the bin table is filled: of 1 to 6 all that are about what is lent here; 49 for fewer counts than there are
-- lengths. Few elements are none
unfoldable pub shape_refusal : Params → Lent → ℕ → ℕ → ℕ
shape_refusal p lent counts_len table_len =
    first_number
    (checked p
    ∷ list_check lent
    ∷ line 6 (table_short p table_len)
    ∷ line 49 (nat_lt counts_len (p.proof_size + 1))
    ∷ [])

-- 02, N12: the call, with a retry counter and a search counter, each any number. The bin table is the try's, with 50 too
unfoldable pub shaped : Params → ℕ → ℕ → Lent → List ℕ → List ℕ → Shaped
shaped p R S lent counts table =
    let refusal : ℕ = shape_refusal p lent (length counts) (length table) in
    let T : Try = try_of p (elements lent) R in
    cond (refusal == 0) (by_chains T S counts (bin_table p.set_size (bins_of T) table)) (shape_of refusal 0 counts table)

-- 01's form for the answer of the call
abbrev pub shaped_by : Result ℕ Refusal → List ℕ → List ℕ → Shaped
shaped_by (Ok passed) counts table = shape_of 0 passed counts table
shaped_by (Err k) counts table = shape_of (refusal_number k) 0 counts table

-- Document 02, N5: the amounts that a run takes, from its settings and the longest data alone.
use Rattle.std.specs.Prelude.{ℕ, ◌+◌, ◌*◌, cond, [], ◌∷◌, ◌==◌, nat_lt, Result, Ok, Err}
use Rattle.centralized_telescope.specs.declared.params.Params.{Params}
use Rattle.centralized_telescope.specs.declared.planning.Amounts.{Amounts}
use Rattle.sampling.specs.core.FirstNumber.{line, first_number}
use Rattle.centralized_telescope.specs.core.Refusals.{refusal_number}
use Rattle.centralized_telescope.specs.declared.errors.Refusal.{Refusal}
use Rattle.centralized_telescope.specs.core.Params.{checked}
use Rattle.centralized_telescope.specs.core.Elements.{max_data_bytes}
use Rattle.centralized_telescope.specs.later.ElementBytes.{max_head_bytes}
use Rattle.centralized_telescope.specs.later.Blocks.{block_count}
use Rattle.centralized_telescope.specs.later.Tickets.{ticket_head_bytes}

-- 02, N5, the four amounts: places, bin-table numbers, the step count, and the blocks, 504 bytes each, rounded up (with N7's 24)
unfoldable pub amounts : Params → ℕ → Amounts
amounts p longest = record {
  places = p.proof_size;
  bin_table = 3 * p.set_size + 1;
  most_steps = p.max_retries * p.dfs_bound;
  ticket_blocks = block_count (ticket_head_bytes + p.proof_size * (max_head_bytes + longest));
}

-- 01, Lent and given back, refusals: every amount is 0
abbrev pub no_amounts : Amounts
no_amounts = record { places = 0; bin_table = 0; most_steps = 0; ticket_blocks = 0 }

-- 02, N5, refusals: the settings checked as by the prover, then 5 for a length above 4,096
unfoldable pub plan_refusal : Params → ℕ → ℕ
plan_refusal p longest = first_number (checked p ∷ line 5 (nat_lt max_data_bytes longest) ∷ [])

-- 02, N5, the answer: 0 and the amounts, or the number of the first refusal
unfoldable pub planned : Params → ℕ → ℕ × Amounts
planned p longest = cond (plan_refusal p longest == 0) (0, amounts p longest) (plan_refusal p longest, no_amounts)

-- 01's number and the amounts for each answer
abbrev pub planned_by : Result Amounts Refusal → ℕ × Amounts
planned_by (Ok a) = (0, a)
planned_by (Err k) = (refusal_number k, no_amounts)

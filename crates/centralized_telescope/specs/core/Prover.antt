-- Document 01, Search, and Lent and given back: the prover's answer, and the lent buffers afterwards.
use Rattle.std.specs.Prelude.{ℕ, zero, suc, ◌+◌, ◌*◌, Bool, cond, ◌||◌, List, [], ◌∷◌, length, ◌==◌, nat_le, nat_lt, Result, Ok, Err}
use Rattle.std.proofs.Math.Option.{Option, none, some}
use Rattle.centralized_telescope.specs.declared.params.Params.{Params}
use Rattle.centralized_telescope.specs.declared.search.Search.{Search}
use Rattle.centralized_telescope.specs.declared.errors.Refusal.{Refusal}
use Rattle.centralized_telescope.specs.declared.search.Search.TheVariants as search
use Rattle.centralized_telescope.specs.core.Params.{checked}
use Rattle.centralized_telescope.specs.core.Elements.{Element, elements, list_check, Lent}
use Rattle.centralized_telescope.specs.core.Lists.{over}
use Rattle.sampling.specs.core.FirstNumber.{line, first_number}
use Rattle.centralized_telescope.specs.core.Refusals.{refusal_number}
use Rattle.centralized_telescope.specs.core.Bins.{bin_table}
use Rattle.centralized_telescope.specs.core.Chains.{Chain, try_of}
use Rattle.centralized_telescope.specs.core.Search.{bins_of, searched}

-- the number, R, S and the step count; places and bin table afterwards
pub record Proved : Type 0 where
  pub number : ℕ
  pub retry : ℕ
  pub search : ℕ
  pub count : ℕ
  pub places : List ℕ
  pub table : List ℕ

-- the answer with these parts
abbrev pub answer_of : ℕ → ℕ → ℕ → ℕ → List ℕ → List ℕ → Proved
answer_of number R S count places table =
    record { number = number; retry = R; search = S; count = count; places = places; table = table }

-- 01, Lent and given back, 1 to 10: the number, zeros, and both buffers as they were
abbrev pub refused : ℕ → List ℕ → List ℕ → Proved
refused k places table = answer_of k 0 0 0 places table

-- 01, Lent and given back: the last try's bin table, or without a try the lent one
unfoldable pub table_after : Params → List Element → ℕ → List ℕ → List ℕ
table_after p es zero table = table
table_after p es (suc R) table = bin_table p.set_size (bins_of (try_of p es (suc R))) table

-- 01, Lent and given back: with a chain its counters and the count, and its places over the first ones lent. 01, Search: without one
-- 11 for a count from dfs_bound on, 12 for a lower one, with the count, and places as they were
unfoldable pub answered : Params → Option Chain → ℕ → ℕ → List ℕ → List ℕ → Proved
answered p (some c) R count places table = answer_of 0 R c.search count (over c.places places) table
answered p none R count places table = answer_of (cond (nat_le p.dfs_bound count) 11 12) 0 0 count places table

-- what a prover that refuses nothing answers
unfoldable pub by_search : Params → List Element → List ℕ → List ℕ → Proved
by_search p es places table =
    answered p (searched p es).proof (searched p es).made (searched p es).count places (table_after p es (searched p es).made table)

-- prover, 6: the bin table has too few numbers, or there are too few places
abbrev pub table_short : Params → ℕ → Bool
table_short p table_len = nat_lt table_len (3 * p.set_size + 1)

abbrev pub workspace_short : Params → ℕ → ℕ → Bool
workspace_short p places_len table_len = nat_lt places_len p.proof_size || table_short p table_len

-- prover, 6, then 10, NotEnoughElements: fewer elements than set_size
abbrev pub room_refusals : Params → ℕ → ℕ → ℕ → List ℕ
room_refusals p count places_len table_len = line 6 (workspace_short p places_len table_len) ∷ line 10 (nat_lt count p.set_size) ∷ []

-- the first refusal in the table's order, or 0, with so many places and bin-table numbers lent
unfoldable pub prover_refusal : Params → Lent → ℕ → ℕ → ℕ
prover_refusal p lent places_len table_len =
    first_number (checked p ∷ list_check lent ∷ room_refusals p (length lent.ends) places_len table_len)

unfoldable pub proved : Params → Lent → List ℕ → List ℕ → Proved
proved p lent places table =
    let refusal : ℕ = prover_refusal p lent (length places) (length table) in
    cond (refusal == 0) (by_search p (elements lent) places table) (refused refusal places table)

-- 01's number and values for each end of a search, with the lent buffers as they are left
abbrev pub search_by : Search → List ℕ → List ℕ → Proved
search_by (search.Found R S count) places table = answer_of 0 R.0 S.0 count places table
search_by (search.NotFoundInBounds count) places table = answer_of 11 0 0 count places table
search_by (search.NotFound count) places table = answer_of 12 0 0 count places table

-- the same for each answer of the prover
abbrev pub proved_by : Result Search Refusal → List ℕ → List ℕ → Proved
proved_by (Ok found) places table = search_by found places table
proved_by (Err k) places table = refused (refusal_number k) places table

-- The runs whose proof is another under a higher bound: three digests tell what passes, and with set_size 1 all else is known without a
-- hash.
use Rattle.std.proofs.Common.{◌≡◌, ℕ, suc, [], ◌∷◌, take, replicate, refl, ◌∙◌}
use mathlib.Core.Option.{Option, none, some}
use Rattle.sampling.specs.core.FirstNumber.{first_number}
use Rattle.centralized_telescope.specs.core.Lists.{some_of, first_of, up_to_first}
use Rattle.centralized_telescope.specs.core.Params.{not_one_to, limit_broken, checked}
use Rattle.centralized_telescope.specs.core.Elements.{elements, elements_from, end_wrong, malformed, data_long, too_large}
use Rattle.centralized_telescope.specs.core.Elements.{list_check, Lent, lent_of}
use Rattle.centralized_telescope.specs.core.Rounds.{start_hash}
use Rattle.centralized_telescope.specs.core.Bins.{places_from, by_bin, starts, table_of, bin_table}
use Rattle.centralized_telescope.specs.core.Chains.{Try, try_of, Chain}
use Rattle.centralized_telescope.specs.core.Search.{bin_list, grown, chains, chains_at, chains_from, existing, passing, try_count}
use Rattle.centralized_telescope.specs.core.Search.{try_finds, Searched, unless_found, tries_from, searched}
use Rattle.centralized_telescope.specs.core.Prover.{table_after, answered, by_search, prover_refusal}
use Rattle.centralized_telescope.specs.laws.RoundsLaws.{drawn_below_one, bin_of_one}
use Rattle.centralized_telescope.specs.later.RaisingClaims.{half_settings, half_run, RaisedExample}
use Rattle.centralized_telescope.proofs.ProveAnswers.{run_served}
use Rattle.centralized_telescope.proofs.RaisedDigests.{first_no, second_yes, next_yes}

-- ---- the tries

abbrev lent : Lent
lent = lent_of (97 ∷ []) (1 ∷ []) (0 ∷ []) (0 ∷ [])

abbrev start : ℕ → ℕ → Chain
start R S = record { search = S; places = []; last = start_hash R S }

module _ (retries bound : ℕ) where
  abbrev T : ℕ → Try
  T R = try_of (half_settings retries bound) (elements lent) R

  two_chains : (R : ℕ) → existing (T R) ≡ start R 0 ∷ start R 1 ∷ []
  unfolding chains_from chains_at grown chains
  two_chains R = rw (drawn_below_one (start_hash R 0), drawn_below_one (start_hash R 1))

-- the first try under the bound 1, and under 2; the second under 1
module _ (retries : ℕ) where
  pub first_lower : (try_finds (T retries 1 1) ≡ none) × (try_count (T retries 1 1) ≡ 1)
  unfolding try_finds try_count first_of up_to_first passing
  first_lower = rw (two_chains retries 1 1, first_no, second_yes) (refl, refl)

  pub first_higher : (try_finds (T retries 2 1) ≡ some (start 1 1)) × (try_count (T retries 2 1) ≡ 2)
  unfolding try_finds try_count first_of up_to_first passing
  first_higher = rw (two_chains retries 2 1, first_no, second_yes) (refl, refl)

  next_lower : (try_finds (T retries 1 2) ≡ some (start 2 0)) × (try_count (T retries 1 2) ≡ 1)
  unfolding try_finds try_count first_of up_to_first passing
  next_lower = rw (two_chains retries 1 2, next_yes) (refl, refl)

-- ---- the searches

abbrev ended : ℕ → ℕ → Option Chain → Searched
ended R count found = record { made = R; count = count; proof = found }

three_lower : searched (half_settings 3 1) (elements lent) ≡ ended 2 2 (some (start 2 0))
unfolding searched tries_from unless_found
three_lower = rw ((first_lower 3).0, (first_lower 3).1, (next_lower 3).0, (next_lower 3).1)

three_higher : searched (half_settings 3 2) (elements lent) ≡ ended 1 2 (some (start 1 1))
unfolding searched tries_from unless_found
three_higher = rw ((first_higher 3).0, (first_higher 3).1)

one_lower : searched (half_settings 1 1) (elements lent) ≡ ended 1 1 none
unfolding searched tries_from unless_found
one_lower = rw ((first_lower 1).0, (first_lower 1).1)

one_higher : searched (half_settings 1 2) (elements lent) ≡ ended 1 2 (some (start 1 1))
unfolding searched tries_from unless_found
one_higher = rw ((first_higher 1).0, (first_higher 1).1)

-- ---- the answers

-- the bin table, under any retry counter
pub table_of_one : (R : ℕ) → table_of 1 (bin_list 1 R (take 2 (elements lent))) ≡ 0 ∷ 1 ∷ 0 ∷ 0 ∷ []
unfolding bin_list elements_from places_from by_bin starts table_of
table_of_one R = rw (bin_of_one R (record { bytes = 97 ∷ []; index = none }))

table_is : (retries bound R : ℕ) → table_after (half_settings retries bound) (elements lent) (suc R) (replicate 4 9) ≡ 0 ∷ 1 ∷ 0 ∷ 0 ∷ []
unfolding table_after bin_table
table_is retries bound R = rw (table_of_one (suc R))

-- no place and four bin-table numbers are enough
pub not_refused : (retries bound : ℕ) → checked (half_settings retries bound) ≡ 0 → prover_refusal (half_settings retries bound) lent 0 4 ≡ 0
unfolding prover_refusal first_number list_check malformed some_of end_wrong too_large data_long
not_refused retries bound ok = rw ok

served : (retries bound : ℕ) → checked (half_settings retries bound) ≡ 0
    → half_run retries bound ≡ by_search (half_settings retries bound) (elements lent) [] (replicate 4 9)
served retries bound ok = run_served (half_settings retries bound) lent [] (replicate 4 9) (not_refused retries bound ok)

pub raised_example : RaisedExample
unfolding by_search answered first_number checked not_one_to limit_broken
raised_example = (
  served 3 1 refl ∙ rw (three_lower, table_is 3 1 1),
  served 3 2 refl ∙ rw (three_higher, table_is 3 2 0),
  served 1 1 refl ∙ rw (one_lower, table_is 1 1 0),
  served 1 2 refl ∙ rw (one_higher, table_is 1 2 0),
)

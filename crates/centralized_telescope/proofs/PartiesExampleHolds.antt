-- The parties of the example, over what is known of the same list's runs under a raised bound.
use Rattle.std.proofs.Common.{◌≡◌, ℕ, [], refl}
use Rattle.sampling.specs.core.FirstNumber.{first_number}
use Rattle.centralized_telescope.specs.core.Params.{not_one_to, limit_broken, checked}
use Rattle.centralized_telescope.specs.core.Prover.{answered}
use Rattle.centralized_telescope.specs.later.Words.{same_bytes}
use Rattle.centralized_telescope.specs.later.RaisingClaims.{half_settings}
use Rattle.centralized_telescope.specs.later.TwoProducts.{table_right, party_refusal, tried_alone}
use Rattle.centralized_telescope.specs.later.TwoProductsClaims.{one_element, one_bin_table, PartiesExample}
use Rattle.centralized_telescope.proofs.RaisedExampleHolds.{first_lower, first_higher, table_of_one, not_refused}
use Rattle.centralized_telescope.proofs.PartyAnswers.{its_try}

passes : (bound : ℕ) → checked (half_settings 3 bound) ≡ 0 → party_refusal one_element 1 one_bin_table (half_settings 3 bound) 1 0 ≡ 0
unfolding party_refusal first_number table_right same_bytes
passes bound ok = rw (not_refused 3 bound ok, table_of_one 1)

pub parties_example : PartiesExample
unfolding tried_alone party_refusal answered first_number table_right same_bytes checked not_one_to limit_broken
parties_example = (
  rw (
    its_try (half_settings 3 1) one_element 1 1 one_bin_table [] (passes 1 refl),
    its_try (half_settings 3 2) one_element 1 1 one_bin_table [] (passes 2 refl),
    (first_lower 3).0,
    (first_lower 3).1,
    (first_higher 3).0,
    (first_higher 3).1,
  ),
  rw (
    its_try (half_settings 3 2) one_element 1 1 one_bin_table [] (passes 2 refl),
    not_refused 3 2 refl,
    (first_higher 3).0,
    (first_higher 3).1,
  ),
  rw (not_refused 3 2 refl, table_of_one 1),
)

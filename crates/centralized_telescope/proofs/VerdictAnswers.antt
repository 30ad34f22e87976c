-- The verdict by its tests, in the table's order.
use Rattle.std.proofs.Common.{◌≡◌, ℕ, sym, refl, ◌∙◌}
use Rattle.centralized_telescope.specs.declared.errors.Refusal.{Refusal}
use Rattle.centralized_telescope.specs.declared.params.Params.{Params}
use Rattle.centralized_telescope.specs.core.Refusals.{refusal_number}
use Rattle.centralized_telescope.specs.laws.RefusalsLaws.{refusal_number_lem}
use Rattle.centralized_telescope.specs.core.Elements.{elements, list_check, Lent}
use Rattle.sampling.specs.laws.FirstNumberLaws.{number_met, second_met, two_passed, number_last}
use Rattle.centralized_telescope.specs.core.Params.{checked}
use Rattle.centralized_telescope.specs.core.Verifier.{judged, verdict}

module _ (p : Params) (R S : ℕ) (lent : Lent) where
  pub settings_refused : (k : Refusal) → checked p ≡ refusal_number k → refusal_number k ≡ verdict p R S lent
  unfolding verdict
  settings_refused k e = sym (number_met (checked p) _ (refusal_number k) e (refusal_number_lem k))

  module _ (P : checked p ≡ 0) where
    pub list_met : (list_check lent ≡ 0 → ⊥) → list_check lent ≡ verdict p R S lent
    unfolding verdict
    list_met z = sym (second_met (checked p) (list_check lent) _ (list_check lent) P refl z)

    pub list_refused : (k : Refusal) → list_check lent ≡ refusal_number k → refusal_number k ≡ verdict p R S lent
    list_refused k e = sym e ∙ list_met (λ z. refusal_number_lem k (sym e ∙ z))

    pub left_to_judge : list_check lent ≡ 0 → judged p R S (elements lent) ≡ verdict p R S lent
    unfolding verdict
    left_to_judge l = sym (two_passed (checked p) (list_check lent) _ P l ∙ number_last (judged p R S (elements lent)))

-- the verdict by its tests
pub ruleset verdict_told = (settings_refused, list_refused, left_to_judge)

-- A list in bytes, and the exported verdict by its tests, in the table's order.
use Rattle.std.proofs.Common.{◌≡◌, ℕ, zero, suc, ◌/◌, ◌<◌, List, [], ◌∷◌, length, sym, refl, ap, ◌∙◌, arith}
use Rattle.centralized_telescope.specs.declared.errors.Refusal.{Refusal}
use Rattle.centralized_telescope.specs.declared.params.Params.{Params}
use Rattle.centralized_telescope.specs.core.Refusals.{refusal_number}
use Rattle.centralized_telescope.specs.laws.RefusalsLaws.{refusal_number_lem}
use Rattle.centralized_telescope.specs.core.Elements.{elements, list_check, lent_of, Lent}
use Rattle.centralized_telescope.specs.laws.ElementsLaws.{length_elements, same_marks, same_indexes}
use Rattle.sampling.specs.core.FirstNumber.{line, first_number}
use Rattle.sampling.specs.laws.FirstNumberLaws.{number_met, number_passed, second_met, two_passed, number_last}
use Rattle.centralized_telescope.specs.core.Params.{checked}
use Rattle.centralized_telescope.specs.core.Verifier.{judged, verdict}
use Rattle.centralized_telescope.specs.core.Exports.{numbers_of, numbered, left_over, exported_verdict}
use Rattle.centralized_telescope.specs.later.VerdictExactly.{bytes_check}
use Rattle.centralized_telescope.proofs.NumbersRead.{length_numbers_in}

-- of an accepted list, ends and indexes have as many numbers as there are marks
module _ (d e m k : List ℕ) (A : list_check (numbered (lent_of d e m k)) ≡ 0) where
  ends_many : length (numbers_of 4 e) ≡ length m
  ends_many = same_marks (numbered (lent_of d e m k)) A

  indexes_many : length (numbers_of 8 k) ≡ length m
  indexes_many = sym (same_indexes (numbered (lent_of d e m k)) A) ∙ ends_many

  pub elements_many : length (elements (numbered (lent_of d e m k))) ≡ length m
  elements_many = length_elements (numbered (lent_of d e m k)) A ∙ ends_many

  -- and each element's place has all three
  module _ (i : ℕ) (h : i < length (elements (numbered (lent_of d e m k)))) where
    pub end_there : i < length (numbers_of 4 e)
    end_there = omega (arith, elements_many, ends_many)

    pub mark_within : i < length m
    mark_within = omega (arith, elements_many)

    pub index_within_bytes : i < length k / 8
    index_within_bytes = omega (arith, mark_within, indexes_many, length_numbers_in (length k / 8) 8 k)

-- ---- the verdict: the line of bytes that are left over may stand with the list's

-- a number that isn't 0 goes before all behind it
first_of : (k : ℕ) (ks : List ℕ) → first_number (suc k ∷ ks) ≡ suc k
first_of k ks = number_met (suc k) ks (suc k) refl (λ z. omega arith)

by_parts : (c b l j : ℕ)
    → first_number (c ∷ b ∷ first_number (c ∷ l ∷ j ∷ []) ∷ []) ≡ first_number (c ∷ first_number (b ∷ l ∷ []) ∷ j ∷ [])
by_parts zero zero l j =
    two_passed 0 0 (first_number (0 ∷ l ∷ j ∷ []) ∷ []) refl refl ∙ number_last (first_number (0 ∷ l ∷ j ∷ []))
    ∙ ap (λ (n : ℕ). first_number (0 ∷ n ∷ j ∷ [])) (sym (number_passed 0 (l ∷ []) refl ∙ number_last l))
by_parts zero (suc b) l j =
    number_passed 0 (suc b ∷ first_number (0 ∷ l ∷ j ∷ []) ∷ []) refl ∙ first_of b (first_number (0 ∷ l ∷ j ∷ []) ∷ [])
    ∙ sym (second_met 0 (first_number (suc b ∷ l ∷ [])) (j ∷ []) (suc b) refl (first_of b (l ∷ [])) (λ z. omega arith))
by_parts (suc c) b l j =
    first_of c (b ∷ first_number (suc c ∷ l ∷ j ∷ []) ∷ []) ∙ sym (first_of c (first_number (b ∷ l ∷ []) ∷ j ∷ []))

module _ (p : Params) (R S : ℕ) (lent : Lent) where
  abbrev judgement : ℕ
  judgement = judged p R S (elements (numbered lent))

  as_one : first_number (checked p ∷ bytes_check lent ∷ judgement ∷ []) ≡ exported_verdict p R S lent
  unfolding verdict exported_verdict
  as_one = sym (by_parts (checked p) (line 4 (left_over lent)) (list_check (numbered lent)) judgement)

  pub bytes_settings_refused : (k : Refusal) → checked p ≡ refusal_number k → refusal_number k ≡ exported_verdict p R S lent
  bytes_settings_refused k c = sym (number_met (checked p) _ (refusal_number k) c (refusal_number_lem k)) ∙ as_one

  module _ (P : checked p ≡ 0) where
    pub bytes_refused : (k : Refusal) → bytes_check lent ≡ refusal_number k → refusal_number k ≡ exported_verdict p R S lent
    bytes_refused k l = sym (second_met (checked p) (bytes_check lent) _ (refusal_number k) P l (refusal_number_lem k)) ∙ as_one

    pub bytes_left_to_judge : bytes_check lent ≡ 0 → judgement ≡ exported_verdict p R S lent
    bytes_left_to_judge l = sym (two_passed (checked p) (bytes_check lent) _ P l ∙ number_last judgement) ∙ as_one

-- the exported verdict by its tests
pub ruleset exported_told = (bytes_settings_refused, bytes_refused, bytes_left_to_judge)

-- what each element's place has
pub ruleset place_told = (end_there, mark_within, index_within_bytes)

-- Document 01, Verifier, whole: the verdict under any settings, on any counters and any list. Each number comes exactly where its line is
-- the first that the call meets.
use Rattle.std.specs.Prelude.{◌≡◌, ℕ, ◌<◌, ◌≤◌, ◌⊎◌, ◌↔◌, List, [], ◌∷◌, length, ◌≢◌}
use mathlib.Core.List.{Memᴰ}
use Rattle.sampling.specs.core.FirstNumber.{line, first_number}
use Rattle.centralized_telescope.specs.declared.params.Params.{Params}
use Rattle.centralized_telescope.specs.core.Params.{max_set_size, max_proof_size, max_retries, max_search_width, max_dfs_bound}
use Rattle.centralized_telescope.specs.core.Elements.{Element, elements, list_check, Lent}
use Rattle.centralized_telescope.specs.core.Chains.{ElementsPass}
use Rattle.centralized_telescope.specs.core.Verifier.{verdict}
use Rattle.centralized_telescope.specs.core.Exports.{numbered, left_over, exported_verdict}

-- 01, the limits: set_size is 1 to its limit
abbrev pub SetSizeKept : Params → Type 0
SetSizeKept p = (1 ≤ p.set_size) × (p.set_size ≤ max_set_size)

-- the other whole numbers are at most theirs
pub record Limits (p : Params) : Type 0 where
  pub proof_size : p.proof_size ≤ max_proof_size
  pub max_retries_kept : p.max_retries ≤ max_retries
  pub search_width_kept : p.search_width ≤ max_search_width
  pub dfs_bound_kept : p.dfs_bound ≤ max_dfs_bound

-- settings that neither 1 nor 2 refuses
pub record Lawful (p : Params) : Type 0 where
  pub set_size : SetSizeKept p
  pub limits : Limits p

-- the numbers that the table has for the verifier
abbrev pub verdict_numbers : List ℕ
verdict_numbers = 0 ∷ 1 ∷ 2 ∷ 4 ∷ 5 ∷ 20 ∷ 21 ∷ 22 ∷ []

-- v being the verdict on a list that has the elements es and the number `list_number`: 4, 5, or 0 for one that is accepted
pub record VerdictIs (p : Params) (R S : ℕ) (list_number : ℕ) (es : List Element) (v : ℕ) : Type 0 where
  pub one_of_these : Memᴰ v verdict_numbers
  pub set_size : (v ≡ 1) ↔ (SetSizeKept p → ⊥)
  pub limit : (v ≡ 2) ↔ (SetSizeKept p × (Limits p → ⊥))
  pub malformed : (v ≡ 4) ↔ (Lawful p × (list_number ≡ 4))
  pub list_over : (v ≡ 5) ↔ (Lawful p × (list_number ≡ 5))
  pub length_differs : (v ≡ 20) ↔ (Lawful p × ((list_number ≡ 0) × (length es ≢ p.proof_size)))
  pub counters_over : (v ≡ 21)
      ↔ (Lawful p
      × ((list_number ≡ 0)
      × (length es ≡ p.proof_size)
      × ((p.search_width ≤ S) ⊎ (p.max_retries ≤ R))))
  pub fails : (v ≡ 22)
      ↔ (Lawful p
      × ((list_number ≡ 0)
      × (length es ≡ p.proof_size)
      × (S < p.search_width)
      × (R < p.max_retries)
      × (ElementsPass p R S es → ⊥)))
  pub accepts : (v ≡ 0)
      ↔ (Lawful p
      × ((list_number ≡ 0)
      × (S < p.search_width)
      × (R < p.max_retries)
      × ElementsPass p R S es))

-- 01, Lent and given back, the exported verifier: the number of a list whose ends and indexes are in bytes
abbrev pub bytes_check : Lent → ℕ
bytes_check lent = first_number (line 4 (left_over lent) ∷ list_check (numbered lent) ∷ [])

abbrev pub VerdictExactly : Type 0
VerdictExactly =
    ((p : Params) (R S : ℕ) (lent : Lent) → VerdictIs p R S (list_check lent) (elements lent) (verdict p R S lent))
    -- and so of the exported verifier
    × ((p : Params) (R S : ℕ) (lent : Lent) → VerdictIs p R S (bytes_check lent) (elements (numbered lent)) (exported_verdict p R S lent))

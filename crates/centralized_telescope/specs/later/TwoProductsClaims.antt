-- Document 02, N11, what is promised of two parties and of the try that each asks for: three claims over the definitions that the contracts
-- of `two_products` and `prove` equate their results with, and an example.
use Rattle.std.specs.Prelude.{◌≡◌, ℕ, ◌<◌, ◌≤◌, min, ◌↔◌, List, [], ◌∷◌, ◌++◌, length, drop, ◌≢◌}
use Rattle.centralized_telescope.specs.declared.params.Params.{Params}
use Rattle.centralized_telescope.specs.core.Elements.{elements, Lent, lent_of}
use Rattle.centralized_telescope.specs.core.Chains.{Try, try_of, Chain, Passes}
use Rattle.centralized_telescope.specs.core.Search.{try_count, searched}
use Rattle.centralized_telescope.specs.core.Prover.{Proved, answer_of, refused, proved}
use Rattle.centralized_telescope.specs.core.Demand3.{Number, FirstPassing, HasProof, UpToPassing, Served, sum_up_to}
use Rattle.centralized_telescope.specs.later.RaisingClaims.{half_settings}
use Rattle.centralized_telescope.specs.later.TwoProducts.{party_refusal, tried_alone, both_tried}

-- ---- 02, N11: another party's settings, retry counter and places don't alter what this one gets

abbrev pub PartiesApart : Type 0
PartiesApart =
    (lent : Lent) (table_retry : ℕ) (table : List ℕ) (p : Params) (R : ℕ) (places : List ℕ)
    → (p' : Params) (R' : ℕ) (places' : List ℕ) (p'' : Params) (R'' : ℕ) (places'' : List ℕ)
    -- as the first party
    → ((both_tried lent table_retry table p R places p' R' places').0 ≡ (both_tried lent table_retry table p R places p'' R'' places'').0)
    -- as the second
    × ((both_tried lent table_retry table p' R' places' p R places).1 ≡ (both_tried lent table_retry table p'' R'' places'' p R places).1)
    -- and the second gets what the first does
    × ((both_tried lent table_retry table p R places p' R' places').0 ≡ (both_tried lent table_retry table p'' R'' places'' p R places).1)

-- ---- 02, N11: demand 3's words on the prover, read for one try

-- r being the answer to the try T, with `places` lent
pub record OfTry (T : Try) (places : List ℕ) (r : Proved) : Type 0 where
  -- a proof is returned exactly when the try has a passing chain within the step bound
  pub proof_when : (r.number ≡ 0) ↔ HasProof T
  -- it is the first that passes: R, S, and its places over the first ones lent
  pub proof_is : r.number ≡ 0
      → (c : Chain)
      × FirstPassing T c
      × (r.retry ≡ T.retry)
      × (r.search ≡ c.search)
      × (r.places ≡ c.places ++ drop (length c.places) places)
  -- the count: K, or a smaller step bound
  pub K : ℕ
  pub K_is : Number (UpToPassing T) K
  pub count_is : r.count ≡ min K T.settings.dfs_bound
  -- without a proof it is NotFound exactly where the count is below the step bound, else NotFoundInBounds, and the places are as they were
  pub not_found : (r.number ≢ 0) → r.count < T.settings.dfs_bound → r.number ≡ 12
  pub not_in_bounds : (r.number ≢ 0) → T.settings.dfs_bound ≤ r.count → r.number ≡ 11
  pub places_kept : (r.number ≢ 0) → r.places ≡ places
  -- after NotFound no chain of the try passes
  pub none_passes : r.number ≡ 12 → (c : Chain) → Passes T c → ⊥

abbrev pub TryGuaranteed : Type 0
TryGuaranteed =
    (lent : Lent) (table_retry : ℕ) (table : List ℕ) (p : Params) (R : ℕ) (places : List ℕ)
    → party_refusal lent table_retry table p R (length places) ≡ 0
    → OfTry (try_of p (elements lent) table_retry) places (tried_alone lent table_retry table p R places)

-- ---- 02, N11, a table that a run of the prover leaves serves: the try of its last retry counter, run alone

-- R being the last retry counter made, r the run's answer, with `places` lent, and a that of the try alone
pub record LastAlone (p : Params) (lent : Lent) (places : List ℕ) (R : ℕ) (r a : Proved) : Type 0 where
  -- the try alone isn't refused
  pub not_refused : party_refusal lent R r.table p R (length places) ≡ 0
  -- the run's count is the sum over its tries, of which the last adds what the try alone counts
  pub counted : r.count ≡ sum_up_to R (λ (k : ℕ). try_count (try_of p (elements lent) k))
  pub last_adds : a.count ≡ try_count (try_of p (elements lent) R)
  -- the run's proof is that of the try alone
  pub proof_same : r.number ≡ 0 → a ≡ answer_of 0 r.retry r.search a.count r.places r.table
  -- and without one the try alone has none
  pub none_alone : (r.number ≢ 0) → a.number ≢ 0

abbrev pub LastAloneClaim : Type 0
LastAloneClaim =
    (p : Params) (lent : Lent) (places table : List ℕ) → Served p lent places table
    → (R : ℕ) → (searched p (elements lent)).made ≡ R → 1 ≤ R
    → LastAlone p lent places R (proved p lent places table) (tried_alone lent R (proved p lent places table).table p R places)

-- ---- that there are such parties: one element, "a", in one bin, and the table of the retry counter 1. In this try the second chain is the
-- first to pass, so under the bound 1 it is NotFoundInBounds, under 2 a proof; then one party has another retry counter, and the other is
-- served; then another table

abbrev pub one_element : Lent
one_element = lent_of (97 ∷ []) (1 ∷ []) (0 ∷ []) (0 ∷ [])

abbrev pub one_bin_table : List ℕ
one_bin_table = 0 ∷ 1 ∷ 0 ∷ 0 ∷ []

abbrev pub PartiesExample : Type 0
PartiesExample =
    (both_tried one_element 1 one_bin_table (half_settings 3 1) 1 [] (half_settings 3 2) 1 []
    ≡ (answer_of 11 0 0 1 [] one_bin_table, answer_of 0 1 1 2 [] one_bin_table))
    × (both_tried one_element 1 one_bin_table (half_settings 3 2) 2 [] (half_settings 3 2) 1 []
    ≡ (refused 47 [] one_bin_table, answer_of 0 1 1 2 [] one_bin_table))
    × (tried_alone one_element 1 (0 ∷ 1 ∷ 0 ∷ 7 ∷ []) (half_settings 3 2) 1 [] ≡ refused 48 [] (0 ∷ 1 ∷ 0 ∷ 7 ∷ []))

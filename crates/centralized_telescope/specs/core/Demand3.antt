-- Demand 3, on prove and verify at once. The words first, then the claim, one field or more for each of its sentences, over the
-- definitions that the contracts of `prove` (Prover) and `verify` (Verifier) equate their results with.
use Rattle.std.specs.Prelude.{◌≡◌, ℕ, zero, suc, ◌+◌, ◌*◌, ◌^◌, ◌<◌, ◌≤◌, min, ◌⊎◌, ◌↔◌, List, [], ◌∷◌, ◌++◌, map, length, take, drop, replicate, ◌≢◌}
use mathlib.Core.List.{Memᴰ}
use Rattle.sampling.specs.declared.sample.U128.{U128}
use Rattle.centralized_telescope.specs.declared.params.Params.{Params}
use Rattle.centralized_telescope.specs.core.Params.{checked}
use Rattle.centralized_telescope.specs.core.Elements.{Element, elements, element_at, list_check, Lent, lent_of}
use Rattle.centralized_telescope.specs.core.Lists.{Ascending}
use Rattle.centralized_telescope.specs.core.Chains.{Try, try_of, Chain, elements_of, Exists, Passes, Before, ElementsPass}
use Rattle.centralized_telescope.specs.core.Prover.{Proved, proved}
use Rattle.centralized_telescope.specs.core.Verifier.{verdict}

-- ---- words

-- there are k chains of a kind: a list in the search's order, where none stands twice, holds exactly those
abbrev pub Number : (Chain → Type 0) → ℕ → Type 0
Number Kind k = (cs : List Chain) × Ascending Before cs × ((c : Chain) → Memᴰ c cs ↔ Kind c) × (length cs ≡ k)

-- c is d or comes before it
abbrev pub UpTo : Chain → Chain → Type 0
UpTo c d = (c ≡ d) ⊎ Before c d

-- a try's first chain that passes, in the search's order
pub record FirstPassing (T : Try) (c : Chain) : Type 0 where
  pub passes : Passes T c
  pub first : (d : Chain) → Passes T d → UpTo c d

-- a chain that passes within the step bound: the nth that exists, with n at most dfs_bound
pub record WithinBound (T : Try) (c : Chain) : Type 0 where
  pub passes : Passes T c
  pub nth : ℕ
  pub nth_is : Number (λ (d : Chain). Exists T d × UpTo d c) nth
  pub within : nth ≤ T.settings.dfs_bound

abbrev pub HasProof : Try → Type 0
HasProof T = (c : Chain) × WithinBound T c

-- what K counts: an existing chain that no passing one comes before
abbrev pub UpToPassing : Try → Chain → Type 0
UpToPassing T c = Exists T c × ((d : Chain) → Passes T d → UpTo c d)

-- f 1 + f 2 + .. + f m
unfoldable pub sum_up_to : ℕ → (ℕ → ℕ) → ℕ
sum_up_to zero f = 0
sum_up_to (suc m) f = sum_up_to m f + f (suc m)

-- a list is accepted where the table has neither 4 nor 5 for it
abbrev pub Accepted : Lent → Type 0
Accepted lent = list_check lent ≡ 0

-- ---- the premise: lawful settings, an accepted list with set_size elements or more, and workspace long enough, with anything in it

pub record Served (p : Params) (lent : Lent) (places table : List ℕ) : Type 0 where
  pub settings : checked p ≡ 0
  pub list : Accepted lent
  pub at_least : p.set_size ≤ length lent.ends
  pub places_enough : p.proof_size ≤ length places
  pub table_enough : 3 * p.set_size + 1 ≤ length table

-- ---- the prover's sentences, r being its answer to a list of elements, with `places` lent

pub record OfProver (p : Params) (es : List Element) (places : List ℕ) (r : Proved) : Type 0 where
  -- the tries: R = 1 to `made`
  pub made : ℕ
  -- they don't go past the retry limit
  pub up_to_the_limit : made ≤ p.max_retries
  -- none but the last has a passing chain within the step bound
  pub none_before : (R : ℕ) → 1 ≤ R → R < made → HasProof (try_of p es R) → ⊥
  -- the last is at the limit, or has such a chain
  pub end : (made ≡ p.max_retries) ⊎ ((1 ≤ made) × HasProof (try_of p es made))
  -- a proof is returned exactly when one of the tries from 1 to the limit has such a chain
  pub proof_when : (r.number ≡ 0) ↔ ((R : ℕ) × (1 ≤ R) × (R ≤ p.max_retries) × HasProof (try_of p es R))
  -- the proof is the last try's first passing chain: R, S, and its places over the first ones lent
  pub proof_is : r.number ≡ 0
      → (c : Chain)
      × FirstPassing (try_of p es made) c
      × (r.retry ≡ made)
      × (r.search ≡ c.search)
      × (r.places ≡ c.places ++ drop (length c.places) places)
  -- K of a try made: how many chains exist in it, none counted that comes after a passing one
  pub K : ℕ → ℕ
  pub K_is : (R : ℕ) → 1 ≤ R → R ≤ made → Number (UpToPassing (try_of p es R)) (K R)
  -- the result's count: K of each try made, or the step bound where that is smaller, added up
  pub count_is : r.count ≡ sum_up_to made (λ (R : ℕ). min (K R) p.dfs_bound)
  -- without a proof the tries went up to the limit
  pub all_made : (r.number ≢ 0) → made ≡ p.max_retries
  -- without a proof it is NotFound where the count is below the step bound
  pub not_found : (r.number ≢ 0) → r.count < p.dfs_bound → r.number ≡ 12
  -- and NotFoundInBounds where it isn't
  pub not_in_bounds : (r.number ≢ 0) → p.dfs_bound ≤ r.count → r.number ≡ 11
  -- after NotFound: in no try from 1 to the limit, and at no S below the width, does a chain of kept elements pass
  pub none_passes : r.number ≡ 12 → (R : ℕ) → 1 ≤ R → R ≤ p.max_retries → (c : Chain) → Passes (try_of p es R) c → ⊥

-- ---- the verifier's sentences

-- on any proof, v being the verdict on the counters R and S and a list: each number of the table exactly where its line is the first met
pub record OfVerifier (p : Params) (R S : ℕ) (lent : Lent) (v : ℕ) : Type 0 where
  pub malformed : (v ≡ 4) ↔ (list_check lent ≡ 4)
  pub list_over : (v ≡ 5) ↔ (list_check lent ≡ 5)
  pub length_differs : (v ≡ 20) ↔ (Accepted lent × (length (elements lent) ≢ p.proof_size))
  pub counters_over : (v ≡ 21)
      ↔ (Accepted lent
      × (length (elements lent) ≡ p.proof_size)
      × ((p.search_width ≤ S) ⊎ (p.max_retries ≤ R)))
  pub fails : (v ≡ 22)
      ↔ (Accepted lent
      × (length (elements lent) ≡ p.proof_size)
      × (S < p.search_width)
      × (R < p.max_retries)
      × (ElementsPass p R S (elements lent) → ⊥))
  pub accepts : (v ≡ 0)
      ↔ (Accepted lent
      × (S < p.search_width)
      × (R < p.max_retries)
      × ElementsPass p R S (elements lent))

-- on the prover's proof r, v being the verdict under the settings of the search
pub record OnTheProof (p : Params) (r : Proved) (v : ℕ) : Type 0 where
  -- it is accepted exactly when its R is below the retry limit
  pub accepts : (v ≡ 0) ↔ (r.retry < p.max_retries)
  -- otherwise it is InvalidParameters
  pub else_counters : p.max_retries ≤ r.retry → v ≡ 21

-- the elements at the prover's places
abbrev pub proof_elements : Params → List Element → Proved → List Element
proof_elements p es r = map (element_at es) (take p.proof_size r.places)

-- some elements as a list that is accepted
pub record Listed (es : List Element) : Type 0 where
  pub lent : Lent
  pub accepted : Accepted lent
  pub same : elements lent ≡ es

-- ---- the claim

pub record Demand3 (p : Params) (lent : Lent) (places table : List ℕ) : Type 0 where
  pub of_prover : OfProver p (elements lent) places (proved p lent places table)
  -- of any proof: any counters and any list
  pub of_verifier : (R S : ℕ) (lent' : Lent) → OfVerifier p R S lent' (verdict p R S lent')
  -- of the prover's proof: the elements at its places are the chain's, and there is an accepted list of them
  pub of_chain : (n : (proved p lent places table).number ≡ 0)
      → proof_elements p (elements lent) (proved p lent places table)
      ≡ elements_of (try_of p (elements lent) of_prover.made) (of_prover.proof_is n).0
  pub listed : (proved p lent places table).number ≡ 0
      → Listed (proof_elements p (elements lent) (proved p lent places table))
  -- and on its counters and any such list the verdict is so
  pub on_the_proof : (proved p lent places table).number ≡ 0
      → (l : Listed (proof_elements p (elements lent) (proved p lent places table)))
      → OnTheProof p (proved p lent places table)
      (verdict p (proved p lent places table).retry (proved p lent places table).search l.lent)

abbrev pub Demand3Claim : Type 0
Demand3Claim =
    (p : Params) (lent : Lent) (places table : List ℕ) → Served p lent places table → Demand3 p lent places table

-- ---- that there are such settings, lists and workspace: two elements, "a" without an index and "bc" with the index 7

abbrev pub example_settings : Params
example_settings =
    let half : U128 = record { hi = 2 ^ 63; lo = 0 } in
    record { set_size = 2; proof_size = 3; max_retries = 4; search_width = 5; dfs_bound = 600; x = half }

abbrev pub ServedExample : Type 0
ServedExample =
    Served example_settings (lent_of (97 ∷ 98 ∷ 99 ∷ []) (1 ∷ 3 ∷ []) (0 ∷ 1 ∷ []) (0 ∷ 7 ∷ [])) (replicate 3 0) (replicate 7 0)

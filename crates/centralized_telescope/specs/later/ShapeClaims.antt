-- Document 02, N12, what is promised of the counts: three claims over the definition that the contract of `count_chains` equates its answer
-- with, in demand 3's words, and an example.
use Rattle.std.specs.Prelude.{◌≡◌, ℕ, ◌+◌, ◌<◌, ◌≤◌, ◌↔◌, List, [], ◌∷◌, length, take, replicate, sum, sum_by, slice_index}
use Rattle.std.specs.List.{range_with_len}
use Rattle.sampling.specs.declared.sample.U128.{U128}
use Rattle.centralized_telescope.specs.declared.params.Params.{Params}
use Rattle.centralized_telescope.specs.core.Elements.{elements, Lent, lent_of}
use Rattle.centralized_telescope.specs.core.Chains.{Try, try_of, Chain, Exists, Passes}
use Rattle.centralized_telescope.specs.core.Demand3.{Number, UpToPassing}
use Rattle.centralized_telescope.specs.later.RaisingClaims.{half_settings}
use Rattle.centralized_telescope.specs.later.Shape.{Shaped, shape_of, shape_refusal, shaped}

-- the settings with this search_width, whatever was theirs
abbrev pub with_width : Params → ℕ → Params
with_width p width =
    record {
      set_size = p.set_size;
      proof_size = p.proof_size;
      max_retries = p.max_retries;
      search_width = width;
      dfs_bound = p.dfs_bound;
      x = p.x;
    }

-- ---- 02, N12: the counts are the numbers of the chains that exist, length by length. In a search S is below its width; the call takes any
-- S, so the chains are those of a search with any width above S

-- a chain of the search counter S that exists, or passes, in a try
abbrev pub ExistsAt : Try → ℕ → Chain → Type 0
ExistsAt T S c = Exists T c × (c.search ≡ S)

abbrev pub PassesAt : Try → ℕ → Chain → Type 0
PassesAt T S c = Passes T c × (c.search ≡ S)

-- r being the answer to a call that isn't refused before the table is filled, T a try with a width above S
pub record OfShape (T : Try) (S : ℕ) (r : Shaped) : Type 0 where
  -- it is 0 or 50, and 50 exactly where more chains exist than dfs_bound
  pub all : ℕ
  pub all_is : Number (ExistsAt T S) all
  pub served : (r.number ≡ 0) ↔ (all ≤ T.settings.dfs_bound)
  pub too_many : (r.number ≡ 50) ↔ (T.settings.dfs_bound < all)
  -- the counts, length by length
  pub by_length : r.number ≡ 0
      → (l : ℕ) → l ≤ T.settings.proof_size → Number (λ (c : Chain). ExistsAt T S c × (length c.places ≡ l)) (slice_index r.counts l)
  -- and how many pass
  pub passing_is : r.number ≡ 0 → Number (PassesAt T S) r.passing

abbrev pub CountsExact : Type 0
CountsExact =
    (p : Params) (R S : ℕ) (lent : Lent) (counts table : List ℕ) → shape_refusal p lent (length counts) (length table) ≡ 0
    → (width : ℕ) → S < width
    → OfShape (try_of (with_width p width) (elements lent) R) S (shaped p R S lent counts table)

-- ---- 02, N12: summed over the S of a search, all lengths together, they are the K of a try in which nothing passes, if no S is refused

-- all lengths together
abbrev pub total_of : Params → Shaped → ℕ
total_of p r = sum (take (p.proof_size + 1) r.counts)

abbrev pub TotalsK : Type 0
TotalsK =
    (p : Params) (R : ℕ) (lent : Lent) (counts table : ℕ → List ℕ)
    → ((S : ℕ) → S < p.search_width → (shaped p R S lent (counts S) (table S)).number ≡ 0)
    → ((c : Chain) → Passes (try_of p (elements lent) R) c → ⊥)
    → Number (UpToPassing (try_of p (elements lent) R))
    (sum_by (λ (S : ℕ). total_of p (shaped p R S lent (counts S) (table S))) (range_with_len 0 p.search_width))

-- ---- those that pass are among those of proof_size places: by their number, and each of them

abbrev pub PassingFull : Type 0
PassingFull =
    (p : Params) (R S : ℕ) (lent : Lent) (counts table : List ℕ) → (shaped p R S lent counts table).number ≡ 0
    → ((shaped p R S lent counts table).passing ≤ slice_index (shaped p R S lent counts table).counts p.proof_size)
    × ((width : ℕ) (c : Chain) → PassesAt (try_of (with_width p width) (elements lent) R) S c
    → ExistsAt (try_of (with_width p width) (elements lent) R) S c × (length c.places ≡ p.proof_size))

-- ---- that there are such trees: one element, "a", with proof_size 0, where the first search counter's chain doesn't pass and the second's
-- does; then 01's case j, two elements in one bin with proof_size 2 and an X that nothing passes, with a bound that is just enough and one
-- less

abbrev pub one_lent : Lent
one_lent = lent_of (97 ∷ []) (1 ∷ []) (0 ∷ []) (0 ∷ [])

abbrev pub two_lent : Lent
two_lent = lent_of (97 ∷ 98 ∷ []) (1 ∷ 2 ∷ []) (0 ∷ 0 ∷ []) (0 ∷ 0 ∷ [])

abbrev pub case_j : ℕ → Params
case_j bound =
    let never : U128 = record { hi = 0; lo = 0 } in
    record { set_size = 1; proof_size = 2; max_retries = 1; search_width = 1; dfs_bound = bound; x = never }

abbrev pub ShapeExample : Type 0
ShapeExample =
    (shaped (half_settings 3 2) 1 0 one_lent (9 ∷ 9 ∷ []) (replicate 4 9) ≡ shape_of 0 0 (1 ∷ 9 ∷ []) (0 ∷ 1 ∷ 0 ∷ 0 ∷ []))
    × (shaped (half_settings 3 2) 1 1 one_lent (9 ∷ 9 ∷ []) (replicate 4 9) ≡ shape_of 0 1 (1 ∷ 9 ∷ []) (0 ∷ 1 ∷ 0 ∷ 0 ∷ []))
    × ((S : ℕ) → shaped (case_j 7) 1 S two_lent (replicate 4 9) (replicate 5 9)
    ≡ shape_of 0 0 (1 ∷ 2 ∷ 4 ∷ 9 ∷ []) (0 ∷ 2 ∷ 0 ∷ 1 ∷ 9 ∷ []))
    × ((S : ℕ) → shaped (case_j 6) 1 S two_lent (replicate 4 9) (replicate 5 9)
    ≡ shape_of 50 0 (replicate 4 9) (0 ∷ 2 ∷ 0 ∷ 1 ∷ 9 ∷ []))

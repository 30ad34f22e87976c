-- Document 02, N10, what raising dfs_bound does, the other settings and the elements being the same: three claims over the definitions that
-- the contract of `prove` cites, and an example.
use Rattle.std.specs.Prelude.{◌≡◌, ℕ, ◌^◌, ◌<◌, ◌≤◌, List, [], ◌∷◌, replicate}
use Rattle.std.proofs.Math.Option.{some}
use Rattle.sampling.specs.declared.sample.U128.{U128}
use Rattle.centralized_telescope.specs.declared.params.Params.{Params}
use Rattle.centralized_telescope.specs.core.Params.{checked}
use Rattle.centralized_telescope.specs.core.Elements.{Element, elements, Lent, lent_of}
use Rattle.centralized_telescope.specs.core.Chains.{Chain, try_of}
use Rattle.centralized_telescope.specs.core.Search.{try_count, try_finds}
use Rattle.centralized_telescope.specs.core.Prover.{Proved, answer_of, proved}

-- the settings with this dfs_bound, whatever was theirs
abbrev pub with_bound : Params → ℕ → Params
with_bound p bound =
    record {
      set_size = p.set_size;
      proof_size = p.proof_size;
      max_retries = p.max_retries;
      search_width = p.search_width;
      dfs_bound = bound;
      x = p.x;
    }

-- the count of the try R under a bound
abbrev pub count_under : Params → ℕ → List Element → ℕ → ℕ
count_under p bound es R = try_count (try_of (with_bound p bound) es R)

-- ---- 02, N10: a try that finds a chain under the lower bound finds it under the higher, with the same count; lawful settings or not

abbrev pub RaisedTry : Type 0
RaisedTry =
    (p : Params) (lower higher : ℕ) → lower ≤ higher
    → (es : List Element) (R : ℕ) (c : Chain) → try_finds (try_of (with_bound p lower) es R) ≡ some c
    → (try_finds (try_of (with_bound p higher) es R) ≡ some c)
    × (count_under p higher es R ≡ count_under p lower es R)

-- ---- 02, N10: a run that finds a proof under the lower bound, each earlier try having counted less than that bound, gives the same answer
-- under the higher: R, S, the count, the places and the bin table. Settings that are lawful with the higher bound are so with the lower

abbrev pub RaisedRun : Type 0
RaisedRun =
    (p : Params) (lower higher : ℕ) → lower ≤ higher → checked (with_bound p higher) ≡ 0
    → (lent : Lent) (places table : List ℕ) → (proved (with_bound p lower) lent places table).number ≡ 0
    → ((R : ℕ) → 1 ≤ R → R < (proved (with_bound p lower) lent places table).retry → count_under p lower (elements lent) R < lower)
    → proved (with_bound p higher) lent places table ≡ proved (with_bound p lower) lent places table

-- ---- beyond 02, N10: what else can come, whatever the tries counted

-- after the proof r under the lower bound the answer under the higher is s
pub record ProofRaised (p : Params) (lower : ℕ) (es : List Element) (r s : Proved) : Type 0 where
  -- a proof too
  pub found : s.number ≡ 0
  -- of no later try
  pub no_later : s.retry ≤ r.retry
  -- of an earlier one only if that one had reached the lower bound
  pub of_earlier : s.retry < r.retry → count_under p lower es s.retry ≡ lower
  -- of the same one with the same chain, and so with the same bin table; the count may be larger
  pub of_same : s.retry ≡ r.retry
      → (s.search ≡ r.search) × (s.places ≡ r.places) × (s.table ≡ r.table) × (r.count ≤ s.count)

-- after any answer r
pub record AnswerRaised (p : Params) (lower : ℕ) (es : List Element) (r s : Proved) : Type 0 where
  pub after_proof : r.number ≡ 0 → ProofRaised p lower es r s
  -- NotFound stays, with its count, and so do places and bin table
  pub after_not_found : r.number ≡ 12 → s ≡ r
  -- after NotFoundInBounds a proof is of a try that had reached the lower bound
  pub after_in_bounds : r.number ≡ 11 → s.number ≡ 0 → count_under p lower es s.retry ≡ lower
  -- a refusal stays
  pub after_refusal : 1 ≤ r.number → r.number ≤ 10 → s ≡ r

abbrev pub RaisedAnswer : Type 0
RaisedAnswer =
    (p : Params) (lower higher : ℕ) → lower ≤ higher → checked (with_bound p higher) ≡ 0
    → (lent : Lent) (places table : List ℕ)
    → AnswerRaised p lower (elements lent) (proved (with_bound p lower) lent places table) (proved (with_bound p higher) lent places table)

-- ---- that RaisedRun needs its premise: under the bound 1 the first try, whose second chain is the first to pass, reaches the bound, and
-- the proof is the second try's; under 2 it is the first try's. With the first try alone 11 becomes a proof

abbrev pub half_settings : ℕ → ℕ → Params
half_settings retries bound =
    let half : U128 = record { hi = 2 ^ 63; lo = 0 } in
    record { set_size = 1; proof_size = 0; max_retries = retries; search_width = 2; dfs_bound = bound; x = half }

-- of one element, "a", with no place and four bin-table numbers lent
abbrev pub half_run : ℕ → ℕ → Proved
half_run retries bound = proved (half_settings retries bound) (lent_of (97 ∷ []) (1 ∷ []) (0 ∷ []) (0 ∷ [])) [] (replicate 4 9)

abbrev pub RaisedExample : Type 0
RaisedExample =
    (half_run 3 1 ≡ answer_of 0 2 0 2 [] (0 ∷ 1 ∷ 0 ∷ 0 ∷ []))
    × (half_run 3 2 ≡ answer_of 0 1 1 2 [] (0 ∷ 1 ∷ 0 ∷ 0 ∷ []))
    × (half_run 1 1 ≡ answer_of 11 0 0 1 [] (0 ∷ 1 ∷ 0 ∷ 0 ∷ []))
    × (half_run 1 2 ≡ answer_of 0 1 1 2 [] (0 ∷ 1 ∷ 0 ∷ 0 ∷ []))

-- Document 02, N8, what is promised of the prover over a pool: two claims over the definition that the contract of `prove_pool` equates its
-- result with.
use Rattle.std.specs.Prelude.{◌≡◌, ℕ, ◌+◌, ◌*◌, ◌≤◌, List, length}
use Rattle.centralized_telescope.specs.declared.params.Params.{Params}
use Rattle.centralized_telescope.specs.core.Params.{checked}
use Rattle.centralized_telescope.specs.core.Elements.{Element, Lent}
use Rattle.centralized_telescope.specs.core.Chains.{try_of, elements_of}
use Rattle.centralized_telescope.specs.core.Prover.{Proved, proved}
use Rattle.centralized_telescope.specs.core.Verifier.{verdict}
use Rattle.centralized_telescope.specs.core.Demand3.{OfProver, OnTheProof, proof_elements, Listed}
use Rattle.centralized_telescope.specs.later.Pool.{pool, pool_refusal, proved_pool}

-- ---- 02, N8: on lists and a pool that aren't refused it answers as the prover on the pool written out as one list, refusals of settings
-- and workspace and the lent buffers included

abbrev pub PoolAsOneList : Type 0
PoolAsOneList =
    (first second : Lent) → pool_refusal first second ≡ 0
    -- the pool can be written out as a list that is accepted
    → Listed (pool first second)
    -- and on each such list the answer is the same
    × ((p : Params) (places table : List ℕ) (one : Listed (pool first second))
    → proved_pool p first second places table ≡ proved p one.lent places table)

-- ---- 02, N8: its search guarantee is read over that list

-- demand 3's premise: lawful settings, lists and a pool that aren't refused, of set_size elements or more, and workspace long enough
pub record ServedPool (p : Params) (first second : Lent) (places table : List ℕ) : Type 0 where
  pub settings : checked p ≡ 0
  pub lists : pool_refusal first second ≡ 0
  pub at_least : p.set_size ≤ length (pool first second)
  pub places_enough : p.proof_size ≤ length places
  pub table_enough : 3 * p.set_size + 1 ≤ length table

-- demand 3's sentences on the prover and on its proof, r being its answer to some elements, with `places` lent
pub record Guarantee (p : Params) (es : List Element) (places : List ℕ) (r : Proved) : Type 0 where
  pub of_prover : OfProver p es places r
  pub of_chain : (n : r.number ≡ 0)
      → proof_elements p es r ≡ elements_of (try_of p es of_prover.made) (of_prover.proof_is n).0
  pub listed : r.number ≡ 0 → Listed (proof_elements p es r)
  pub on_the_proof : r.number ≡ 0 → (l : Listed (proof_elements p es r))
      → OnTheProof p r (verdict p r.retry r.search l.lent)

abbrev pub PoolGuaranteed : Type 0
PoolGuaranteed =
    (p : Params) (first second : Lent) (places table : List ℕ) → ServedPool p first second places table
    → Guarantee p (pool first second) places (proved_pool p first second places table)

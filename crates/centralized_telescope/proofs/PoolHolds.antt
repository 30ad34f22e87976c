-- What is promised of the prover over a pool, proved.
use Rattle.std.proofs.Common.{◌≡◌, ℕ, suc, ◌<◌, Bool, true, false, cond, List, [], ◌∷◌, ◌++◌, length, sym, ap, ◌∙◌, subst, arith}
use Rattle.centralized_telescope.specs.declared.params.Params.{Params}
use Rattle.centralized_telescope.specs.core.Lists.{Each}
use Rattle.centralized_telescope.specs.core.Elements.{Element, elements, element_at, list_check, Lent}
use Rattle.centralized_telescope.specs.core.Prover.{proved, prover_refusal}
use Rattle.centralized_telescope.specs.core.Demand3.{Served, Listed, Demand3}
use Rattle.centralized_telescope.specs.laws.ElementsLaws.{length_elements, bytes_short}
use Rattle.centralized_telescope.specs.laws.ListsLaws.{each_nil, each_cons, each_head, each_rest}
use Rattle.centralized_telescope.specs.laws.ProofListLaws.{Short}
use Rattle.centralized_telescope.specs.later.Pool.{stands_in, added_to, pool, pool_refusal, pool_prover_refusal, proved_pool}
use Rattle.centralized_telescope.specs.later.PoolClaims.{PoolAsOneList, ServedPool, Guarantee, PoolGuaranteed}
use Rattle.centralized_telescope.proofs.PoolAnswers.{admitted}
use Rattle.centralized_telescope.proofs.DemandHolds.{list_of, demand_3}

-- ---- as over one list

module _ (p : Params) (first second one : Lent) (U : pool_refusal first second ≡ 0) (A : list_check one ≡ 0)
    (E : elements one ≡ pool first second) where
  as_many : length one.ends ≡ length (pool first second)
  as_many = sym (length_elements one A) ∙ ap length E

  same_refusal : (places table : ℕ) → pool_prover_refusal p first second places table ≡ prover_refusal p one places table
  unfolding pool_prover_refusal prover_refusal
  same_refusal places table = rw (U, A, as_many)

  same_answer : (places table : List ℕ) → proved_pool p first second places table ≡ proved p one places table
  unfolding proved_pool proved
  same_answer places table = rw (same_refusal (length places) (length table), E)

-- ---- the pool written out as one list

each_of : (P : Element → Type 0) (es : List Element) → ((i : ℕ) → i < length es → P (element_at es i)) → Each P es
unfolding element_at
each_of P [] f = each_nil P
each_of P (e ∷ es) f = each_cons P e es (f 0 (omega arith)) (each_of P es (λ i l. f (suc i) (omega arith)))

each_append : (P : Element → Type 0) (es fs : List Element) → Each P es → Each P fs → Each P (es ++ fs)
each_append P [] fs e f = f
each_append P (x ∷ es) fs e f = each_cons P x (es ++ fs) (each_head P x es e) (each_append P es fs (each_rest P x es e) f)

each_added : (P : Element → Type 0) (first es : List Element) → Each P es → Each P (added_to first es)
unfolding added_to
each_added P first [] e = each_nil P
each_added P first (x ∷ es) e = go (stands_in first x) (each_added P first es (each_rest P x es e))
  where
    go : (t : Bool) → Each P (added_to first es) → Each P (cond t (added_to first es) (x ∷ added_to first es))
    go true r = r
    go false r = each_cons P x (added_to first es) (each_head P x es e) r

elements_short : (lent : Lent) → list_check lent ≡ 0 → Each Short (elements lent)
elements_short lent A = each_of Short (elements lent) (λ i l. bytes_short lent A i (omega (arith, length_elements lent A)))

pool_listed : (first second : Lent) → pool_refusal first second ≡ 0 → Listed (pool first second)
pool_listed first second U =
    let a = admitted first second U in
    list_of (pool first second) a.few
    (each_append Short (elements first) (added_to (elements first) (elements second)) (elements_short first a.first_accepted)
    (each_added Short (elements first) (elements second) (elements_short second a.second_accepted)))

pub pool_as_one_list : PoolAsOneList
pool_as_one_list first second U = (
  pool_listed first second U,
  λ p places table one. same_answer p first second one.lent U one.accepted one.same places table,
)

-- ---- demand 3 over it

of_one_list : (p : Params) (lent : Lent) (places table : List ℕ) → Demand3 p lent places table
    → Guarantee p (elements lent) places (proved p lent places table)
of_one_list p lent places table D =
    record { of_prover = D.of_prover; of_chain = D.of_chain; listed = D.listed; on_the_proof = D.on_the_proof }

module _ (p : Params) (first second : Lent) (places table : List ℕ) (S : ServedPool p first second places table) where
  one : Listed (pool first second)
  one = pool_listed first second S.lists

  served : Served p one.lent places table
  served =
      let n = as_many p first second one.lent S.lists one.accepted one.same in
      record {
        settings = S.settings;
        list = one.accepted;
        at_least = omega (arith, S.at_least);
        places_enough = S.places_enough;
        table_enough = S.table_enough;
      }

  same : proved p one.lent places table ≡ proved_pool p first second places table
  same = sym (same_answer p first second one.lent S.lists one.accepted one.same places table)

  over_pool : Guarantee p (pool first second) places (proved_pool p first second places table)
  over_pool =
      subst (λ (es : List Element). Guarantee p es places (proved_pool p first second places table)) one.same
      (subst (Guarantee p (elements one.lent) places) same
      (of_one_list p one.lent places table (demand_3 p one.lent places table served)))

pub pool_guaranteed : PoolGuaranteed
pool_guaranteed = over_pool

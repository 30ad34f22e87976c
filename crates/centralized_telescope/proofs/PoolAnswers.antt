-- The calls on a pool by their answers: what is refused, the size, the lookup and the prover.
use Rattle.std.proofs.Common.{◌≡◌, ℕ, ◌<◌, ◌≤◌, ltb, List, [], length, take, ap, ◌∙◌, subst, arith, ltb-false, le-ltb, lt-ltb, eq-eqb, ne_eqb}
use Rattle.sampling.specs.core.FirstNumber.{line, first_number}
use Rattle.sampling.specs.laws.FirstNumberLaws.{number_met, second_met, two_passed, number_last, number_none}
use Rattle.centralized_telescope.specs.declared.errors.Refusal.{Refusal}
use Rattle.centralized_telescope.specs.declared.errors.Refusal.TheVariants as refusal
use Rattle.centralized_telescope.specs.declared.params.Params.{Params}
use Rattle.centralized_telescope.specs.core.Refusals.{refusal_number, answer_number}
use Rattle.centralized_telescope.specs.laws.RefusalsLaws.{refusal_number_lem}
use Rattle.centralized_telescope.specs.laws.TestLaws.{unsaid}
use Rattle.centralized_telescope.specs.core.Params.{checked}
use Rattle.centralized_telescope.specs.core.Elements.{element_at, list_check, Lent, max_elements}
use Rattle.centralized_telescope.specs.core.Prover.{refused, by_search, room_refusals}
use Rattle.centralized_telescope.specs.later.Pool.{pool, pool_refusal, pool_size, pool_data, pool_prover_refusal, proved_pool}
use Rattle.centralized_telescope.specs.inner.Source.{meant}
use Rattle.std.specs.Prelude.{Some, None, Result, Ok, Err}
use Rattle.std.specs.Prelude.{Option as Answer}
use Rattle.std.specs.Option.{ok_or}
use Rattle.centralized_telescope.specs.inner.Pooling.{AddedAre, AddedBy}
use Rattle.centralized_telescope.proofs.AddedPlaces.{pool_length, pool_meant}

module _ (first second : Lent) where
  -- ---- what is refused

  abbrev list_over : ℕ
  list_over = line 45 (ltb max_elements (length (pool first second)))

  -- 4 and 5 of the first list
  pub first_met : (k : Refusal) → list_check first ≡ refusal_number k → pool_refusal first second ≡ refusal_number k
  unfolding pool_refusal
  first_met k e = number_met (list_check first) _ (refusal_number k) e (refusal_number_lem k)

  module _ (A : list_check first ≡ 0) where
    -- of the second
    pub second_list_met : (k : Refusal) → list_check second ≡ refusal_number k → pool_refusal first second ≡ refusal_number k
    unfolding pool_refusal
    second_list_met k e = second_met (list_check first) (list_check second) _ (refusal_number k) A e (refusal_number_lem k)

    module _ (B : list_check second ≡ 0) where
      last_line : pool_refusal first second ≡ list_over
      unfolding pool_refusal
      last_line = two_passed (list_check first) (list_check second) _ A B ∙ number_last list_over

      -- 45
      pub pool_met : max_elements < length (pool first second) → pool_refusal first second ≡ refusal_number refusal.PoolTooLarge
      pool_met l = last_line ∙ rw (lt-ltb max_elements (length (pool first second)) l)

      pub none_met : length (pool first second) ≤ max_elements → pool_refusal first second ≡ 0
      none_met l = last_line ∙ rw (le-ltb max_elements (length (pool first second)) l)

      -- what is added, with both lists, is the pool
      pub pool_made : (k : ℕ) (ws : List ℕ) → AddedAre first second k ws
          → (pool_refusal first second ≡ 0) × (meant (record { first = first; second = second; added = take k ws }) ≡ pool first second)
      pool_made k ws P =
          let e = pool_length first second A B k ws P in
          (none_met (omega (arith, P.few)), pool_meant first second A B k ws P)

      -- whether what is added was found to be too much
      pub over_met : (found : Answer ℕ) (ws : List ℕ) (k : Refusal) → AddedBy first second found ws
          → ok_or found refusal.PoolTooLarge ≡ Err k → pool_refusal first second ≡ refusal_number k
      over_met (Some n) ws k e q = cc
      over_met None ws k e q = pool_met e ∙ ap (λ (r : Result ℕ Refusal). answer_number r) q

      pub all_found : (found : Answer ℕ) (ws : List ℕ) (count : ℕ) → AddedBy first second found ws
          → ok_or found refusal.PoolTooLarge ≡ Ok count → AddedAre first second count ws
      all_found (Some n) ws count e q = let same : n ≡ count = cc in subst (λ (k : ℕ). AddedAre first second k ws) same e
      all_found None ws count e q = cc

  pub record Admitted : Type 0 where
    pub first_accepted : list_check first ≡ 0
    pub second_accepted : list_check second ≡ 0
    pub few : length (pool first second) ≤ max_elements

  pub admitted : pool_refusal first second ≡ 0 → Admitted
  unfolding pool_refusal
  admitted e =
      let a = number_none _ _ e in
      let b = number_none _ _ a.1 in
      let c = number_none _ _ b.1 in
      record {
        first_accepted = a.0;
        second_accepted = b.0;
        few = ltb-false max_elements (length (pool first second)) (unsaid (ltb max_elements (length (pool first second))) 44 c.0);
      }

  -- ---- the size

  pub size_refused : (k : Refusal) → pool_refusal first second ≡ refusal_number k → (refusal_number k, 0) ≡ pool_size first second
  unfolding pool_size
  size_refused k e = rw (e, ne_eqb (refusal_number k) 0 (refusal_number_lem k))

  pub size_served : (size : ℕ) → pool_refusal first second ≡ 0 → size ≡ length (pool first second) → (0, size) ≡ pool_size first second
  unfolding pool_size
  size_served size e q = rw (e, q)

  -- ---- the lookup

  module _ (place : ℕ) where
    pub data_in : pool_refusal first second ≡ 0 → place < length (pool first second)
        → pool_data first second place ≡ (element_at (pool first second) place).bytes
    unfolding pool_data
    data_in e l = rw (e, lt-ltb place (length (pool first second)) l)

    pub data_past : pool_refusal first second ≡ 0 → length (pool first second) ≤ place → pool_data first second place ≡ []
    unfolding pool_data
    data_past e l = rw (e, le-ltb place (length (pool first second)) l)

    pub data_refused : (k : Refusal) → pool_refusal first second ≡ refusal_number k → pool_data first second place ≡ []
    unfolding pool_data
    data_refused k e = rw (e, ne_eqb (refusal_number k) 0 (refusal_number_lem k))

  -- ---- the prover

  module _ (p : Params) (places table : List ℕ) where
    abbrev met : ℕ
    met = pool_prover_refusal p first second (length places) (length table)

    run_refused : (k : Refusal) → met ≡ refusal_number k → proved_pool p first second places table ≡ refused (refusal_number k) places table
    unfolding proved_pool
    run_refused k e = rw (e, ne_eqb (refusal_number k) 0 (refusal_number_lem k))

    pub settings_refused : (k : Refusal) → checked p ≡ refusal_number k
        → proved_pool p first second places table ≡ refused (refusal_number k) places table
    unfolding pool_prover_refusal
    settings_refused k e = run_refused k (number_met (checked p) _ (refusal_number k) e (refusal_number_lem k))

    module _ (s : checked p ≡ 0) where
      pub lists_refused : (k : Refusal) → pool_refusal first second ≡ refusal_number k
          → proved_pool p first second places table ≡ refused (refusal_number k) places table
      unfolding pool_prover_refusal
      lists_refused k e = run_refused k (second_met (checked p) (pool_refusal first second) _ (refusal_number k) s e (refusal_number_lem k))

      module _ (e : pool_refusal first second ≡ 0) where
        abbrev last : ℕ
        last = first_number (room_refusals p (length (pool first second)) (length places) (length table))

        room_decides : met ≡ last
        unfolding pool_prover_refusal
        room_decides = two_passed (checked p) (pool_refusal first second) _ s e

        pub room_refused : (k : Refusal) → last ≡ refusal_number k
            → proved_pool p first second places table ≡ refused (refusal_number k) places table
        room_refused k l = run_refused k (room_decides ∙ l)

        pub run_served : last ≡ 0 → proved_pool p first second places table ≡ by_search p (pool first second) places table
        unfolding proved_pool
        run_served l = rw (eq-eqb met 0 (room_decides ∙ l))

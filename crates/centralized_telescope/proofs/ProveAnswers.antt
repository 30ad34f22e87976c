-- The prover's refusals by the lines of the table, from the top, and its answer by them.
use Rattle.std.proofs.Common.{◌≡◌, ℕ, ◌+◌, ◌*◌, ◌<◌, ◌≤◌, Bool, true, false, cond, eqb, ltb, List, length, refl, ◌∙◌, ltb-false, le-ltb, lt-ltb, eq-eqb, ne_eqb, eqb-true}
use Rattle.centralized_telescope.specs.declared.errors.Refusal.{Refusal}
use Rattle.centralized_telescope.specs.declared.errors.Refusal.TheVariants as refusal
use Rattle.centralized_telescope.specs.declared.params.Params.{Params}
use Rattle.centralized_telescope.specs.core.Refusals.{refusal_number}
use Rattle.centralized_telescope.specs.laws.RefusalsLaws.{refusal_number_lem}
use Rattle.centralized_telescope.specs.core.Params.{checked}
use Rattle.centralized_telescope.specs.core.Elements.{elements, list_check, Lent}
use Rattle.centralized_telescope.specs.laws.TestLaws.{neither, unsaid}
use Rattle.sampling.specs.core.FirstNumber.{line, first_number}
use Rattle.sampling.specs.laws.FirstNumberLaws.{number_passed, number_met, second_met, two_passed, number_last, number_none}
use Rattle.centralized_telescope.specs.core.Prover.{Proved, refused, by_search, table_short, workspace_short, room_refusals}
use Rattle.centralized_telescope.specs.core.Prover.{prover_refusal}
use Rattle.centralized_telescope.specs.core.Prover.{proved}
use Rattle.centralized_telescope.specs.core.Demand3.{Served}

-- ---- 6 and 10, with so many elements, places and bin-table numbers

module _ (p : Params) (count places table : ℕ) where
  abbrev last : ℕ
  last = first_number (room_refusals p count places table)

  short : workspace_short p places table ≡ true → last ≡ 6
  short t = number_met (line 6 (workspace_short p places table)) _ 6 (rw t) (refusal_number_lem refusal.WorkspaceShort)

  pub places_met : places < p.proof_size → last ≡ 6
  places_met h = short (rw (lt-ltb places p.proof_size h))

  module _ (h : p.proof_size ≤ places) where
    pub table_met : table_short p table ≡ true → last ≡ 6
    table_met t = short (rw (le-ltb places p.proof_size h, t))

    module _ (t : table_short p table ≡ false) where
      enough : workspace_short p places table ≡ false
      enough = rw (le-ltb places p.proof_size h, t)

      after_six : last ≡ line 10 (ltb count p.set_size)
      after_six =
          number_passed (line 6 (workspace_short p places table)) _ (rw enough)
          ∙ number_last (line 10 (ltb count p.set_size))

      pub few_met : count < p.set_size → last ≡ 10
      few_met f = after_six ∙ rw (lt-ltb count p.set_size f)

      pub none_met : p.set_size ≤ count → last ≡ 0
      none_met f = after_six ∙ rw (le-ltb count p.set_size f)

  -- nothing is too short or too few
  pub record Roomy : Type 0 where
    pub at_least : p.set_size ≤ count
    pub places_enough : p.proof_size ≤ places
    pub table_enough : 3 * p.set_size + 1 ≤ table

  pub roomy : last ≡ 0 → Roomy
  roomy e =
      let w = number_none _ _ e in
      let f = number_none _ _ w.1 in
      let room = neither (ltb places p.proof_size) (unsaid (workspace_short p places table) 5 w.0) in
      record {
        at_least = ltb-false count p.set_size (unsaid (ltb count p.set_size) 9 f.0);
        places_enough = ltb-false places p.proof_size room.0;
        table_enough = ltb-false table (3 * p.set_size + 1) room.1;
      }

-- by the tests of the room
pub ruleset room_told = (places_met, table_met, few_met, none_met)

-- ---- all refusals, with so many places and bin-table numbers lent

module _ (p : Params) (lent : Lent) (places table : ℕ) where
  -- the number of the first line met
  abbrev first : ℕ
  first = prover_refusal p lent places table

  -- 1, 2
  pub settings_met : (k : Refusal) → checked p ≡ refusal_number k → first ≡ refusal_number k
  unfolding prover_refusal
  settings_met k e = number_met (checked p) _ (refusal_number k) e (refusal_number_lem k)

  module _ (s : checked p ≡ 0) where
    -- 4, 5
    pub list_number_met : (k : ℕ) → (k ≡ 0 → ⊥) → list_check lent ≡ k → first ≡ k
    unfolding prover_refusal
    list_number_met k n e = second_met (checked p) (list_check lent) _ k s e n

    pub list_met : (k : Refusal) → list_check lent ≡ refusal_number k → first ≡ refusal_number k
    list_met k e = list_number_met (refusal_number k) (refusal_number_lem k) e

    -- 6, 10
    pub room_decides : list_check lent ≡ 0 → first ≡ first_number (room_refusals p (length lent.ends) places table)
    unfolding prover_refusal
    room_decides l = two_passed (checked p) (list_check lent) _ s l

-- ---- the answer

module _ (p : Params) (lent : Lent) (places table : List ℕ) where
  open lent use {ends}

  abbrev answer : Proved
  answer = proved p lent places table

  -- the number of the first line met
  abbrev met : ℕ
  met = prover_refusal p lent (length places) (length table)

  pub refused_by : (k : ℕ) → (k ≡ 0 → ⊥) → met ≡ k → answer ≡ refused k places table
  unfolding proved
  refused_by k n e = rw (e, ne_eqb k 0 n)

  -- the same of a refusal that `check_run` gives
  pub run_refused : (k : Refusal) → met ≡ refusal_number k → answer ≡ refused (refusal_number k) places table
  run_refused k e = refused_by (refusal_number k) (refusal_number_lem k) e

  pub run_served : met ≡ 0 → answer ≡ by_search p (elements lent) places table
  unfolding proved
  run_served e = rw (eq-eqb met 0 e)

  -- without a refusal it is a run that demand 3 speaks of
  pub run_lawful : met ≡ 0 → Served p lent places table
  unfolding prover_refusal
  run_lawful e =
      let s = number_none _ _ e in
      let l = number_none _ _ s.1 in
      let room = roomy p (length ends) (length places) (length table) l.1 in
      record {
        settings = s.0;
        list = l.0;
        at_least = room.at_least;
        places_enough = room.places_enough;
        table_enough = room.table_enough;
      }

  -- such a run isn't refused
  pub lawful_passes : Served p lent places table → met ≡ 0
  lawful_passes S =
      room_decides p lent (length places) (length table) S.settings S.list
      ∙ none_met p (length ends) (length places) (length table) S.places_enough
      (le-ltb (length table) (3 * p.set_size + 1) S.table_enough) S.at_least

  -- and is served
  pub served_so : Served p lent places table → answer ≡ by_search p (elements lent) places table
  served_so S = run_served (lawful_passes S)

  -- a run that ends with a proof was not refused
  passed_all : answer.number ≡ 0 → met ≡ 0
  unfolding proved
  passed_all = go (eqb met 0) refl
    where
      go : (t : Bool) → eqb met 0 ≡ t → (cond t (by_search p (elements lent) places table) (refused met places table)).number ≡ 0 → met ≡ 0
      go true e h = eqb-true met 0 e
      go false e h = h

  pub found_served : answer.number ≡ 0 → Served p lent places table
  found_served n = run_lawful (passed_all n)

-- by the tests of a run
pub ruleset run_told = (settings_met, list_met, room_decides)

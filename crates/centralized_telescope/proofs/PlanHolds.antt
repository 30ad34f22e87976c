-- The claims on planning.
use Rattle.std.proofs.Common.{◌≡◌, ℕ, zero, suc, ◌+◌, ◌*◌, ◌<◌, ◌≤◌, Bool, true, false, cond, eqb, leb, ◌⊎◌, List, [], ◌∷◌, map, length, take, sym, refl, ap, ◌∙◌, subst, inl, inr, arith, length-append, length-take, take_at, le-ltb, lt-ltb, eq-eqb}
use mathlib.Core.Option.{Option, none, some}
use borrow.Author.Tests.{lt-leb}
use lib.ListN.{length-map}
use Rattle.sampling.specs.core.BigEndian.{bytes_of}
use Rattle.centralized_telescope.specs.declared.params.Params.{Params}
use Rattle.centralized_telescope.specs.declared.planning.Amounts.{Amounts}
use Rattle.centralized_telescope.specs.core.Params.{not_one_to, limit_broken, checked, max_proof_size}
use Rattle.centralized_telescope.specs.core.Lists.{Each, some_of}
use Rattle.sampling.specs.core.FirstNumber.{first_number}
use Rattle.centralized_telescope.specs.core.Elements.{Element, elements_from, elements, element_at, end_wrong, malformed, data_long}
use Rattle.centralized_telescope.specs.core.Elements.{too_large, list_check, Lent}
use Rattle.centralized_telescope.specs.later.Words.{mark_of}
use Rattle.centralized_telescope.specs.core.Chains.{Chain}
use Rattle.centralized_telescope.specs.core.Search.{searched}
use Rattle.centralized_telescope.specs.core.Prover.{Proved, refused, answered, by_search, prover_refusal, proved, room_refusals}
use Rattle.centralized_telescope.specs.later.ProofList.{joined_data, place_out, buffers_short, ProofList, list_over, write_refusal}
use Rattle.centralized_telescope.specs.later.ProofList.{proof_list}
use Rattle.centralized_telescope.specs.later.Blocks.{block_count, block_bytes}
use Rattle.centralized_telescope.specs.later.ElementBytes.{element_bytes, elements_bytes, max_head_bytes}
use Rattle.centralized_telescope.specs.later.Tickets.{content, ticket, TicketWritten, ticket_write_refusal, ticket_written}
use Rattle.centralized_telescope.specs.later.Tickets.{ticket_head_bytes}
use Rattle.centralized_telescope.specs.core.Demand3.{Served, Listed}
use Rattle.centralized_telescope.specs.later.Plan.{amounts, plan_refusal, planned}
use Rattle.centralized_telescope.specs.later.PlanClaims.{PlanSuffices, PlanNeeded, StepsNotPassed, TicketFitsClaim, TicketBounded}
use Rattle.centralized_telescope.specs.later.PlanClaims.{TightExample}
use Rattle.centralized_telescope.specs.laws.TestLaws.{lt_or_le}
use Rattle.centralized_telescope.specs.laws.ListsLaws.{each_nil, each_cons, each_head, each_rest}
use Rattle.centralized_telescope.specs.laws.ParamsLaws.{lawful}
use Rattle.centralized_telescope.specs.laws.ElementsLaws.{check_range, length_elements}
use Rattle.centralized_telescope.specs.laws.BlocksLaws.{length_blocks}
use Rattle.centralized_telescope.specs.laws.PlanLaws.{Given, given, content_most, content_exact}
use Rattle.centralized_telescope.proofs.Tries.{search_steps}
use Rattle.centralized_telescope.proofs.ProveAnswers.{list_number_met, room_decides, places_met, table_met, few_met, refused_by}
use Rattle.centralized_telescope.proofs.ProveAnswers.{served_so, found_served}
use Rattle.centralized_telescope.proofs.ProofAnswers.{last_met}
use Rattle.centralized_telescope.proofs.TicketAnswers.{room_met}
use Rattle.centralized_telescope.proofs.DemandHolds.{demand_3}
use Rattle.centralized_telescope.proofs.TicketsHold.{blocks_counted}

-- ---- the planned amounts, one by one

module _ (p : Params) (longest : ℕ) (a : Amounts) (G : Given p longest a) where
  places_are : a.places ≡ p.proof_size
  unfolding amounts
  places_are = ap (λ (m : Amounts). m.places) G.same

  table_is : a.bin_table ≡ 3 * p.set_size + 1
  unfolding amounts
  table_is = ap (λ (m : Amounts). m.bin_table) G.same

  steps_are : a.most_steps ≡ p.max_retries * p.dfs_bound
  unfolding amounts
  steps_are = ap (λ (m : Amounts). m.most_steps) G.same

  blocks_are : a.ticket_blocks ≡ block_count (ticket_head_bytes + p.proof_size * (max_head_bytes + longest))
  unfolding amounts
  blocks_are = ap (λ (m : Amounts). m.ticket_blocks) G.same

-- ---- 6, and when it comes

module _ (p : Params) (s : checked p ≡ 0) (lent : Lent) (places table : List ℕ) where
  open lent use {ends}

  abbrev answer : Proved
  answer = proved p lent places table

  not_six : (o : Option Chain) (R count : ℕ) (table' : List ℕ) → (answered p o R count places table').number ≡ 6 → ⊥
  unfolding answered
  not_six (some c) R count table' e = omega arith
  not_six none R count table' e = go (leb p.dfs_bound count) e
    where
      go : (b : Bool) → ◌≡◌ {A = ℕ} (cond b 11 12) 6 → ⊥
      go true e = omega arith
      go false e = omega arith

  -- the answer's number by the first line met
  number_by_lem : (k : ℕ) → (k ≡ 0 → ⊥) → prover_refusal p lent (length places) (length table) ≡ k → answer.number ≡ k
  number_by_lem k n e = ap (λ (x : Proved). x.number) (refused_by p lent places table k n e)

  enough : p.proof_size ≤ length places → 3 * p.set_size + 1 ≤ length table → answer.number ≡ 6 → ⊥
  unfolding by_search
  enough h t e = go (list_check lent) refl
    where
      go : (n : ℕ) → list_check lent ≡ n → ⊥
      go (suc k) l =
          let q : answer.number ≡ suc k =
          number_by_lem (suc k) (λ z. omega arith) (list_number_met p lent _ _ s (suc k) (λ z. omega arith) l) in
          omega (arith, check_range lent)
      go zero l = elim (lt_or_le (length ends) p.set_size) [
        | inl f ↦
            let q : answer.number ≡ 10 =
            number_by_lem 10 (λ z. omega arith)
            (room_decides p lent _ _ s l
            ∙ few_met p (length ends) _ _ h (le-ltb (length table) (3 * p.set_size + 1) t) f) in
            omega arith
        | inr f ↦
            not_six (searched p (elements lent)).proof _ _ _
            (sym (ap (λ (x : Proved). x.number) (served_so p lent places table
            (record { settings = s; list = l; at_least = f; places_enough = h; table_enough = t }))) ∙ e)
      ]

  too_short : list_check lent ≡ 0 → (length places < p.proof_size) ⊎ (length table < 3 * p.set_size + 1)
      → answer ≡ refused 6 places table
  too_short l o = refused_by p lent places table 6 (λ z. omega arith) (room_decides p lent _ _ s l ∙ go o)
    where
      go : (length places < p.proof_size) ⊎ (length table < 3 * p.set_size + 1)
          → first_number (room_refusals p (length ends) (length places) (length table)) ≡ 6
      go (inl h) = places_met p (length ends) _ _ h
      go (inr t) = elim (lt_or_le (length places) p.proof_size) [
        | inl h ↦ places_met p (length ends) _ _ h
        | inr h ↦ table_met p (length ends) _ _ h (lt-ltb (length table) (3 * p.set_size + 1) t)
      ]

pub plan_suffices : PlanSuffices
plan_suffices p longest a P lent places table h t =
    let G = given p longest a P in
    enough p G.settings lent places table (subst (λ (k : ℕ). k ≤ length places) (places_are p longest a G) h)
    (subst (λ (k : ℕ). k ≤ length table) (table_is p longest a G) t)

pub plan_needed : PlanNeeded
plan_needed p longest a P lent places table A h =
    let G = given p longest a P in
    too_short p G.settings lent places table A (elim h [
      | inl l ↦ inl (subst (λ (k : ℕ). length places < k) (places_are p longest a G) l)
      | inr l ↦ inr (subst (λ (k : ℕ). length table < k) (table_is p longest a G) l)
    ])

-- ---- the step count

module _ (p : Params) (lent : Lent) (places table : List ℕ) where
  abbrev es : List Element
  es = elements lent

  counted : (o : Option Chain) (R count : ℕ) (table' : List ℕ) → (answered p o R count places table').count ≡ count
  unfolding answered
  counted (some c) R count table' = refl
  counted none R count table' = refl

  steps_most : (proved p lent places table).count ≤ p.max_retries * p.dfs_bound
  unfolding proved by_search
  steps_most = go (eqb refusal 0)
    where
      refusal : ℕ
      refusal = prover_refusal p lent (length places) (length table)

      go : (t : Bool) → (cond t (by_search p es places table) (refused refusal places table)).count ≤ p.max_retries * p.dfs_bound
      go true = rw (counted (searched p es).proof (searched p es).made (searched p es).count _) (search_steps p es)
      go false = omega arith

pub steps_not_passed : StepsNotPassed
steps_not_passed p longest a P lent places table =
    rw (steps_are p longest a (given p longest a P)) (steps_most p lent places table)

-- ---- a proof's ticket

-- what is so of each element is so of the one at a place
at_each : (P : Element → Type 0) (es : List Element) (i : ℕ) → i < length es → Each P es → P (element_at es i)
unfolding Each element_at
at_each P [] i h E = absurd (omega arith)
at_each P (e ∷ es) zero h E = E.0
at_each P (e ∷ es) (suc i) h E = at_each P es i (omega arith) E.1

-- data no longer than some length, joined
joined_most : (longest : ℕ) (es : List Element) → Each (λ (e : Element). length e.bytes ≤ longest) es
    → length (joined_data es) ≤ length es * longest
unfolding Each joined_data
joined_most longest [] h = omega arith
joined_most longest (e ∷ es) h = omega (arith, length-append e.bytes (joined_data es), h.0, joined_most longest es h.1)

-- more bytes take no fewer blocks
blocks_rise : (m n : ℕ) → m ≤ n → block_count m ≤ block_count n
blocks_rise m n h = omega arith

-- an accepted list whose ticket has room
module _ (R S : ℕ) (lent : Lent) (out : List ℕ) (A : list_check lent ≡ 0) where
  abbrev size : ℕ
  size = length (content R S (elements lent))

  ticket_made : block_bytes * block_count size ≤ length out
      → ((ticket_written R S lent out).number ≡ 0) × ((ticket_written R S lent out).count ≡ block_count size)
  unfolding ticket_written
  ticket_made room =
      rw (eq-eqb (ticket_write_refusal R S lent out) 0
      (room_met R S lent out A size refl false (le-ltb (length out) (block_bytes * block_count size) room))) (refl, refl)

  ticket_unmade : length out < block_bytes * block_count size → (ticket_written R S lent out).count ≡ 0
  unfolding ticket_written
  ticket_unmade short = rw (room_met R S lent out A size refl true (lt-ltb (length out) (block_bytes * block_count size) short))

module _ (p : Params) (lent : Lent) (places table : List ℕ) (n : (proved p lent places table).number ≡ 0) where
  open lent use {ends}

  abbrev r : Proved
  r = proved p lent places table

  abbrev all : List Element
  all = elements lent

  -- the proof's places
  abbrev own : List ℕ
  own = take p.proof_size r.places

  run : Served p lent places table
  run = found_served p lent places table n

  chain : (c : Chain) × (own ≡ c.places) × (length c.places ≡ p.proof_size) × Each (λ (i : ℕ). i < length all) c.places
  chain =
      let D = demand_3 p lent places table run in
      let q = D.of_prover.proof_is n in
      let c = q.0 in
      let w = q.1.passes in (
        c,
        ap (take p.proof_size) q.4 ∙ take_at c.places _ p.proof_size w.exactly,
        w.exactly,
        within c.places w.exists.kept_places,
      )
    where
      within : (ps : List ℕ) → Each (λ (i : ℕ). i < length (take (2 * p.set_size) all)) ps → Each (λ (i : ℕ). i < length all) ps
      within [] e = each_nil (λ (i : ℕ). i < length all)
      within (i ∷ ps) e =
          let l = each_head (λ (j : ℕ). j < length (take (2 * p.set_size) all)) i ps e in
          each_cons (λ (j : ℕ). j < length all) i ps (omega (arith, length-take (2 * p.set_size) all))
          (within ps (each_rest (λ (j : ℕ). j < length (take (2 * p.set_size) all)) i ps e))

  own_places : Each (λ (i : ℕ). i < length all) own
  own_places = rw chain.1 chain.3

  own_length : length own ≡ p.proof_size
  own_length = rw chain.1 chain.2

  chosen_each : (P : Element → Type 0) → Each P all → (ps : List ℕ) → Each (λ (i : ℕ). i < length all) ps → Each P (map (element_at all) ps)
  chosen_each P E [] h = each_nil P
  chosen_each P E (i ∷ ps) h =
      each_cons P _ _ (at_each P all i (each_head (λ (j : ℕ). j < length all) i ps h) E)
      (chosen_each P E ps (each_rest (λ (j : ℕ). j < length all) i ps h))

  none_out : (ps : List ℕ) → Each (λ (i : ℕ). i < length all) ps → place_out (length ends) ps ≡ false
  unfolding some_of
  none_out [] h = refl
  none_out (i ∷ ps) h =
      let l = each_head (λ (j : ℕ). j < length all) i ps h in
      rw (lt-leb (length ends) i (omega (arith, l, length_elements lent run.list)))
      (none_out ps (each_rest (λ (j : ℕ). j < length all) i ps h))

  module _ (longest : ℕ) (a : Amounts) (G : Given p longest a) (short : Each (λ (e : Element). length e.bytes ≤ longest) all) where
    own_short : Each (λ (e : Element). length e.bytes ≤ longest) (map (element_at all) own)
    own_short = chosen_each (λ (e : Element). length e.bytes ≤ longest) short own own_places

    elements_count : length (map (element_at all) own) ≡ p.proof_size
    elements_count = length-map own (element_at all) ∙ own_length

    module _ (buffers : Lent) where
      open buffers use {bytes as bytes', ends as ends', marks as marks', indexes as indexes'}

      abbrev w : ProofList
      w = proof_list own lent buffers

      listed : a.places * longest ≤ length bytes' → a.places ≤ length ends' → a.places ≤ length marks' → a.places ≤ length indexes'
          → w.number ≡ 0
      unfolding proof_list buffers_short list_over
      listed b e m x =
          let P = places_are p longest a G in
          let few : length own ≤ max_proof_size = omega (arith, own_length, (lawful p G.settings).limits.proof_size) in
          let data_most : length (joined_data (map (element_at all) own)) ≤ p.proof_size * longest =
          subst (λ (k : ℕ). length (joined_data (map (element_at all) own)) ≤ k * longest) elements_count
          (joined_most longest (map (element_at all) own) own_short) in
          let b' : p.proof_size * longest ≤ length bytes' = subst (λ (k : ℕ). k * longest ≤ length bytes') P b in
          let room : buffers_short (length own) (length (joined_data (map (element_at all) own))) buffers ≡ false =
          rw (
            le-ltb (length ends') (length own) (omega (arith, own_length)),
            le-ltb (length marks') (length own) (omega (arith, own_length)),
            le-ltb (length indexes') (length own) (omega (arith, own_length)),
            le-ltb (length bytes') (length (joined_data (map (element_at all) own))) (omega arith),
          ) in
          let none_met = last_met own lent buffers run.list (none_out own own_places) (omega arith) false room in
          rw (eq-eqb (write_refusal own lent buffers) 0 none_met)

    -- the ticket of a list with these elements
    module _ (l : Listed (map (element_at all) own)) (out : List ℕ) where
      abbrev held : ℕ
      held = length (content r.retry r.search (elements l.lent))

      held_is : held ≡ length (content r.retry r.search (map (element_at all) own))
      held_is = ap (λ (es : List Element). length (content r.retry r.search es)) l.same

      held_most : held ≤ ticket_head_bytes + p.proof_size * (max_head_bytes + longest)
      held_most =
          rw held_is
          (subst
          (λ (k : ℕ). length (content r.retry r.search (map (element_at all) own)) ≤ ticket_head_bytes + k * (max_head_bytes + longest))
          elements_count (content_most longest r.retry r.search (map (element_at all) own) own_short))

      blocks_most : block_count held ≤ a.ticket_blocks
      blocks_most =
          rw (blocks_are p longest a G) (blocks_rise held (ticket_head_bytes + p.proof_size * (max_head_bytes + longest)) held_most)

      abbrev made : TicketWritten
      made = ticket_written r.retry r.search l.lent out

      fitting : block_bytes * block_count held ≤ length out → (made.number ≡ 0) × (made.count ≡ block_count held)
      fitting = ticket_made r.retry r.search l.lent out l.accepted

      blocks_within : made.count ≤ a.ticket_blocks
      blocks_within = elim (lt_or_le (length out) (block_bytes * block_count held)) [
        | inl s ↦ rw (ticket_unmade r.retry r.search l.lent out l.accepted s) (omega arith)
        | inr h ↦ rw (fitting h).1 blocks_most
      ]

      module _ (room : block_bytes * a.ticket_blocks ≤ length out) where
        room_for_it : block_bytes * block_count held ≤ length out
        room_for_it = omega (arith, blocks_most)

        made_with_room : made.number ≡ 0
        made_with_room = (fitting room_for_it).0

        tight : Each (λ (e : Element). (length e.bytes ≡ longest) × (mark_of e.index ≡ 1)) (map (element_at all) own)
            → made.count ≡ a.ticket_blocks
        tight E =
            (fitting room_for_it).1 ∙ rw (
              blocks_are p longest a G,
              held_is,
              content_exact longest r.retry r.search (map (element_at all) own) E,
              elements_count,
            )

pub ticket_fits : TicketFitsClaim
ticket_fits p longest a P lent places table short n =
    let G = given p longest a P in
    record {
      listed = listed p lent places table n longest a G short;
      number = made_with_room p lent places table n longest a G short;
      blocks = blocks_within p lent places table n longest a G short;
      tight = tight p lent places table n longest a G short;
    }

-- ---- any ticket

pub ticket_bounded : TicketBounded
unfolding ticket
ticket_bounded t k longest E =
    let c = content k.0 k.1 k.2 in
    let many : length t ≡ block_bytes * block_count (length c) = rw k.4 (length_blocks c) in
    let size : ℕ = ticket_head_bytes + length k.2 * (max_head_bytes + longest) in
    let most = blocks_rise (length c) size (content_most longest k.0 k.1 k.2 E) in
    omega (arith, blocks_counted.0 t k)

-- ---- the example, computed

pub tight_example : TightExample
unfolding planned plan_refusal amounts first_number checked not_one_to limit_broken ticket_written ticket_write_refusal list_check malformed too_large
    data_long end_wrong some_of content elements_bytes element_bytes elements_from bytes_of
tight_example = (refl, λ R S. (refl, refl))

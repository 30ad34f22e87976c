-- The call that counts chains: its refusals by the lines of the table, and its answer by them and by the tally.
use Rattle.std.proofs.Common.{◌≡◌, ℕ, ◌+◌, ◌-◌, ◌*◌, ◌<◌, ◌≤◌, Bool, true, false, cond, ltb, List, [], ◌++◌, length, take, drop, sym, ap, ◌∙◌, refl, subst, arith, eq-eqb, ne_eqb, eqb, eqb-true, lt-ltb, le-ltb, ltb-false, length-take-le}
use Rattle.std.specs.Prelude.{count_by, Some, None, Result, Ok, OnOk}
use Rattle.std.specs.Prelude.{Option as Answer}
use mathlib.Core.Option.{none, some}
use Rattle.std.proofs.lemmas.List.{get_or-take, get_or-replicate, length-replicate}
use Rattle.std.proofs.lemmas.List.FromFn.{fill_by_all}
use Rattle.sampling.specs.core.FirstNumber.{line}
use Rattle.sampling.specs.laws.FirstNumberLaws.{number_passed, number_met, second_met, two_passed, number_last, number_none}
use Rattle.centralized_telescope.specs.declared.errors.Refusal.{Refusal}
use Rattle.centralized_telescope.specs.declared.errors.Refusal.TheVariants as refusal
use Rattle.centralized_telescope.specs.declared.params.Params.{Params}
use Rattle.centralized_telescope.specs.declared.shape.Tally.{Tally}
use Rattle.centralized_telescope.specs.core.Refusals.{refusal_number, answer_number}
use Rattle.centralized_telescope.specs.laws.RefusalsLaws.{refusal_number_lem}
use Rattle.centralized_telescope.specs.core.Params.{checked}
use Rattle.centralized_telescope.specs.core.Elements.{Element, elements, list_check, Lent}
use Rattle.centralized_telescope.specs.core.Lists.{over}
use Rattle.centralized_telescope.specs.core.Bins.{bin_table}
use Rattle.centralized_telescope.specs.core.Chains.{Try, try_of, Chain}
use Rattle.centralized_telescope.specs.core.Search.{bin_list, bins_of, id_of, grown, chains, chains_at, passing}
use Rattle.centralized_telescope.specs.core.Rounds.{start_hash}
use Rattle.centralized_telescope.specs.declared.round.Round.{Round}
use Rattle.centralized_telescope.specs.core.Prover.{table_short}
use Rattle.centralized_telescope.specs.laws.ParamsLaws.{lawful}
use Rattle.centralized_telescope.specs.laws.TestLaws.{unsaid}
use Rattle.centralized_telescope.specs.later.Shape.{number_of_length, numbers_by_length, Shaped, shape_of, by_chains, shape_refusal, shaped}
use Rattle.centralized_telescope.specs.inner.Tallies.{none_counted, with_chains, Counts}
use Rattle.centralized_telescope.specs.inner.Held.{option_of}
use Rattle.centralized_telescope.specs.inner.Following.{round_with}
use Rattle.centralized_telescope.proofs.Walked.{Drawn, round_drawn, round_missing}
use Rattle.centralized_telescope.proofs.Tallying.{total_with, passing_with, lengths_kept, length_with}

-- ---- the refusals, with so many counts and bin-table numbers lent

module _ (p : Params) (lent : Lent) (counts table : ℕ) where
  -- the number of the first line met
  abbrev first : ℕ
  first = shape_refusal p lent counts table

  -- 1, 2
  pub settings_met : (k : Refusal) → checked p ≡ refusal_number k → first ≡ refusal_number k
  unfolding shape_refusal
  settings_met k e = number_met (checked p) _ (refusal_number k) e (refusal_number_lem k)

  module _ (s : checked p ≡ 0) where
    -- 4, 5
    pub list_met : (k : Refusal) → list_check lent ≡ refusal_number k → first ≡ refusal_number k
    unfolding shape_refusal
    list_met k e = second_met (checked p) (list_check lent) _ (refusal_number k) s e (refusal_number_lem k)

    module _ (l : list_check lent ≡ 0) where
      -- 6
      pub table_met : table_short p table ≡ true → first ≡ 6
      unfolding shape_refusal
      table_met t =
          two_passed (checked p) (list_check lent) _ s l
          ∙ number_met (line 6 (table_short p table)) _ 6 (rw t) (refusal_number_lem refusal.WorkspaceShort)

      -- 49, or nothing
      pub counts_decide : table_short p table ≡ false → first ≡ line 49 (ltb counts (p.proof_size + 1))
      unfolding shape_refusal
      counts_decide t =
          two_passed (checked p) (list_check lent) _ s l
          ∙ number_passed (line 6 (table_short p table)) _ (rw t)
          ∙ number_last (line 49 (ltb counts (p.proof_size + 1)))

      pub counts_met : table_short p table ≡ false → counts < p.proof_size + 1 → first ≡ 49
      counts_met t h = counts_decide t ∙ rw (lt-ltb counts (p.proof_size + 1) h)

      pub none_met : table_short p table ≡ false → p.proof_size + 1 ≤ counts → first ≡ 0
      none_met t h = counts_decide t ∙ rw (le-ltb counts (p.proof_size + 1) h)

  -- without a refusal
  pub record Unrefused : Type 0 where
    pub settings : checked p ≡ 0
    pub list : list_check lent ≡ 0
    pub table_enough : 3 * p.set_size + 1 ≤ table
    pub counts_enough : p.proof_size + 1 ≤ counts

  pub unrefused : first ≡ 0 → Unrefused
  unfolding shape_refusal
  unrefused e =
      let s = number_none _ _ e in
      let l = number_none _ _ s.1 in
      let t = number_none _ _ l.1 in
      let c = number_none _ _ t.1 in
      record {
        settings = s.0;
        list = l.0;
        table_enough = ltb-false table (3 * p.set_size + 1) (unsaid (table_short p table) 5 t.0);
        counts_enough = ltb-false counts (p.proof_size + 1) (unsaid (ltb counts (p.proof_size + 1)) 48 c.0);
      }

-- by the tests
pub ruleset shape_told = (settings_met, list_met, table_met, counts_met, none_met)

-- ---- the tally of a search counter's chains

module _ (T : Try) (S : ℕ) where
  abbrev cs : List Chain
  cs = chains_at T S

  abbrev pub tallied : Tally
  tallied = with_chains T cs none_counted

  pub total_is : tallied.total ≡ length cs
  total_is = total_with T cs none_counted ∙ omega arith

  pub passing_is : tallied.passing ≡ count_by (passing T) cs
  passing_is = passing_with T cs none_counted ∙ omega arith

  pub long_lengths : length tallied.lengths ≡ 1025
  long_lengths = lengths_kept T cs none_counted ∙ length-replicate {A = ℕ} 1025 0

  pub lengths_are : T.settings.proof_size ≤ 1024
      → take (T.settings.proof_size + 1) tallied.lengths ≡ numbers_by_length T.settings.proof_size cs
  unfolding numbers_by_length
  lengths_are most =
      fill_by_all (number_of_length cs) (take (T.settings.proof_size + 1) tallied.lengths) (T.settings.proof_size + 1) 0
      (length-take-le (T.settings.proof_size + 1) tallied.lengths (omega (arith, long_lengths, most)))
      (λ l h. get_or-take (T.settings.proof_size + 1) tallied.lengths l 0 h
      ∙ length_with T l cs none_counted (omega (arith, h, most, length-replicate {A = ℕ} 1025 0))
      ∙ omega (arith, get_or-replicate {A = ℕ} 1025 l 0 0))

pub tally_long : (t : Tally) (T : Try) (S : ℕ) → t ≡ tallied T S → length t.lengths ≡ 1025
tally_long t T S is = ap (λ (u : Tally). length u.lengths) is ∙ long_lengths T S

-- what the count of a search counter's chains gives: the number 50 or none, and the tally
pub record TreeCounts (T : Try) (S : ℕ) (o : Result (Unit {0}) Refusal) (t : Tally) : Type 0 where
  pub number_is : answer_number o ≡ line 50 (ltb T.settings.dfs_bound (length (chains_at T S)))
  pub counted : OnOk o (t ≡ with_chains T (chains_at T S) none_counted)

module _ (T : Try) (S : ℕ) where
  none_at : id_of T (start_hash T.retry S) ≡ none → chains_at T S ≡ []
  unfolding chains_at grown
  none_at e = rw e

  some_at : (i : ℕ) → id_of T (start_hash T.retry S) ≡ some i
      → chains_at T S ≡ chains T S T.settings.proof_size (start_hash T.retry S) i []
  unfolding chains_at grown
  some_at i e = rw e

  -- no chain at all
  none_tallied : with_chains T [] none_counted ≡ none_counted
  unfolding with_chains
  none_tallied = refl

  by_total : (cs : List Chain)
      → line 50 (ltb T.settings.dfs_bound (with_chains T cs none_counted).total)
      ≡ line 50 (ltb T.settings.dfs_bound (length cs))
  by_total cs = ap (λ (n : ℕ). line 50 (ltb T.settings.dfs_bound n)) (total_with T cs none_counted ∙ omega arith)

  module _ {g : List ℕ} (hashed : g ≡ start_hash T.retry S) {d : Answer Round} (drawn : option_of d ≡ round_with g (id_of T g)) where
    -- the start round doesn't exist
    pub start_missing : d ≡ None → {t : Tally} → t ≡ none_counted → TreeCounts T S (Ok tt) t
    start_missing q {t} is =
        let none_there : chains_at T S ≡ [] = none_at (rw (← hashed) (round_missing T g d drawn q)) in
        record {
          number_is = rw none_there (sym (rw (le-ltb T.settings.dfs_bound 0 (omega arith))));
          counted = rw none_there (is ∙ sym none_tallied);
        }

    -- it is r, from which the count goes on
    pub start_counts : {r : Round} → d ≡ Some r → {old : Tally} → old ≡ none_counted → {o : Result (Unit {0}) Refusal} {t : Tally}
        → ((S : ℕ) (places : List ℕ) → length places ≡ 0 → Counts T (chains T S (T.settings.proof_size - 0) r.hash r.id places) old o t)
        → TreeCounts T S o t
    start_counts {r} q {old} is {o} {t} said =
        let known : Drawn T g r = round_drawn T g d drawn q in
        let there : chains_at T S ≡ chains T S T.settings.proof_size r.hash r.id [] =
        some_at r.id (rw (← hashed) known.id_is)
        ∙ ap (λ (h : List ℕ). chains T S T.settings.proof_size h r.id []) (sym hashed ∙ sym known.hash_is) in
        let same : chains T S (T.settings.proof_size - 0) r.hash r.id [] ≡ chains_at T S =
        ap (λ (k : ℕ). chains T S k r.hash r.id []) (omega arith) ∙ sym there in
        let c : Counts T (chains_at T S) none_counted o t = subst (λ (u : Tally). Counts T (chains_at T S) u o t) is
        (subst (λ (cs : List Chain). Counts T cs old o t) same (said S [] refl)) in
        record { number_is = c.number_is ∙ by_total (chains_at T S); counted = c.counted }

-- ---- the answer

module _ (p : Params) (R S : ℕ) (lent : Lent) (counts table : List ℕ) where
  -- the number of the first line met
  abbrev met : ℕ
  met = shape_refusal p lent (length counts) (length table)

  abbrev answer : Shaped
  answer = shaped p R S lent counts table

  abbrev T : Try
  T = try_of p (elements lent) R

  abbrev filled : List ℕ
  filled = bin_table p.set_size (bins_of T) table

  pub shape_refused : (k : Refusal) → met ≡ refusal_number k → answer ≡ shape_of (refusal_number k) 0 counts table
  unfolding shaped
  shape_refused k e = rw (e, ne_eqb (refusal_number k) 0 (refusal_number_lem k))

  module _ (e : met ≡ 0) where
    pub shape_served : answer ≡ by_chains T S counts filled
    unfolding shaped
    shape_served = rw (eq-eqb met 0 e)

    -- a refusal by the tally is 50
    pub shape_past : (k : Refusal) → refusal_number k ≡ line 50 (ltb p.dfs_bound (length (chains_at T S)))
        → answer ≡ shape_of (refusal_number k) 0 counts filled
    unfolding by_chains
    shape_past k n = shape_served ∙ go (ltb p.dfs_bound (length (chains_at T S))) n
      where
        go : (b : Bool) → refusal_number k ≡ line 50 b
            → cond b (shape_of 50 0 counts filled)
            (shape_of 0 (count_by (passing T) (chains_at T S)) (over (numbers_by_length p.proof_size (chains_at T S)) counts) filled)
            ≡ shape_of (refusal_number k) 0 counts filled
        go true n = rw n
        go false n = absurd (refusal_number_lem k n)

    -- within the bound the counts are written
    pub shape_within : p.proof_size ≤ 1024 → 0 ≡ line 50 (ltb p.dfs_bound (length (chains_at T S)))
        → answer ≡ shape_of 0 (tallied T S).passing (take (p.proof_size + 1) (tallied T S).lengths ++ drop (p.proof_size + 1) counts) filled
    unfolding by_chains
    shape_within most n = shape_served ∙ go (ltb p.dfs_bound (length (chains_at T S))) n
      where
        long : length (numbers_by_length p.proof_size (chains_at T S)) ≡ p.proof_size + 1
        long =
            ap length (sym (lengths_are T S most))
            ∙ length-take-le (p.proof_size + 1) (tallied T S).lengths (omega (arith, long_lengths T S, most))

        go : (b : Bool) → 0 ≡ line 50 b
            → cond b (shape_of 50 0 counts filled)
            (shape_of 0 (count_by (passing T) (chains_at T S)) (over (numbers_by_length p.proof_size (chains_at T S)) counts) filled)
            ≡ shape_of 0 (tallied T S).passing (take (p.proof_size + 1) (tallied T S).lengths ++ drop (p.proof_size + 1) counts) filled
        go true n = absurd (omega (arith, n))
        go false n = rw (passing_is T S, lengths_are T S most, long)

  -- an answer with the number 0 wasn't refused
  pub unrefused_by : answer.number ≡ 0 → met ≡ 0
  unfolding shaped
  unrefused_by = go (eqb met 0) refl
    where
      go : (b : Bool) → eqb met 0 ≡ b → (cond b (by_chains T S counts filled) (shape_of met 0 counts table)).number ≡ 0 → met ≡ 0
      go true e h = eqb-true met 0 e
      go false e h = h

-- ---- of a search counter: what its count gives

-- what the code does with equal settings and elements
module _ (p q : Params) (Q : q ≡ p) (lent : Lent) (es : List Element) (M : es ≡ elements lent) (R S : ℕ) (counts table : List ℕ)
    (e : shape_refusal p lent (length counts) (length table) ≡ 0) where
  abbrev made : List ℕ
  made = bin_table q.set_size (bin_list q.set_size R (take (2 * q.set_size) es)) table

  pub past_so : (k : Refusal) → refusal_number k ≡ line 50 (ltb q.dfs_bound (length (chains_at (try_of q es R) S)))
      → shape_of (refusal_number k) 0 counts made ≡ shaped p R S lent counts table
  past_so k n = rw (Q, M) (sym (shape_past p R S lent counts table e k (rw (Q, M) at n)))

  pub within_so : (t : Tally) → 0 ≡ line 50 (ltb q.dfs_bound (length (chains_at (try_of q es R) S))) → t ≡ tallied (try_of q es R) S
      → shape_of 0 t.passing (take (q.proof_size + 1) t.lengths ++ drop (q.proof_size + 1) counts) made ≡ shaped p R S lent counts table
  within_so t n is =
      rw (is, Q, M)
      (sym (shape_within p R S lent counts table e (lawful p (unrefused p lent (length counts) (length table) e).settings).limits.proof_size
      (rw (Q, M) at n)))

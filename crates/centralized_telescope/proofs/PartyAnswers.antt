-- What a party is answered, by the lines that it meets, and by what its try gives.
use Rattle.std.proofs.Common.{◌≡◌, ℕ, ◌+◌, ◌*◌, ◌≤◌, Bool, true, false, cond, not, eqb, List, [], ◌∷◌, length, take, drop, sym, refl, ap, ◌∙◌, arith, length-take, take_at, eq-eqb, ne_eqb, eqb-true}
use mathlib.Core.Option.{some, none}
use Rattle.sampling.specs.core.FirstNumber.{line, first_number}
use Rattle.sampling.specs.laws.FirstNumberLaws.{number_met, second_met, two_passed, number_last, number_none}
use Rattle.centralized_telescope.specs.declared.errors.Refusal.{Refusal}
use Rattle.centralized_telescope.specs.declared.errors.Refusal.TheVariants as refusal
use Rattle.centralized_telescope.specs.declared.params.Params.{Params}
use Rattle.std.specs.declared.ops.ControlFlow.{ControlFlow}
use Rattle.std.specs.declared.ops.ControlFlow.TheVariants.{Break, Continue}
use Rattle.centralized_telescope.specs.declared.search.Search.TheVariants as answer
use Rattle.centralized_telescope.specs.declared.round.RetryCounter.{RetryCounter}
use Rattle.centralized_telescope.specs.declared.round.SearchCounter.{SearchCounter}
use Rattle.centralized_telescope.specs.core.Refusals.{refusal_number}
use Rattle.centralized_telescope.specs.core.Elements.{Element, elements, Lent}
use Rattle.centralized_telescope.specs.core.Bins.{table_of, bin_table}
use Rattle.centralized_telescope.specs.core.Chains.{Try, try_of, Chain}
use Rattle.centralized_telescope.specs.core.Search.{bin_list, try_count, try_finds}
use Rattle.centralized_telescope.specs.core.Prover.{Proved, answer_of, refused, answered, search_by, prover_refusal}
use Rattle.centralized_telescope.specs.later.Words.{same_bytes}
use Rattle.centralized_telescope.specs.later.TwoProducts.{table_right, by_try, party_refusal, tried_alone}
use Rattle.centralized_telescope.specs.inner.Seeing.{early_refusal}
use Rattle.centralized_telescope.specs.inner.Source.{Source, meant}
use Rattle.centralized_telescope.specs.inner.TryTables.{try_on, HasTable}
use Rattle.centralized_telescope.specs.core.Lists.{over}
use Rattle.centralized_telescope.specs.inner.Visit.{tried, written, TryEnds}
use Rattle.centralized_telescope.specs.inner.Walk.{Ended, missing, counted, find}
use Rattle.centralized_telescope.specs.laws.BinsLaws.{length_table}
use Rattle.centralized_telescope.specs.laws.DistinctLaws.{same_bytes_lem}
use Rattle.centralized_telescope.specs.laws.RefusalsLaws.{refusal_number_lem}
use Rattle.centralized_telescope.specs.laws.TryLaws.{length_bin_list}
use Rattle.centralized_telescope.proofs.ManyTries.{missing_try, found_try, count_is, finds_is}
use Rattle.centralized_telescope.proofs.OneTry.{whole}

-- ---- the refusals before the table is looked at

-- a refusal by the first two lines is that of all lines
front_met : (a b : ℕ) (ks : List ℕ) (k : ℕ) → (k ≡ 0 → ⊥) → first_number (a ∷ b ∷ []) ≡ k → first_number (a ∷ b ∷ ks) ≡ k
unfolding first_number
front_met a b ks k n = go (eqb a 0) (eqb b 0)
  where
    go : (s t : Bool) → cond s (cond t 0 b) a ≡ k → cond s (cond t (first_number ks) b) a ≡ k
    go true true e = absurd (n (sym e))
    go true false e = e
    go false t e = e

module _ (p : Params) (lent : Lent) (places_len table_len R R' : ℕ) where
  abbrev run : ℕ
  run = prover_refusal p lent places_len table_len

  abbrev early : ℕ
  early = early_refusal p lent R R' places_len table_len

  pub run_met : (k : Refusal) → run ≡ refusal_number k → early ≡ refusal_number k
  run_met k e = number_met run (line 47 (not (eqb R R')) ∷ []) (refusal_number k) e (refusal_number_lem k)

  module _ (e : run ≡ 0) where
    pub retry_met : not (eqb R R') ≡ true → early ≡ 47
    retry_met n = second_met run (line 47 (not (eqb R R'))) [] 47 e (rw n) (refusal_number_lem refusal.OtherRetry)

    pub none_early : not (eqb R R') ≡ false → early ≡ 0
    unfolding first_number
    none_early s = two_passed run (line 47 (not (eqb R R'))) [] e (rw s)

  pub record Early : Type 0 where
    pub run_passed : run ≡ 0
    pub same_retry : R ≡ R'

  pub early_passed : early ≡ 0 → Early
  early_passed e =
      let a = number_none _ _ e in
      let b = number_none _ _ a.1 in
      record { run_passed = a.0; same_retry = go (eqb R R') refl b.0 }
    where
      go : (t : Bool) → eqb R R' ≡ t → line 47 (not t) ≡ 0 → R ≡ R'
      go true s z = eqb-true R R' s
      go false s z = absurd (omega arith)

-- ---- the table

module _ (n R : ℕ) (es : List Element) where
  abbrev bins : List ℕ
  bins = bin_list n R (take (2 * n) es)

  pub few : length bins ≤ 2 * n
  few = omega (arith, length_bin_list n R (take (2 * n) es), length-take (2 * n) es)

  -- the first numbers of a table that was filled
  pub filled_front : (own now : List ℕ) → now ≡ bin_table n bins own → take (3 * n + 1) now ≡ table_of n bins
  unfolding bin_table
  filled_front own now e = rw e (take_at (table_of n bins) (drop (3 * n + 1) own) (3 * n + 1) (length_table n bins few))

  compared : (table own now : List ℕ) (r : Bool) → now ≡ bin_table n bins own
      → r ≡ same_bytes (take (3 * n + 1) table) (take (3 * n + 1) now) → r ≡ table_right n R es table
  unfolding table_right
  compared table own now r e s = s ∙ ap (same_bytes (take (3 * n + 1) table)) (filled_front own now e)

  pub right_is : (table : List ℕ) → table_right n R es table ≡ true
      → take (length (table_of n bins)) table ≡ table_of n bins
  unfolding table_right
  right_is table t = rw (length_table n bins few) (same_bytes_lem (take (3 * n + 1) table) (table_of n bins) t)

-- a table that was filled from a source of these elements
module _ (s : Source) (es : List Element) (M : meant s ≡ es) (n R : ℕ) (own now : List ℕ)
    (e : now ≡ bin_table n (bin_list n R (take (2 * n) (meant s))) own) where
  filled : now ≡ bin_table n (bins n R es) own
  filled = e ∙ ap (λ (es : List Element). bin_table n (bin_list n R (take (2 * n) es)) own) M

  pub compared_alone : (table : List ℕ) (r : Bool) → r ≡ same_bytes (take (3 * n + 1) table) (take (3 * n + 1) now)
      → r ≡ table_right n R es table
  compared_alone table r q = compared n R es table own now r filled q

-- a right table is what the try asks for
pub right_has : (p : Params) (s : Source) (es : List Element) → meant s ≡ es → (R : ℕ) (table : List ℕ)
    → table_right p.set_size R es table ≡ true → HasTable p s R table
right_has p s es M R table t = rw M (right_is p.set_size R es table t)

-- ---- the try's end

module _ (p : Params) (s : Source) (es : List Element) (M : meant s ≡ es) (R : RetryCounter) (places table after : List ℕ)
    (r : ControlFlow (SearchCounter × ℕ) ℕ) (ends : TryEnds (tried (try_on p s R.0) p.search_width 0 0) r places after) where
  abbrev T : Try
  T = try_of p es R.0

  abbrev due : Proved
  due = by_try p es R.0 places table

  ended : TryEnds (whole T) r places after
  ended = rw M at ends

  pub alone_found : (S : SearchCounter) (count : ℕ) → r ≡ Break (S, count) → search_by (answer.Found R S count) after table ≡ due
  unfolding answered written
  alone_found S count e =
      let f = found_try (whole T) S count (sym e ∙ ended.answer_is) in
      let finds : try_finds T ≡ some f.chain = sym (finds_is T) ∙ ap find f.ends_with in
      let counts : try_count T ≡ count = sym (count_is T) ∙ ap counted f.ends_with in
      let left : after ≡ over f.chain.places places = ended.places_are ∙ ap (λ (w : Ended Chain). written w places) f.ends_with in
      rw (left, finds, counts)
      (ap (λ (s : ℕ). answer_of 0 R.0 s count (over f.chain.places places) table) f.search_is)

  -- nothing is found after so many
  pub alone_missing : (count : ℕ) → r ≡ Continue count → answered p none 0 count after table ≡ due
  unfolding answered written
  alone_missing count e =
      let missed : whole T ≡ missing count = missing_try (whole T) count (sym e ∙ ended.answer_is) in
      let nothing : try_finds T ≡ none = sym (finds_is T) ∙ ap find missed in
      let counts : try_count T ≡ count = sym (count_is T) ∙ ap counted missed in
      let left : after ≡ places = ended.places_are ∙ ap (λ (w : Ended Chain). written w places) missed in
      rw (left, nothing, counts) refl

-- ---- the answer

module _ (p : Params) (lent : Lent) (R R' : ℕ) (table places : List ℕ) where
  abbrev pub before_table : ℕ
  before_table = early_refusal p lent R R' (length places) (length table)

  refused_by : (k : ℕ) → (k ≡ 0 → ⊥) → party_refusal lent R' table p R (length places) ≡ k
      → tried_alone lent R' table p R places ≡ refused k places table
  unfolding tried_alone
  refused_by k n e = rw (e, ne_eqb k 0 n)

  pub early_refused : (k : Refusal) → before_table ≡ refusal_number k
      → tried_alone lent R' table p R places ≡ refused (refusal_number k) places table
  unfolding party_refusal
  early_refused k e = refused_by (refusal_number k) (refusal_number_lem k) (front_met _ _ _ (refusal_number k) (refusal_number_lem k) e)

  -- a party that isn't refused is answered by its try
  pub its_try : party_refusal lent R' table p R (length places) ≡ 0
      → tried_alone lent R' table p R places ≡ by_try p (elements lent) R' places table
  unfolding tried_alone
  its_try e = rw (eq-eqb (party_refusal lent R' table p R (length places)) 0 e)

  module _ (E : before_table ≡ 0) where
    passed : Early p lent (length places) (length table) R R'
    passed = early_passed p lent (length places) (length table) R R' E

    abbrev right : Bool
    right = table_right p.set_size R' (elements lent) table

    last_line : party_refusal lent R' table p R (length places) ≡ line 48 (not right)
    unfolding party_refusal
    last_line =
        two_passed (prover_refusal p lent (length places) (length table)) (line 47 (not (eqb R R'))) (line 48 (not right) ∷ [])
        passed.run_passed (rw (eq-eqb R R' passed.same_retry))
        ∙ number_last (line 48 (not right))

    pub table_refused : right ≡ false → tried_alone lent R' table p R places ≡ refused 48 places table
    table_refused f = refused_by 48 (refusal_number_lem refusal.OtherTable) (last_line ∙ rw f)

    pub party_served : right ≡ true → tried_alone lent R' table p R places ≡ by_try p (elements lent) R' places table
    party_served t = its_try (last_line ∙ rw t)

-- a party's refusals before the table is looked at
pub ruleset party_told = (run_met, retry_met, none_early)

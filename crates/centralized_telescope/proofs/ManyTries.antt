-- The loop over the tries: what holds at its head, and a turn of it in the terms that the code's calls give.
use Rattle.std.proofs.Common.{◌≡◌, ℕ, zero, suc, ◌+◌, ◌-◌, ◌*◌, ◌^◌, ◌<◌, ◌≤◌, List, length, take, drop, sym, refl, ap, ◌∙◌, add-one, arith, length-take, take_at, drop_at}
use mathlib.Core.Option.{none, some}
use native.Mathlib.Nat.{sub-zero}
use Rattle.centralized_telescope.specs.declared.params.Params.{Params}
use Rattle.std.specs.declared.ops.ControlFlow.{ControlFlow}
use Rattle.std.specs.declared.ops.ControlFlow.TheVariants.{Break, Continue}
use Rattle.centralized_telescope.specs.declared.search.Search.TheVariants as answer
use Rattle.centralized_telescope.specs.declared.round.SearchCounter.{SearchCounter}
use Rattle.centralized_telescope.specs.core.Lists.{over}
use Rattle.centralized_telescope.specs.core.Elements.{Element}
use Rattle.centralized_telescope.specs.core.Bins.{table_of, bin_table}
use Rattle.centralized_telescope.specs.laws.BinsLaws.{length_table}
use Rattle.centralized_telescope.specs.core.Chains.{Try, try_of, Chain}
use Rattle.centralized_telescope.specs.core.Search.{bins_of, try_count, try_finds, Searched, unless_found, tries_from, searched}
use Rattle.centralized_telescope.specs.laws.TryLaws.{length_bin_list}
use Rattle.centralized_telescope.specs.inner.Walk.{Ended, found, missing, counted, find}
use Rattle.centralized_telescope.specs.laws.WalkLaws.{walk_bound, try_counts, try_finds_lem}
use Rattle.centralized_telescope.specs.core.Prover.{table_after, answered, by_search, search_by}
use Rattle.centralized_telescope.specs.inner.Source.{Source}
use Rattle.centralized_telescope.specs.inner.TryTables.{try_on, HasTable}
use Rattle.centralized_telescope.specs.inner.Visit.{tried, attempt_of, written, TryEnds}
use Rattle.centralized_telescope.proofs.OneTry.{whole}

-- ---- from an answer back to the try's end

pub missing_try : (r : Ended Chain) (t : ℕ) → Continue t ≡ attempt_of r → r ≡ missing t
missing_try (found u c) t e = let z : ◌≡◌ {A = ℕ} 0 1 = cc in absurd (omega arith)
missing_try (missing u) t e = cc

-- a find of a try, with its chain, whose search counter is the answer's
pub record AttemptFinds (r : Ended Chain) (S : SearchCounter) (t : ℕ) : Type 0 where
  pub chain : Chain
  pub ends_with : r ≡ found t chain
  pub search_is : S.0 ≡ chain.search

pub found_try : (r : Ended Chain) (S : SearchCounter) (t : ℕ) → Break (S, t) ≡ attempt_of r → AttemptFinds r S t
found_try (found u c) S t e =
    let both : ◌≡◌ {A = SearchCounter × ℕ} (S, t) (record { 0 = c.search }, u) = cc in
    let count : t ≡ u = ap (λ (k : SearchCounter × ℕ). k.1) both in
    record { chain = c; ends_with = rw count refl; search_is = ap (λ (k : SearchCounter × ℕ). k.0.0) both }
found_try (missing u) S t e = let z : ◌≡◌ {A = ℕ} 0 1 = cc in absurd (omega arith)

module _ (T : Try) where
  pub count_is : counted (whole T) ≡ try_count T
  unfolding tried
  count_is = try_counts T

  pub finds_is : find (whole T) ≡ try_finds T
  unfolding tried
  finds_is = try_finds_lem T

  try_within : counted (whole T) ≤ T.settings.dfs_bound
  unfolding tried
  try_within = walk_bound _ T.settings.dfs_bound 0 _ (omega arith)

-- ---- the tries

module _ (p : Params) (es : List Element) where
  abbrev next : ℕ → Try
  next R = try_of p es (R + 1)

  -- the table of the next try takes the place of the one before
  pub next_table : (R : ℕ) (now mid old : List ℕ) → mid ≡ table_after p es R old → now ≡ bin_table p.set_size (bins_of (next R)) mid
      → now ≡ table_after p es (R + 1) old
  unfolding table_after bin_table
  next_table zero now mid old e q = q ∙ rw (e, add-one zero)
  next_table (suc R) now mid old e q =
      let few : length (bins_of (try_of p es (suc R))) ≤ 2 * p.set_size =
      omega (arith, length_bin_list p.set_size (suc R) (take (2 * p.set_size) es), length-take (2 * p.set_size) es) in
      q ∙ rw (
        e,
        drop_at (table_of p.set_size (bins_of (try_of p es (suc R)))) (drop (3 * p.set_size + 1) old) (3 * p.set_size + 1)
            (length_table p.set_size (bins_of (try_of p es (suc R))) few),
        add-one (suc R),
      )

  -- what is served, where the search ends so
  ends_served : (s : Searched) → searched p es ≡ s → (places table : List ℕ)
      → answered p s.proof s.made s.count places (table_after p es s.made table) ≡ by_search p es places table
  unfolding by_search
  ends_served s e places table = rw e

  found_served : (R : ℕ) (S : SearchCounter) (n : ℕ) (c : Chain) (now was old : List ℕ) → S.0 ≡ c.search
      → now ≡ table_after p es (R + 1) was
      → searched p es ≡ record { made = R + 1; count = n; proof = some c }
      → search_by (answer.Found (record { 0 = R + 1 }) S n) (over c.places old) now ≡ by_search p es old was
  unfolding answered
  found_served R S n c now was old q et ends = rw (et, q) (ends_served _ ends old was)

-- ---- at the head of the loop over the tries

-- after that of the retry counter R: now and mid are the lent table and places as they are, was and old as they were
pub record Retrying (p : Params) (es : List Element) (R sum : ℕ) (now was mid old : List ℕ) : Type 0 where
  pub few : sum ≤ R * 2 ^ 48
  pub table_is : now ≡ table_after p es R was
  pub as_lent : mid ≡ old
  pub still : searched p es ≡ tries_from p es (p.max_retries - R) R sum

pub tries_begin : (p : Params) (es : List Element) (was old : List ℕ) → Retrying p es 0 0 was was old old
unfolding table_after searched
tries_begin p es was old = record {
  few = omega arith;
  table_is = refl;
  as_lent = refl;
  still = ap (λ (w : ℕ). tries_from p es w 0 0) (sym (sub-zero p.max_retries));
}

module _ {p : Params} {es : List Element} {R sum : ℕ} {now was mid old : List ℕ} (k : Retrying p es R sum now was mid old)
    (l : p.max_retries ≤ R) where
  all_made : searched p es ≡ record { made = R; count = sum; proof = none }
  unfolding tries_from
  all_made =
      let none_left : p.max_retries - R ≡ 0 = omega arith in
      k.still ∙ rw none_left

  pub none_found : answered p none 0 sum mid now ≡ by_search p es old was
  unfolding answered
  none_found = rw (k.table_is, k.as_lent) (ends_served p es _ all_made old was)

-- ---- a turn

-- what it knows when its try is made: filled is the table then, o the try's answer, last the lent places behind it
pub record Attempted (p : Params) (es : List Element) (R sum : ℕ) (now was mid old filled : List ℕ) (o : ControlFlow (SearchCounter × ℕ) ℕ) (last : List ℕ) : Type 0
  where
    pub head : Retrying p es R sum now was mid old
    pub inside : R < p.max_retries
    pub lawful_bound : p.dfs_bound ≤ 2 ^ 48
    pub filled_is : filled ≡ bin_table p.set_size (bins_of (try_of p es (R + 1))) now
    pub said : TryEnds (whole (try_of p es (R + 1))) o mid last

module _ {p : Params} {es : List Element} {R sum : ℕ} {now was mid old filled : List ℕ} {o : ControlFlow (SearchCounter × ℕ) ℕ} {last : List ℕ}
    (k : Attempted p es R sum now was mid old filled o last) where
  abbrev now_made : Try
  now_made = try_of p es (R + 1)

  -- how many tries there are behind this one
  abbrev behind : ℕ
  behind = p.max_retries - (R + 1)

  table_next : filled ≡ table_after p es (R + 1) was
  table_next = next_table p es R filled now was k.head.table_is k.filled_is

  opened : searched p es
      ≡ unless_found (try_finds now_made) (R + 1) (sum + try_count now_made) (tries_from p es behind (R + 1) (sum + try_count now_made))
  unfolding tries_from
  opened =
      let more : p.max_retries - R ≡ suc behind = omega (arith, k.inside) in
      k.head.still ∙ ap (λ (w : ℕ). tries_from p es w R sum) more

  module _ {t : ℕ} (e : o ≡ Continue t) where
    ended : whole now_made ≡ missing t
    ended = missing_try (whole now_made) t (sym e ∙ k.said.answer_is)

    pub missing_within : t ≤ p.dfs_bound
    missing_within = rw ended at (try_within now_made)

    pub all_missing : Retrying p es (R + 1) (sum + t) filled was last old
    unfolding unless_found written
    all_missing =
        let nothing : try_finds now_made ≡ none = sym (finds_is now_made) ∙ ap find ended in
        let counts : try_count now_made ≡ t = sym (count_is now_made) ∙ ap counted ended in
        record {
          few = omega (arith, k.head.few, missing_within, k.lawful_bound);
          table_is = table_next;
          as_lent = k.said.places_are ∙ ap (λ (r : Ended Chain). written r mid) ended ∙ k.head.as_lent;
          still = opened ∙ rw (nothing, counts);
        }

  module _ {S : SearchCounter} {t : ℕ} (e : o ≡ Break (S, t)) where
    caught : AttemptFinds (whole now_made) S t
    caught = found_try (whole now_made) S t (sym e ∙ k.said.answer_is)

    pub found_within : t ≤ p.dfs_bound
    found_within = rw caught.ends_with at (try_within now_made)

    pub all_found : search_by (answer.Found (record { 0 = R + 1 }) S (sum + t)) last filled ≡ by_search p es old was
    unfolding unless_found written
    all_found =
        let finds : try_finds now_made ≡ some caught.chain = sym (finds_is now_made) ∙ ap find caught.ends_with in
        let counts : try_count now_made ≡ t = sym (count_is now_made) ∙ ap counted caught.ends_with in
        let ends : searched p es ≡ record { made = R + 1; count = sum + t; proof = some caught.chain } = opened ∙ rw (finds, counts) in
        let places : last ≡ written (found t caught.chain) old =
        k.said.places_are ∙ ap (λ (r : Ended Chain). written r mid) caught.ends_with
        ∙ ap (written (found t caught.chain)) k.head.as_lent in
        ap (λ (l : List ℕ). search_by (answer.Found (record { 0 = R + 1 }) S (sum + t)) l filled) places
        ∙ found_served p es R S (sum + t) caught.chain filled was old caught.search_is table_next ends

-- ---- the same by the retry counter that is next, as the code counts

module _ {p : Params} {es : List Element} {r sum : ℕ} {now was mid old : List ℕ} (k : Retrying p es (r - 1) sum now was mid old)
    (from : 1 ≤ r) (inside : r ≤ p.max_retries) (lawful_bound : p.dfs_bound ≤ 2 ^ 48) {filled : List ℕ}
    (f : filled ≡ bin_table p.set_size (bins_of (try_of p es r)) now) {o : ControlFlow (SearchCounter × ℕ) ℕ} {last : List ℕ}
    (said : TryEnds (whole (try_of p es r)) o mid last) where
  counter : r - 1 + 1 ≡ r
  counter = omega arith

  attempted : Attempted p es (r - 1) sum now was mid old filled o last
  attempted = record {
    head = k;
    inside = omega arith;
    lawful_bound = lawful_bound;
    filled_is = rw counter f;
    said = rw counter said;
  }

  module _ {t : ℕ} (e : o ≡ Continue t) where
    pub sum_missing : p.max_retries ≤ 65535 → sum + t ≤ 18446744073709551615
    sum_missing m = omega (arith, k.few, missing_within attempted e)

    pub goes_on : Retrying p es (r + 1 - 1) (sum + t) filled was last old
    goes_on = let next : r + 1 - 1 ≡ r - 1 + 1 = omega arith in rw next (all_missing attempted e)

  module _ {S : SearchCounter} {t : ℕ} (e : o ≡ Break (S, t)) where
    pub sum_found : p.max_retries ≤ 65535 → sum + t ≤ 18446744073709551615
    sum_found m = omega (arith, k.few, found_within attempted e)

    pub finds_here : search_by (answer.Found (record { 0 = r }) S (sum + t)) last filled ≡ by_search p es old was
    finds_here = rw counter at (all_found attempted e)

-- a table that was just filled is the try's
pub filled_has : (p : Params) (s : Source) (R : ℕ) (table was : List ℕ)
    → table ≡ bin_table p.set_size (bins_of (try_on p s R)) was → HasTable p s R table
unfolding bin_table
filled_has p s R table was e =
    let own : List ℕ = table_of p.set_size (bins_of (try_on p s R)) in
    ap (take (length own)) e ∙ take_at own (drop (3 * p.set_size + 1) was) (length own) refl

-- The claims on raising dfs_bound: the tries under two bounds side by side, then the answers.
use Rattle.std.proofs.Common.{◌≡◌, ℕ, zero, suc, ◌<◌, ◌≤◌, Bool, true, false, cond, leb, List, length, sym, refl, ap, ◌∙◌, inl, inr, eq-or-lt_of_le, arith, leb-false}
use mathlib.Core.Option.{Option, none, some}
use borrow.Author.Tests.{lt-leb}
use Rattle.centralized_telescope.specs.declared.params.Params.{Params}
use Rattle.centralized_telescope.specs.core.Params.{checked}
use Rattle.centralized_telescope.specs.core.Lists.{over}
use Rattle.centralized_telescope.specs.core.Elements.{Element, elements, Lent}
use Rattle.centralized_telescope.specs.core.Chains.{Chain, try_of}
use Rattle.centralized_telescope.specs.core.Search.{try_finds, Searched, searched}
use Rattle.centralized_telescope.specs.core.Prover.{Proved, answer_of, table_after, answered, by_search, prover_refusal, proved}
use Rattle.centralized_telescope.specs.core.Demand3.{sum_up_to}
use Rattle.centralized_telescope.specs.laws.ParamsLaws.{lawful, size_kept, passes}
use Rattle.centralized_telescope.specs.laws.BoundLaws.{same_within, found_within, below_within, count_grows, cut_short}
use Rattle.centralized_telescope.specs.laws.TestLaws.{lt_or_le}
use Rattle.centralized_telescope.specs.later.VerdictExactly.{Limits}
use Rattle.centralized_telescope.specs.later.RaisingClaims.{with_bound, count_under, RaisedTry, RaisedRun, RaisedAnswer}
use Rattle.centralized_telescope.specs.later.RaisingClaims.{ProofRaised, AnswerRaised}
use Rattle.centralized_telescope.proofs.Tries.{within_sum, search_ran, search_counted}
use Rattle.centralized_telescope.proofs.ProveAnswers.{refused_by, run_served, served_so, found_served}

-- ---- a try

pub raised_try : RaisedTry
raised_try p a b l es R c f =
    let s = same_within p es R a b l (found_within p es R a b c f) in
    (s.0 ∙ f, s.1)

-- ---- sums

sum_alike : (f g : ℕ → ℕ) (m : ℕ) → ((R : ℕ) → 1 ≤ R → R ≤ m → f R ≡ g R) → sum_up_to m f ≡ sum_up_to m g
unfolding sum_up_to
sum_alike f g zero e = refl
sum_alike f g (suc m) e =
    omega (arith, sum_alike f g m (λ R l h. e R l (omega arith)), e (suc m) (omega arith) (omega arith))

sum_grows : (f g : ℕ → ℕ) (m : ℕ) → ((R : ℕ) → f R ≤ g R) → sum_up_to m f ≤ sum_up_to m g
unfolding sum_up_to
sum_grows f g zero e = omega arith
sum_grows f g (suc m) e = omega (arith, sum_grows f g m e, e (suc m))

-- ---- words on what is read off a search

searched_alike : (s t : Searched) → s.made ≡ t.made → s.count ≡ t.count → s.proof ≡ t.proof → s ≡ t
searched_alike s t m k q =
    ap (λ (x : ℕ). record { made = x; count = s.count; proof = s.proof }) m
    ∙ ap (λ (x : ℕ). record { made = t.made; count = x; proof = s.proof }) k
    ∙ ap (λ (x : Option Chain). record { made = t.made; count = t.count; proof = x }) q

-- without a proof the number is 11 or 12
abbrev pub number : Bool → ℕ
number t = cond t 11 12

pub not_small : (t : Bool) → number t ≤ 10 → ⊥
not_small true h = omega arith
not_small false h = omega arith

pub is_twelve : (t : Bool) → number t ≡ 12 → t ≡ false
is_twelve true e = absurd (omega arith)
is_twelve false e = refl

-- ---- the search under a bound

module _ (p : Params) (es : List Element) where
  abbrev finds : ℕ → ℕ → Option Chain
  finds bound R = try_finds (try_of (with_bound p bound) es R)

  abbrev counts : ℕ → ℕ → ℕ
  counts bound R = count_under p bound es R

  abbrev run : ℕ → Searched
  run bound = searched (with_bound p bound) es

  module _ (bound : ℕ) where
    none_before : (R : ℕ) → 1 ≤ R → R < (run bound).made → finds bound R ≡ none
    none_before R l h = (search_ran (with_bound p bound) es).none_before R (omega arith) h

    made_most : (run bound).made ≤ p.max_retries
    made_most = omega (arith, (search_ran (with_bound p bound) es).upto)

    counted : (run bound).count ≡ sum_up_to (run bound).made (counts bound)
    counted = search_counted (with_bound p bound) es

    ended_some : (c : Chain) → (run bound).proof ≡ some c → (0 < (run bound).made) × (finds bound (run bound).made ≡ some c)
    ended_some c e = elim (search_ran (with_bound p bound) es).end [
      | inl n ↦ let z : ◌≡◌ {A = ℕ} 0 1 = cc in absurd (omega arith)
      | inr f ↦ (f.2, f.3 ∙ (sym f.1 ∙ e))
    ]

    ended_none : (run bound).proof ≡ none
        → ((run bound).made ≡ p.max_retries) × ((R : ℕ) → 1 ≤ R → R ≤ p.max_retries → finds bound R ≡ none)
    ended_none e = elim (search_ran (with_bound p bound) es).end [
      | inl n ↦
          let all : (run bound).made ≡ p.max_retries = n.1 ∙ omega arith in (
            all,
            λ R l h. elim (eq-or-lt_of_le {n = R} {m = (run bound).made} (omega arith)) [
              | inl q ↦ ap (finds bound) q ∙ n.2 (omega arith)
              | inr g ↦ none_before R l g
            ],
          )
      | inr f ↦ let z : ◌≡◌ {A = ℕ} 0 1 = cc in absurd (omega arith)
    ]

  -- ---- under a lower bound and a higher one

  module _ (a b : ℕ) (l : a ≤ b) where
    -- a try that hasn't reached the lower bound
    tries_alike : (R : ℕ) → counts a R < a → (finds b R ≡ finds a R) × (counts b R ≡ counts a R)
    tries_alike R h = same_within p es R a b l (below_within p es R a b h)

    -- c was found under the lower bound
    module _ (c : Chain) (e : (run a).proof ≡ some c) where
      abbrev m : ℕ
      m = (run a).made

      abbrev n : ℕ
      n = (run b).made

      last : (0 < m) × (finds a m ≡ some c)
      last = ended_some a c e

      last_too : (finds b m ≡ some c) × (counts b m ≡ counts a m)
      last_too = raised_try p a b l es m c last.1

      no_later : n ≤ m
      no_later = elim (lt_or_le m n) [
        | inl g ↦ let z = none_before b m (omega (arith, last.0)) g in let y : ◌≡◌ {A = ℕ} 0 1 = cc last_too.0 in absurd (omega arith)
        | inr k ↦ k
      ]

      finds_too : (d : Option Chain) → (run b).proof ≡ d → (c' : Chain) × ((run b).proof ≡ some c')
      finds_too (some c') q = (c', q)
      finds_too none q =
          let z = (ended_none b q).1 m (omega (arith, last.0)) (made_most a) in
          let y : ◌≡◌ {A = ℕ} 0 1 = cc last_too.0 in absurd (omega arith)

      found_too : (c' : Chain) × ((run b).proof ≡ some c')
      found_too = finds_too (run b).proof refl

      earlier_cut : n < m → counts a n ≡ a
      earlier_cut h =
          let f = ended_some b found_too.0 found_too.1 in
          cut_short p es n a b l found_too.0 f.1 (none_before a n (omega (arith, f.0)) h)

      same_chain : n ≡ m → (run b).proof ≡ some c
      same_chain q =
          let f = (ended_some b found_too.0 found_too.1).1 in
          found_too.1 ∙ sym f ∙ ap (finds b) q ∙ last_too.0

      same_count : ((R : ℕ) → 1 ≤ R → R < m → counts a R < a) → n ≡ m → (run b).count ≡ (run a).count
      same_count u q =
          counted b ∙ ap (λ (k : ℕ). sum_up_to k (counts b)) q
          ∙ sum_alike (counts b) (counts a) m
          (λ R g h. elim (eq-or-lt_of_le h) [
            | inl r ↦ rw r last_too.1
            | inr k ↦ (tries_alike R (u R g k)).1
          ])
          ∙ sym (counted a)

      larger_count : n ≡ m → (run a).count ≤ (run b).count
      larger_count q =
          let g = sum_grows (counts a) (counts b) m (λ R. count_grows p es R a b l) in
          rw (counted b, q, counted a) g

      same_try : ((R : ℕ) → 1 ≤ R → R < m → counts a R < a) → n ≡ m
      same_try u = elim (eq-or-lt_of_le no_later) [
        | inl q ↦ q
        | inr h ↦
            let f = ended_some b found_too.0 found_too.1 in
            absurd (omega (arith, earlier_cut h, u n (omega (arith, f.0)) h))
      ]

      same_search : ((R : ℕ) → 1 ≤ R → R < m → counts a R < a) → run b ≡ run a
      same_search u = let q = same_try u in searched_alike (run b) (run a) q (same_count u q) (same_chain q ∙ sym e)

    -- nothing was found under the lower bound
    module _ (e : (run a).proof ≡ none) where
      -- what is found under the higher is of a try that was cut short
      new_cut : (c : Chain) → (run b).proof ≡ some c → counts a (run b).made ≡ a
      new_cut c q =
          let f = ended_some b c q in
          cut_short p es (run b).made a b l c f.1 ((ended_none a e).1 (run b).made (omega (arith, f.0)) (made_most b))

      module _ (h : (run a).count < a) where
        all_below : (R : ℕ) → 1 ≤ R → R ≤ p.max_retries → counts a R < a
        all_below R k g =
            let all : (run a).made ≡ p.max_retries = (ended_none a e).0 in
            omega (arith, within_sum (counts a) (run a).made R k (omega arith), counted a)

        none_too : (d : Option Chain) → (run b).proof ≡ d → d ≡ none
        none_too none q = refl
        none_too (some c) q =
            let f = ended_some b c q in
            let k : 1 ≤ (run b).made = omega (arith, f.0) in
            let s = (tries_alike (run b).made (all_below (run b).made k (made_most b))).0 in
            let t = (ended_none a e).1 (run b).made k (made_most b) in
            let z : ◌≡◌ {A = ℕ} 0 1 = cc f.1 in absurd (omega arith)

        none_alike : run b ≡ run a
        none_alike =
            let o = none_too (run b).proof refl in
            let q : (run b).made ≡ (run a).made = (ended_none b o).0 ∙ sym (ended_none a e).0 in
            let same : (run b).count ≡ (run a).count =
            counted b ∙ ap (λ (k : ℕ). sum_up_to k (counts b)) q
            ∙ sum_alike (counts b) (counts a) (run a).made (λ R k g. (tries_alike R (all_below R k (omega (arith, made_most a)))).1)
            ∙ sym (counted a) in
            searched_alike (run b) (run a) q same (o ∙ sym e)

  -- ---- the answers

  module _ (places table : List ℕ) where
    abbrev table_under : ℕ → ℕ → List ℕ
    table_under bound R = table_after (with_bound p bound) es R table

    abbrev answer : ℕ → Proved
    answer bound = by_search (with_bound p bound) es places table

    answer_some : (bound : ℕ) (c : Chain) → (run bound).proof ≡ some c
        → answer bound
        ≡ answer_of 0 (run bound).made c.search (run bound).count (over c.places places) (table_under bound (run bound).made)
    unfolding by_search answered
    answer_some bound c e = rw e

    answer_none : (bound : ℕ) → (run bound).proof ≡ none
        → answer bound
        ≡ answer_of (cond (leb bound (run bound).count) 11 12) 0 0 (run bound).count places (table_under bound (run bound).made)
    unfolding by_search answered
    answer_none bound e = rw e

    table_alike : (a b R : ℕ) → table_under b R ≡ table_under a R
    unfolding table_after
    table_alike a b zero = refl
    table_alike a b (suc R) = refl

    is_found : (bound : ℕ) → (answer bound).number ≡ 0 → (c : Chain) × ((run bound).proof ≡ some c)
    is_found bound z = go (run bound).proof refl
      where
        go : (d : Option Chain) → (run bound).proof ≡ d → (c : Chain) × ((run bound).proof ≡ some c)
        go (some c) q = (c, q)
        go none q =
            let n : (answer bound).number ≡ number (leb bound (run bound).count) = ap (λ (r : Proved). r.number) (answer_none bound q) in
            absurd (not_small (leb bound (run bound).count) (omega arith))

    module _ (a b : ℕ) (l : a ≤ b) where
      some_alike : (c : Chain) → (run a).proof ≡ some c → run b ≡ run a → answer b ≡ answer a
      some_alike c e q =
          answer_some b c (ap (λ (s : Searched). s.proof) q ∙ e)
          ∙ ap (λ (s : Searched). answer_of 0 s.made c.search s.count (over c.places places) (table_under b s.made)) q
          ∙ ap (answer_of 0 (run a).made c.search (run a).count (over c.places places)) (table_alike a b (run a).made)
          ∙ sym (answer_some a c e)

      proof_raised : (c : Chain) → (run a).proof ≡ some c → ProofRaised p a es (answer a) (answer b)
      proof_raised c e =
          let f = found_too a b l c e in
          let s = answer_some b f.0 f.1 in
          let r = answer_some a c e in
          let R : (answer a).retry ≡ (run a).made = ap (λ (x : Proved). x.retry) r in
          let N : (answer b).retry ≡ (run b).made = ap (λ (x : Proved). x.retry) s in
          record {
            found = ap (λ (x : Proved). x.number) s;
            no_later = omega (arith, no_later a b l c e);
            of_earlier = λ h. ap (counts a) N ∙ earlier_cut a b l c e (omega arith);
            of_same = λ h.
                let q : (run b).made ≡ (run a).made = sym N ∙ h ∙ R in
                let t = answer_some b c (same_chain a b l c e q) in (
                  ap (λ (x : Proved). x.search) t ∙ sym (ap (λ (x : Proved). x.search) r),
                  ap (λ (x : Proved). x.places) t ∙ sym (ap (λ (x : Proved). x.places) r),
                  ap (λ (x : Proved). x.table) t ∙ ap (table_under b) q ∙ table_alike a b (run a).made
                      ∙ sym (ap (λ (x : Proved). x.table) r),
                  rw (ap (λ (x : Proved). x.count) t, ap (λ (x : Proved). x.count) r) (larger_count a b l c e q),
                );
          }

      not_found_stays : (run a).proof ≡ none → (run a).count < a → answer b ≡ answer a
      not_found_stays e h =
          let q = none_alike a b l e h in
          answer_none b (ap (λ (s : Searched). s.proof) q ∙ e)
          ∙ ap (λ (s : Searched). answer_of (cond (leb b s.count) 11 12) 0 0 s.count places (table_under b s.made)) q
          ∙ ap (λ (t : Bool). answer_of (number t) 0 0 (run a).count places (table_under b (run a).made))
          (lt-leb b (run a).count (omega arith) ∙ sym (lt-leb a (run a).count h))
          ∙ ap (answer_of (number (leb a (run a).count)) 0 0 (run a).count places) (table_alike a b (run a).made)
          ∙ sym (answer_none a e)

      answer_raised : AnswerRaised p a es (answer a) (answer b)
      answer_raised = go (run a).proof refl
        where
          go : (d : Option Chain) → (run a).proof ≡ d → AnswerRaised p a es (answer a) (answer b)
          go (some c) q =
              let z : (answer a).number ≡ 0 = ap (λ (r : Proved). r.number) (answer_some a c q) in
              record {
                after_proof = λ _. proof_raised c q;
                after_not_found = λ n. absurd (omega arith);
                after_in_bounds = λ n. absurd (omega arith);
                after_refusal = λ n. absurd (omega arith);
              }
          go none q =
              let t : Bool = leb a (run a).count in
              let z : (answer a).number ≡ number t = ap (λ (r : Proved). r.number) (answer_none a q) in
              record {
                after_proof = λ n. absurd (not_small t (omega arith));
                after_not_found = λ n. not_found_stays q (leb-false a (run a).count (is_twelve t (sym z ∙ n)));
                after_in_bounds = λ n s.
                    let f = is_found b s in
                    ap (counts a) (ap (λ (r : Proved). r.retry) (answer_some b f.0 f.1)) ∙ new_cut a b l q f.0 f.1;
                after_refusal = λ n k. absurd (not_small t (omega arith));
              }

-- ---- the prover, refusals included

module _ (p : Params) (a b : ℕ) (l : a ≤ b) (ok : checked (with_bound p b) ≡ 0) (lent : Lent) (places table : List ℕ) where
  abbrev es : List Element
  es = elements lent

  abbrev result : ℕ → Proved
  result bound = proved (with_bound p bound) lent places table

  abbrev met : ℕ → ℕ
  met bound = prover_refusal (with_bound p bound) lent (length places) (length table)

  lower_lawful : checked (with_bound p a) ≡ 0
  lower_lawful =
      let k = lawful (with_bound p b) ok in
      let limits : Limits (with_bound p a) = record {
        proof_size = k.limits.proof_size;
        max_retries_kept = k.limits.max_retries_kept;
        search_width_kept = k.limits.search_width_kept;
        dfs_bound_kept = omega (arith, k.limits.dfs_bound_kept);
      } in
      passes (with_bound p a) (size_kept (with_bound p a) k.set_size) limits

  met_alike : met b ≡ met a
  unfolding prover_refusal
  met_alike = rw (ok, lower_lawful)

  raised : AnswerRaised p a es (result a) (result b)
  raised = go (met a) refl
    where
      go : (k : ℕ) → met a ≡ k → AnswerRaised p a es (result a) (result b)
      go zero q =
          rw (run_served (with_bound p a) lent places table q, run_served (with_bound p b) lent places table (met_alike ∙ q))
          (answer_raised p es places table a b l)
      go (suc k) q =
          let r = refused_by (with_bound p a) lent places table (suc k) (λ z. omega arith) q in
          let s = refused_by (with_bound p b) lent places table (suc k) (λ z. omega arith) (met_alike ∙ q) in
          let rk : (result a).number ≡ suc k = ap (λ (x : Proved). x.number) r in
          let sk : (result b).number ≡ suc k = ap (λ (x : Proved). x.number) s in
          record {
            after_proof = λ n. absurd (omega arith);
            after_not_found = λ n. s ∙ sym r;
            after_in_bounds = λ n z. absurd (omega arith);
            after_refusal = λ n h. s ∙ sym r;
          }

  kept : (result a).number ≡ 0 → ((R : ℕ) → 1 ≤ R → R < (result a).retry → count_under p a es R < a) → result b ≡ result a
  kept n u =
      let served = found_served (with_bound p a) lent places table n in
      let r = served_so (with_bound p a) lent places table served in
      let s = served_so (with_bound p b) lent places table (record {
        settings = ok;
        list = served.list;
        at_least = served.at_least;
        places_enough = served.places_enough;
        table_enough = served.table_enough;
      }) in
      let f = is_found p es places table a (sym (ap (λ (x : Proved). x.number) r) ∙ n) in
      let R = ap (λ (x : Proved). x.retry) (r ∙ answer_some p es places table a f.0 f.1) in
      s
      ∙ some_alike p es places table a b l f.0 f.1 (same_search p es a b l f.0 f.1 (λ j g h. u j g (omega arith)))
      ∙ sym r

pub raised_run : RaisedRun
raised_run p a b l ok lent places table n u = kept p a b l ok lent places table n u

pub raised_answer : RaisedAnswer
raised_answer p a b l ok lent places table = raised p a b l ok lent places table

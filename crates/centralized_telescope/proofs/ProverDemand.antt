-- Demand 3, of the prover: what its answer says of the tries. Each field of `OfProver` is a declaration of its name; NAME-of shows it for
-- either end of the search.
use Rattle.std.proofs.Common.{◌≡◌, ℕ, ◌<◌, ◌≤◌, min, Bool, true, false, cond, leb, ◌⊎◌, ◌↔◌, List, ◌++◌, length, drop, sym, refl, ap, ◌∙◌, subst, inl, inr, eq-or-lt_of_le, arith, le-leb, leb-false}
use mathlib.Core.Option.{Option, none, some}
use borrow.Author.Tests.{lt-leb}
use Rattle.centralized_telescope.specs.declared.params.Params.{Params}
use Rattle.centralized_telescope.specs.core.Elements.{Element}
use Rattle.centralized_telescope.specs.core.Chains.{try_of, Chain, Passes}
use Rattle.centralized_telescope.specs.core.Search.{K, try_count, try_finds, searched}
use Rattle.centralized_telescope.specs.core.Prover.{Proved, answered}
use Rattle.centralized_telescope.specs.core.Demand3.{Number, FirstPassing, HasProof, UpToPassing, sum_up_to, OfProver}
use Rattle.centralized_telescope.proofs.TryFinds.{K_number, finds_first, finds_none, finds_none_below}
use Rattle.centralized_telescope.proofs.Tries.{within_sum, Ran, search_ran, search_counted}

module _ (p : Params) (es : List Element) (places table : List ℕ) where
  abbrev made : ℕ
  made = (searched p es).made

  abbrev count : ℕ
  count = (searched p es).count

  abbrev answer : Option Chain → Proved
  answer o = answered p o made count places table

  abbrev counts : ℕ → ℕ
  counts R = min (K (try_of p es R)) p.dfs_bound

  abbrev SomeTry : Type 0
  SomeTry = (R : ℕ) × (1 ≤ R) × (R ≤ p.max_retries) × HasProof (try_of p es R)

  ran : Ran p es p.max_retries 0 (searched p es)
  ran = search_ran p es

  -- how the search ended: with what the last try found, or with nothing in any
  unfoldable Ended : Option Chain → Type 0
  Ended (some c) = (0 < made) × (try_finds (try_of p es made) ≡ some c)
  Ended none = (made ≡ p.max_retries) × ((R : ℕ) → 1 ≤ R → R ≤ p.max_retries → try_finds (try_of p es R) ≡ none)

  none_in_any : (made ≡ p.max_retries) → (0 < made → try_finds (try_of p es made) ≡ none)
      → (R : ℕ) → 1 ≤ R → R ≤ p.max_retries → try_finds (try_of p es R) ≡ none
  none_in_any all last R l h = elim (eq-or-lt_of_le {n = R} {m = made} (omega arith)) [
    | inl e ↦ ap (λ (j : ℕ). try_finds (try_of p es j)) e ∙ last (omega arith)
    | inr g ↦ ran.none_before R (omega arith) g
  ]

  ended : Ended (searched p es).proof
  unfolding Ended
  ended = elim ran.end [
    | inl n ↦ let all : made ≡ p.max_retries = n.1 ∙ omega arith in subst Ended (sym n.0) (all, none_in_any all n.2)
    | inr f ↦ subst Ended (sym f.1) (f.2, f.3)
  ]

  abbrev number : Bool → ℕ
  number b = cond b 11 12

  never : (b : Bool) → number b ≡ 0 → ⊥
  never true e = omega arith
  never false e = omega arith

  -- ---- the tries made

  up_to_the_limit : made ≤ p.max_retries
  up_to_the_limit = omega (arith, ran.upto)

  none_before : (R : ℕ) → 1 ≤ R → R < made → HasProof (try_of p es R) → ⊥
  none_before R l h = finds_none (try_of p es R) (ran.none_before R (omega arith) h)

  last_has : (c : Chain) → try_finds (try_of p es made) ≡ some c → HasProof (try_of p es made)
  last_has c f = (c, (finds_first (try_of p es made) c f).1)

  end_of : (o : Option Chain) → Ended o → (made ≡ p.max_retries) ⊎ ((1 ≤ made) × HasProof (try_of p es made))
  unfolding Ended
  end_of (some c) e = inr (omega (arith, e.0), last_has c e.1)
  end_of none e = inl e.0

  -- ---- the proof

  proof_when_of : (o : Option Chain) → Ended o → ((answer o).number ≡ 0) ↔ SomeTry
  unfolding answered Ended
  proof_when_of (some c) e = ((λ _. (made, omega (arith, e.0), up_to_the_limit, last_has c e.1)), (λ _. refl))
  proof_when_of none e = (
    (λ n. absurd (never (leb p.dfs_bound count) n)),
    (λ h. absurd (finds_none (try_of p es h.0) (e.1 h.0 h.1 h.2) h.3)),
  )

  proof_is_of : (o : Option Chain) → Ended o → (answer o).number ≡ 0
      → (c : Chain)
      × FirstPassing (try_of p es made) c
      × ((answer o).retry ≡ made)
      × ((answer o).search ≡ c.search)
      × ((answer o).places ≡ c.places ++ drop (length c.places) places)
  unfolding answered Ended
  proof_is_of (some c) e n = (c, (finds_first (try_of p es made) c e.1).0, refl, refl, refl)
  proof_is_of none e n = absurd (never (leb p.dfs_bound count) n)

  -- ---- the count

  K_is : (R : ℕ) → 1 ≤ R → R ≤ made → Number (UpToPassing (try_of p es R)) (K (try_of p es R))
  K_is R l h = K_number (try_of p es R)

  counted : count ≡ sum_up_to made counts
  unfolding try_count
  counted = search_counted p es

  count_is : (o : Option Chain) → (answer o).count ≡ sum_up_to made counts
  unfolding answered
  count_is (some c) = counted
  count_is none = counted

  -- ---- without a proof

  all_made_of : (o : Option Chain) → Ended o → ((answer o).number ≡ 0 → ⊥) → made ≡ p.max_retries
  unfolding answered Ended
  all_made_of (some c) e n = absurd (n refl)
  all_made_of none e n = e.0

  not_found : (o : Option Chain) → ((answer o).number ≡ 0 → ⊥) → (answer o).count < p.dfs_bound → (answer o).number ≡ 12
  unfolding answered
  not_found (some c) n l = absurd (n refl)
  not_found none n l = ap number (lt-leb p.dfs_bound count l)

  not_in_bounds : (o : Option Chain) → ((answer o).number ≡ 0 → ⊥) → p.dfs_bound ≤ (answer o).count → (answer o).number ≡ 11
  unfolding answered
  not_in_bounds (some c) n l = absurd (n refl)
  not_in_bounds none n l = ap number (le-leb p.dfs_bound count l)

  -- a try whose count is below the bound has seen all its chains
  none_below : (b : Bool) → leb p.dfs_bound count ≡ b → number b ≡ 12 → Ended none
      → (R : ℕ) → 1 ≤ R → R ≤ p.max_retries → (c : Chain) → Passes (try_of p es R) c → ⊥
  unfolding Ended
  none_below true q n e R l h = absurd (omega arith)
  none_below false q n e R l h =
      let below : count < p.dfs_bound = leb-false _ _ q in
      let all : made ≡ p.max_retries = e.0 in
      let one : counts R ≤ sum_up_to made counts = within_sum counts made R l (omega arith) in
      let sum : count ≡ sum_up_to made counts = counted in
      let k : min (K (try_of p es R)) p.dfs_bound < p.dfs_bound = omega arith in
      finds_none_below (try_of p es R) (e.1 R l h) (omega arith)

  none_passes_of : (o : Option Chain) → Ended o → (answer o).number ≡ 12
      → (R : ℕ) → 1 ≤ R → R ≤ p.max_retries → (c : Chain) → Passes (try_of p es R) c → ⊥
  unfolding answered
  none_passes_of (some c) e n = absurd (omega arith)
  none_passes_of none e n = none_below (leb p.dfs_bound count) refl n e

  -- ---- the fields, of the answer as the search ended

  abbrev found : Option Chain
  found = (searched p es).proof

  abbrev r : Proved
  r = answer found

  end : (made ≡ p.max_retries) ⊎ ((1 ≤ made) × HasProof (try_of p es made))
  end = end_of found ended

  proof_when : (r.number ≡ 0) ↔ SomeTry
  proof_when = proof_when_of found ended

  proof_is : r.number ≡ 0
      → (c : Chain)
      × FirstPassing (try_of p es made) c
      × (r.retry ≡ made)
      × (r.search ≡ c.search)
      × (r.places ≡ c.places ++ drop (length c.places) places)
  proof_is = proof_is_of found ended

  all_made : (r.number ≡ 0 → ⊥) → made ≡ p.max_retries
  all_made = all_made_of found ended

  none_passes : r.number ≡ 12 → (R : ℕ) → 1 ≤ R → R ≤ p.max_retries → (c : Chain) → Passes (try_of p es R) c → ⊥
  none_passes = none_passes_of found ended

  pub prover_so : OfProver p es places r
  prover_so = record {
    made = made;
    up_to_the_limit = up_to_the_limit;
    none_before = none_before;
    end = end;
    proof_when = proof_when;
    proof_is = proof_is;
    K = λ R. K (try_of p es R);
    K_is = K_is;
    count_is = count_is found;
    all_made = all_made;
    not_found = not_found found;
    not_in_bounds = not_in_bounds found;
    none_passes = none_passes;
  }

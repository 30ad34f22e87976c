-- The tries, one after the other: which were made, what the last of them found, and the sum of their counts.
use Rattle.std.proofs.Common.{◌≡◌, ℕ, zero, suc, ◌+◌, ◌*◌, ◌<◌, ◌≤◌, ◌⊎◌, List, sym, refl, ap, ◌∙◌, inl, inr, eq-or-lt_of_le, add-one, arith}
use mathlib.Core.Option.{Option, none, some}
use native.Mathlib.Nat.{min-le_right}
use Rattle.centralized_telescope.specs.declared.params.Params.{Params}
use Rattle.centralized_telescope.specs.core.Elements.{Element}
use Rattle.centralized_telescope.specs.core.Chains.{try_of, Chain}
use Rattle.centralized_telescope.specs.core.Search.{try_count, try_finds, Searched, unless_found, tries_from, searched}
use Rattle.centralized_telescope.specs.core.Demand3.{sum_up_to}

-- ---- sums

-- each summand is within the sum
pub within_sum : (f : ℕ → ℕ) (m R : ℕ) → 1 ≤ R → R ≤ m → f R ≤ sum_up_to m f
unfolding sum_up_to
within_sum f zero R l h = absurd (omega arith)
within_sum f (suc m) R l h = elim (eq-or-lt_of_le h) [
  | inl e ↦ rw e (omega arith)
  | inr g ↦ let r = within_sum f m R l (omega arith) in omega arith
]

module _ (p : Params) (es : List Element) where
  abbrev finds : ℕ → Option Chain
  finds R = try_finds (try_of p es R)

  abbrev count : ℕ → ℕ
  count R = try_count (try_of p es R)

  -- how w tries after that of the retry counter R end
  pub record Ran (w R : ℕ) (s : Searched) : Type 0 where
    pub from : R ≤ s.made
    pub upto : s.made ≤ R + w
    pub none_before : (j : ℕ) → R < j → j < s.made → finds j ≡ none
    pub end : ((s.proof ≡ none) × (s.made ≡ R + w) × (R < s.made → finds s.made ≡ none))
        ⊎ ((c : Chain) × (s.proof ≡ some c) × (R < s.made) × (finds s.made ≡ some c))

  sum_more : (R sum : ℕ) → sum ≡ sum_up_to R count → sum + count (R + 1) ≡ sum_up_to (R + 1) count
  unfolding sum_up_to
  sum_more R sum e = rw (e, add-one R)

  -- one try more in front of those that end with `later`
  module _ (w R sum : ℕ) (later : Searched) where
    abbrev now : Option Chain → Searched
    now d = unless_found d (R + 1) sum later

    ran_more : Ran w (R + 1) later → (d : Option Chain) → finds (R + 1) ≡ d → Ran (suc w) R (now d)
    unfolding unless_found
    ran_more r (some c) q = record {
      from = omega arith;
      upto = omega arith;
      none_before = λ j l h. absurd (omega arith);
      end = inr (c, refl, omega arith, q);
    }
    ran_more r none q = record {
      from = omega (arith, r.from);
      upto = omega (arith, r.upto);
      none_before = λ j l h. elim (eq-or-lt_of_le l) [
        | inl e ↦ ap finds (sym e ∙ sym (add-one R)) ∙ q
        | inr g ↦ r.none_before j (omega arith) h
      ];
      end = elim r.end [
        | inl n ↦
            inl (
              n.0,
              omega (arith, n.1),
              λ l. elim (eq-or-lt_of_le r.from) [ inl e ↦ ap finds (sym e) ∙ q | inr g ↦ n.2 (omega arith) ],
            )
        | inr f ↦ inr (f.0, f.1, omega (arith, f.2), f.3)
      ];
    }

    counted_more : sum ≡ sum_up_to (R + 1) count → later.count ≡ sum_up_to later.made count → (d : Option Chain)
        → (now d).count ≡ sum_up_to (now d).made count
    unfolding unless_found
    counted_more e r (some c) = e
    counted_more e r none = r

  ran : (w R sum : ℕ) → Ran w R (tries_from p es w R sum)
  unfolding tries_from
  ran zero R sum = record {
    from = omega arith;
    upto = omega arith;
    none_before = λ j l h. absurd (omega arith);
    end = inl (refl, omega arith, λ l. absurd (omega arith));
  }
  ran (suc w) R sum =
      ran_more w R _ (tries_from p es w (R + 1) _) (ran w (R + 1) _) (finds (R + 1)) refl

  counted : (w R sum : ℕ) → sum ≡ sum_up_to R count → (tries_from p es w R sum).count ≡ sum_up_to (tries_from p es w R sum).made count
  unfolding tries_from
  counted zero R sum e = e
  counted (suc w) R sum e =
      let next : ℕ = sum + count (R + 1) in
      let f : next ≡ sum_up_to (R + 1) count = sum_more R sum e in
      counted_more w R next (tries_from p es w (R + 1) next) f (counted w (R + 1) next f) (finds (R + 1))

  -- ---- the search as a whole

  pub search_ran : Ran p.max_retries 0 (searched p es)
  unfolding searched
  search_ran = ran p.max_retries 0 0

  pub search_counted : (searched p es).count ≡ sum_up_to (searched p es).made count
  unfolding searched sum_up_to
  search_counted = counted p.max_retries 0 0 refl

  -- ---- no try counts more than the step bound, so w tries count no more than w times as much

  steps_more : (w R sum : ℕ) (later : Searched) → later.count ≤ sum + w → (d : Option Chain) → (unless_found d R sum later).count ≤ sum + w
  unfolding unless_found
  steps_more w R sum later h (some c) = omega arith
  steps_more w R sum later h none = h

  steps : (w R sum : ℕ) → (tries_from p es w R sum).count ≤ sum + w * p.dfs_bound
  unfolding tries_from try_count
  steps zero R sum = omega arith
  steps (suc w) R sum =
      let next : ℕ = sum + count (R + 1) in
      let most : count (R + 1) ≤ p.dfs_bound = min-le_right _ _ in
      let one = steps_more (w * p.dfs_bound) (R + 1) next (tries_from p es w (R + 1) next) (steps w (R + 1) next) (finds (R + 1)) in
      omega arith

  pub search_steps : (searched p es).count ≤ p.max_retries * p.dfs_bound
  unfolding searched
  search_steps = omega (arith, steps p.max_retries 0 0)

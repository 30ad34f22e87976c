-- What is read off a try's list, in the words of demand 3: the first passing chain, K, and whether the try has a passing chain within
-- the step bound.
use Rattle.std.proofs.Common.{◌≡◌, ℕ, ◌<◌, ◌≤◌, Bool, true, false, cond, eqb, leb, List, length, sym, refl, subst, inl, inr, arith, eq-eqb, eqb-true, le-leb, leb-true}
use mathlib.Core.Bool.{false≢true}
use mathlib.Core.List.{Memᴰ}
use mathlib.Core.Option.{none, some}
use Rattle.centralized_telescope.specs.core.Lists.{Ascending, first_of}
use Rattle.centralized_telescope.specs.laws.ListsLaws.{first_none, first_some, prefix_to, length_prefix, prefix_among, prefix_pairwise}
use Rattle.centralized_telescope.specs.laws.ListsLaws.{prefix_before, before_prefix, no_longer}
use Rattle.centralized_telescope.specs.core.Rounds.{says_yes}
use Rattle.centralized_telescope.specs.core.Chains.{Try, Chain, Passes, Before}
use Rattle.centralized_telescope.specs.laws.OrderLaws.{before_transitive, before_asymmetric}
use Rattle.centralized_telescope.specs.core.Search.{existing, passing, K, try_finds}
use Rattle.centralized_telescope.specs.laws.SearchLaws.{listed_exists, exists_listed, in_order}
use Rattle.centralized_telescope.specs.core.Demand3.{Number, UpTo, FirstPassing, WithinBound, HasProof, UpToPassing}

up_to_transitive : (a b c : Chain) → UpTo a b → UpTo b c → UpTo a c
up_to_transitive a b c (inl e) q = subst (λ (x : Chain). UpTo x c) (sym e) q
up_to_transitive a b c (inr p) (inl e) = inr (subst (Before a) e p)
up_to_transitive a b c (inr p) (inr q) = inr (before_transitive a b c p q)

module _ (T : Try) where
  -- ---- a listed chain passes exactly when the test says yes

  pub is_passing : (c : Chain) → Passes T c → passing T c ≡ true
  unfolding passing
  is_passing c p = rw (eq-eqb (length c.places) T.settings.proof_size p.exactly) p.yes

  pub passing_is : (c : Chain) → passing T c ≡ true
      → (length c.places ≡ T.settings.proof_size) × (says_yes T.settings.x c.last ≡ true)
  unfolding passing
  passing_is c e = go (eqb (length c.places) T.settings.proof_size) refl e
    where
      go : (b : Bool) → eqb (length c.places) T.settings.proof_size ≡ b → cond b (says_yes T.settings.x c.last) false ≡ true
          → (length c.places ≡ T.settings.proof_size) × (says_yes T.settings.x c.last ≡ true)
      go true q v = (eqb-true _ _ q, v)
      go false q v = absurd (false≢true v)

  listed_passes : (c : Chain) → Memᴰ c (existing T) → passing T c ≡ true → Passes T c
  listed_passes c m e = let y = passing_is c e in record { exists = listed_exists T c m; exactly = y.0; yes = y.1 }

  passes_listed : (c : Chain) → Passes T c → Memᴰ c (existing T)
  passes_listed c p = exists_listed T c p.exists

  -- ---- the first passing chain

  pub first_passing : (c : Chain) → first_of (passing T) (existing T) ≡ some c → FirstPassing T c
  first_passing c e =
      let f = first_some (passing T) Before (existing T) (in_order T) c e in
      record {
        passes = listed_passes c f.among f.yes;
        first = λ d p. f.first d (passes_listed d p) (is_passing d p);
      }

  pub none_passing : first_of (passing T) (existing T) ≡ none → (c : Chain) → Passes T c → ⊥
  none_passing e c p = first_none (passing T) (existing T) e c (passes_listed c p) (is_passing c p)

  -- ---- K

  abbrev up_to : List Chain
  up_to = prefix_to (passing T) (existing T)

  listed_up_to : (c : Chain) → Memᴰ c up_to → UpToPassing T c
  listed_up_to c m = (
    listed_exists T c (prefix_among (passing T) (existing T) c m),
    λ d p. prefix_before (passing T) Before (existing T) (in_order T) c m d (passes_listed d p) (is_passing d p),
  )

  up_to_listed : (c : Chain) → UpToPassing T c → Memᴰ c up_to
  up_to_listed c u =
      before_prefix (passing T) Before before_asymmetric (existing T) (in_order T) c (exists_listed T c u.0)
      (λ d m e. u.1 d (listed_passes d m e))

  sorted_up_to : Ascending Before up_to
  sorted_up_to = prefix_pairwise (passing T) Before (existing T) (in_order T)

  length_up_to : length up_to ≡ K T
  length_up_to = length_prefix (passing T) (existing T)

  pub K_number : Number (UpToPassing T) (K T)
  K_number = (up_to, sorted_up_to, (λ c. (listed_up_to c, up_to_listed c)), length_up_to)

  -- ---- within the step bound

  first_within : (c : Chain) → FirstPassing T c → K T ≤ T.settings.dfs_bound → WithinBound T c
  first_within c f l = record {
    passes = f.passes;
    nth = K T;
    nth_is = (
      up_to,
      sorted_up_to,
      (λ d. (
        (λ m. let u = listed_up_to d m in (u.0, u.1 c f.passes)),
        (λ u. up_to_listed d (u.0, λ e p. up_to_transitive d c e u.1 (f.first e p))),
      )),
      length_up_to,
    );
    within = l;
  }

  -- K is no more than the place of any passing chain
  K_least : (c : Chain) (w : WithinBound T c) → K T ≤ w.nth
  K_least c w =
      let n = w.nth_is in
      let l =
      no_longer Before before_asymmetric n.0 up_to sorted_up_to n.1
      (λ d m. let u = listed_up_to d m in (n.2 d).1 (u.0, u.1 c w.passes)) in
      omega (arith, l, length_up_to, n.3)

  pub finds_first : (c : Chain) → try_finds T ≡ some c → FirstPassing T c × WithinBound T c
  unfolding try_finds
  finds_first c e = go (leb (K T) T.settings.dfs_bound) refl e
    where
      go : (b : Bool) → leb (K T) T.settings.dfs_bound ≡ b → cond b (first_of (passing T) (existing T)) none ≡ some c
          → FirstPassing T c × WithinBound T c
      go true q v = let f = first_passing c v in (f, first_within c f (leb-true _ _ q))
      go false q v = let z : ◌≡◌ {A = ℕ} 0 1 = cc in absurd (omega arith)

  pub finds_none : try_finds T ≡ none → HasProof T → ⊥
  unfolding try_finds
  finds_none e h =
      let within : K T ≤ T.settings.dfs_bound = omega (arith, K_least h.0 h.1, h.1.within) in
      none_passing (rw (le-leb (K T) T.settings.dfs_bound within) at e) h.0 h.1.passes

  -- where nothing is found and K is below the bound, nothing passes
  pub finds_none_below : try_finds T ≡ none → K T < T.settings.dfs_bound → (c : Chain) → Passes T c → ⊥
  unfolding try_finds
  finds_none_below e l = none_passing (rw (le-leb (K T) T.settings.dfs_bound (omega arith)) at e)

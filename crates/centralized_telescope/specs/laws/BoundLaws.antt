-- Laws of dfs_bound: a try's chains, which of them passes first and K don't depend on it. So a try counts and finds the same under all
-- bounds from K on.
use Rattle.std.specs.Prelude.{◌≡◌, ℕ, zero, suc, ◌+◌, ◌<◌, ◌≤◌, Bool, true, false, cond, List, [], ◌∷◌, ◌++◌, nat_le}
use Rattle.std.proofs.Math.Path.{refl, ap, fun_ext}
use Rattle.std.proofs.Common.{sym, ◌∙◌}
use Rattle.std.proofs.Math.Logic.{inl, inr}
use Rattle.std.proofs.Math.Option.{Option, none, some}
use native.Mathlib.Omega.{arith}
use borrow.Author.Tests.{le-leb, leb-true}
use Rattle.centralized_telescope.specs.declared.params.Params.{Params}
use Rattle.centralized_telescope.specs.core.Elements.{Element}
use Rattle.centralized_telescope.specs.core.Lists.{first_of, up_to_first}
use Rattle.centralized_telescope.specs.core.Rounds.{start_hash}
use Rattle.centralized_telescope.specs.core.Chains.{Try, try_of, Chain}
use Rattle.centralized_telescope.specs.core.Search.{places_in, next_at, id_of, grown, along, chains, chains_at, chains_from, existing}
use Rattle.centralized_telescope.specs.core.Search.{passing, K, try_count, try_finds}
use Rattle.centralized_telescope.specs.later.RaisingClaims.{with_bound}
use Rattle.centralized_telescope.specs.laws.TestLaws.{lt_or_le}

-- one try under two bounds
module _ (p : Params) (es : List Element) (R a b : ℕ) where
  abbrev T : Try
  T = try_of (with_bound p a) es R

  abbrev U : Try
  U = try_of (with_bound p b) es R

  abbrev Grow : Type 0
  Grow = List ℕ → ℕ → List ℕ → List Chain

  -- ---- the chains

  grown_alike : (f g : Grow) → ((h : List ℕ) (i : ℕ) (ps : List ℕ) → f h i ps ≡ g h i ps) → (d : Option ℕ) (h ps : List ℕ)
      → grown T f d h ps ≡ grown U g d h ps
  unfolding grown
  grown_alike f g e none h ps = refl
  grown_alike f g e (some i) h ps = e h i ps

  along_alike : (f g : Grow) → ((h : List ℕ) (i : ℕ) (ps : List ℕ) → f h i ps ≡ g h i ps) → (h ps ns : List ℕ)
      → along T f h ps ns ≡ along U g h ps ns
  unfolding along
  along_alike f g e h ps [] = refl
  along_alike f g e h ps (n ∷ ns) =
      let one = grown_alike f g e (id_of T (next_at T h n)) (next_at T h n) (ps ++ (n ∷ [])) in
      let rest = along_alike f g e h ps ns in
      ap (λ (cs : List Chain). cs ++ along T f h ps ns) one
      ∙ ap (λ (cs : List Chain). grown U g (id_of T (next_at T h n)) (next_at T h n) (ps ++ (n ∷ [])) ++ cs) rest

  chains_alike : (S k : ℕ) (h : List ℕ) (i : ℕ) (ps : List ℕ) → chains T S k h i ps ≡ chains U S k h i ps
  unfolding chains places_in
  chains_alike S zero h i ps = refl
  chains_alike S (suc k) h i ps =
      ap (λ (cs : List Chain). record { search = S; places = ps; last = h } ∷ cs)
      (along_alike (chains T S k) (chains U S k) (chains_alike S k) h ps (places_in T i))

  at_alike : (S : ℕ) → chains_at T S ≡ chains_at U S
  unfolding chains_at
  at_alike S =
      let k = p.proof_size in
      grown_alike (chains T S k) (chains U S k) (chains_alike S k) (id_of T (start_hash R S)) (start_hash R S) []

  from_alike : (w S : ℕ) → chains_from T w S ≡ chains_from U w S
  unfolding chains_from
  from_alike zero S = refl
  from_alike (suc w) S =
      ap (λ (cs : List Chain). cs ++ chains_from T w (S + 1)) (at_alike S)
      ∙ ap (λ (cs : List Chain). chains_at U S ++ cs) (from_alike w (S + 1))

  existing_alike : existing T ≡ existing U
  existing_alike = from_alike p.search_width 0

  passing_alike : passing T ≡ passing U
  unfolding passing
  passing_alike = fun_ext (λ c. refl)

  -- ---- what is read off them

  abbrev first : Try → Option Chain
  first W = first_of (passing W) (existing W)

  first_alike : first T ≡ first U
  first_alike =
      ap (λ (test : Chain → Bool). first_of test (existing T)) passing_alike
      ∙ ap (first_of (passing U)) existing_alike

  K_alike : K T ≡ K U
  K_alike =
      ap (λ (test : Chain → Bool). up_to_first test (existing T)) passing_alike
      ∙ ap (up_to_first (passing U)) existing_alike

  -- ---- under the bound a and under b

  pub same_within : a ≤ b → K T ≤ a → (try_finds U ≡ try_finds T) × (try_count U ≡ try_count T)
  unfolding try_finds try_count
  same_within l k =
      let j : K U ≤ b = omega (arith, K_alike) in
      (rw (le-leb (K U) b j, le-leb (K T) a k) (sym first_alike), omega (arith, K_alike))

  pub found_within : (c : Chain) → try_finds T ≡ some c → K T ≤ a
  unfolding try_finds
  found_within c e = go (nat_le (K T) a) refl e
    where
      go : (t : Bool) → nat_le (K T) a ≡ t → cond t (first T) none ≡ some c → K T ≤ a
      go true q v = leb-true _ _ q
      go false q v = let z : ◌≡◌ {A = ℕ} 0 1 = cc in absurd (omega arith)

  pub below_within : try_count T < a → K T ≤ a
  unfolding try_count
  below_within l = omega arith

  pub count_grows : a ≤ b → try_count T ≤ try_count U
  unfolding try_count
  count_grows l = omega (arith, K_alike)

  -- a try that finds under b alone has reached a
  pub cut_short : a ≤ b → (c : Chain) → try_finds U ≡ some c → try_finds T ≡ none → try_count T ≡ a
  unfolding try_count
  cut_short l c f n = elim (lt_or_le a (K T)) [
    | inl g ↦ omega arith
    | inr k ↦ let s = same_within l k in let z : ◌≡◌ {A = ℕ} 0 1 = cc s.0 in absurd (omega arith)
  ]

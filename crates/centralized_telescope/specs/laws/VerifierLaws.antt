-- Laws of the verdict: it is by the existence and the passing of Chains.
use Rattle.std.specs.Prelude.{◌≡◌, ℕ, Bool, true, false, cond, T, List, [], ◌∷◌}
use Rattle.std.proofs.Math.Path.{refl, ap}
use Rattle.std.proofs.Common.{sym, subst, arith, eq-eqb, eqb-true}
use Rattle.std.proofs.Math.Option.{Option, none, some}
use Rattle.centralized_telescope.specs.declared.params.Params.{Params}
use Rattle.centralized_telescope.specs.core.Elements.{Element}
use Rattle.centralized_telescope.specs.core.Rounds.{start_hash, next_hash, round_id, bin_of, says_yes}
use Rattle.centralized_telescope.specs.core.Chains.{Grows, ElementsExist}
use Rattle.centralized_telescope.specs.core.Verifier.{if_some, is_bin, follow, last_hash, yes_on}

-- the bin of an element is i, by the test and by the definition
bin_is_lem : (o : Option ℕ) (i : ℕ) → is_bin o i ≡ true → o ≡ some i
bin_is_lem none i e = absurd (subst T (sym e) tt)
bin_is_lem (some b) i e = ap some (eqb-true b i e)

is_bin_lem : (i : ℕ) → is_bin (some i) i ≡ true
is_bin_lem i = eq-eqb i i refl

module _ (p : Params) (R : ℕ) where
  abbrev N : ℕ
  N = p.set_size

  -- the chain that some elements make from a round on, if it exists, ends with the hash that is followed to
  pub grows_follow : (h : List ℕ) (i : ℕ) (es : List Element) (g : List ℕ) → Grows p R h i es g → follow p R h i es ≡ some g
  unfolding Grows follow if_some
  grows_follow h i [] g w = ap some (sym w)
  grows_follow h i (e ∷ es) g w = rw (w.0, is_bin_lem i, w.1.1) (grows_follow (next_hash h e) w.1.0 es g w.1.2)

  pub follow_grows : (h : List ℕ) (i : ℕ) (es : List Element) (g : List ℕ) → follow p R h i es ≡ some g → Grows p R h i es g
  unfolding Grows follow if_some
  follow_grows h i [] g w = cc
  follow_grows h i (e ∷ es) g w =
      go (is_bin (bin_of N R e) i) refl (round_id N (next_hash h e)) refl (λ j v. follow_grows (next_hash h e) j es g v) w
    where
      go : (t : Bool) → is_bin (bin_of N R e) i ≡ t → (d : Option ℕ) → round_id N (next_hash h e) ≡ d
          → ((j : ℕ) → follow p R (next_hash h e) j es ≡ some g → Grows p R (next_hash h e) j es g)
          → cond t (if_some d (λ (j : ℕ). follow p R (next_hash h e) j es)) none ≡ some g
          → (bin_of N R e ≡ some i) × ((j : ℕ) × (round_id N (next_hash h e) ≡ some j) × Grows p R (next_hash h e) j es g)
      go true q (some j) r rest v = (bin_is_lem (bin_of N R e) i q, (j, r, rest j v))
      go true q none r rest v = let z : ◌≡◌ {A = ℕ} 0 1 = cc in absurd (omega arith)
      go false q d r rest v = let z : ◌≡◌ {A = ℕ} 0 1 = cc in absurd (omega arith)

  module _ (S : ℕ) (es : List Element) where
    pub exist_last : (g : List ℕ) → ElementsExist p R S es g → last_hash p R S es ≡ some g
    unfolding last_hash if_some
    exist_last g x = rw x.1 (grows_follow (start_hash R S) x.0 es g x.2)

    pub last_exist : (g : List ℕ) → last_hash p R S es ≡ some g → ElementsExist p R S es g
    unfolding last_hash if_some
    last_exist g e = go (round_id N (start_hash R S)) refl e
      where
        go : (d : Option ℕ) → round_id N (start_hash R S) ≡ d → if_some d (λ (i : ℕ). follow p R (start_hash R S) i es) ≡ some g
            → ElementsExist p R S es g
        go none q v = let z : ◌≡◌ {A = ℕ} 0 1 = cc in absurd (omega arith)
        go (some i) q v = (i, q, follow_grows (start_hash R S) i es g v)

    -- yes exactly when the chain exists and its last hash says yes
    pub yes_exists : yes_on p.x (last_hash p R S es) ≡ true → (last : List ℕ) × ElementsExist p R S es last × (says_yes p.x last ≡ true)
    yes_exists e = go (last_hash p R S es) refl e
      where
        go : (o : Option (List ℕ)) → last_hash p R S es ≡ o → yes_on p.x o ≡ true
            → (last : List ℕ) × ElementsExist p R S es last × (says_yes p.x last ≡ true)
        go none q v = absurd (subst T (sym v) tt)
        go (some g) q v = (g, last_exist g q, v)

    pub exists_yes : (last : List ℕ) → ElementsExist p R S es last → says_yes p.x last ≡ true → yes_on p.x (last_hash p R S es) ≡ true
    exists_yes g x y = rw (exist_last g x) y

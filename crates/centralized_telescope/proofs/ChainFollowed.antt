-- The chain of a proof's elements, followed a place at a time: what one place settles, and what it leaves to the places behind it.
use Rattle.std.proofs.Common.{◌≡◌, ℕ, suc, ◌+◌, ◌<◌, ◌≤◌, List, [], ◌∷◌, length, drop, refl, ◌∙◌, add-one, drop_of_length-le, drop-cons, eq-eqb, ne_eqb}
use mathlib.Core.Option.{Option, none, some}
use Rattle.centralized_telescope.specs.declared.params.Params.{Params}
use Rattle.centralized_telescope.specs.declared.round.Round.{Round}
use Rattle.centralized_telescope.specs.core.Elements.{Element, element_at}
use Rattle.centralized_telescope.specs.core.Rounds.{start_hash, next_hash, round_id, bin_of}
use Rattle.centralized_telescope.specs.core.Verifier.{if_some, follow, last_hash}
use Rattle.centralized_telescope.specs.inner.Following.{round_with, followed}

element_next : (es : List Element) (place : ℕ) → place < length es → drop place es ≡ element_at es place ∷ drop (suc place) es
unfolding element_at
element_next es place l = drop-cons es place (record { bytes = []; index = none }) l

module _ (p : Params) (R : ℕ) where
  abbrev N : ℕ
  N = p.set_size

  -- ---- one round

  by_id : (h : List ℕ) (o : Option ℕ) (es : List Element) → followed p R (round_with h o) es ≡ if_some o (λ (i : ℕ). follow p R h i es)
  unfolding if_some
  by_id h none es = refl
  by_id h (some i) es = refl

  -- the start round, with the hash h
  pub from_start : (S : ℕ) (h : List ℕ) → h ≡ start_hash R S → (r : Option Round) → r ≡ round_with h (round_id N h)
      → (es : List Element) → followed p R r es ≡ last_hash p R S es
  unfolding last_hash
  from_start S h e r E es = rw (E, e) (by_id (start_hash R S) (round_id N (start_hash R S)) es)

  -- the round behind the one with the hash h and the id i, by an element with the bin b
  module _ (h : List ℕ) (i : ℕ) (e : Element) (es : List Element) where
    pub no_bin : none ≡ bin_of N R e → none ≡ follow p R h i (e ∷ es)
    unfolding follow
    no_bin B = rw (← B)

    module _ (b : ℕ) (B : some b ≡ bin_of N R e) where
      pub other_bin : (b ≡ i → ⊥) → none ≡ follow p R h i (e ∷ es)
      unfolding follow
      other_bin d = rw (← B, ne_eqb b i d)

      pub bin_met : b ≡ i → (g : List ℕ) → g ≡ next_hash h e → (r : Option Round) → r ≡ round_with g (round_id N g)
          → followed p R r es ≡ follow p R h i (e ∷ es)
      unfolding follow
      bin_met t g G r E = rw (← B, eq-eqb b i t, E, G) (by_id (next_hash h e) (round_id N (next_hash h e)) es)

  -- ---- the last hash x of the chain, seen from the round reached, behind which the elements from a place on are left

  module _ (h : List ℕ) (i : ℕ) (es : List Element) (place : ℕ) (x : Option (List ℕ)) (F : follow p R h i (drop place es) ≡ x) where
    pub one_followed : place < length es → (e : Element) → e ≡ element_at es place → (r : Option Round)
        → ((rest : List Element) → followed p R r rest ≡ follow p R h i (e ∷ rest))
        → followed p R r (drop (place + 1) es) ≡ x
    one_followed l e E r f = rw (add-one place) (f (drop (suc place) es) ∙ rw (E, ← element_next es place l) F)

    pub all_followed : length es ≤ place → some h ≡ x
    unfolding follow
    all_followed l = rw (drop_of_length-le es {i = place} l) at F

-- the next round, by the bin
pub ruleset next_told = (no_bin, other_bin, bin_met)

-- Laws of a try's draws: an id is below set_size, and a bin holds exactly its kept places, ascending.
use Rattle.std.specs.Prelude.{◌≡◌, ℕ, ◌<◌, List, length, slice_index}
use Rattle.std.proofs.Math.Path.{ap}
use Rattle.std.proofs.Common.{sym, ◌∙◌, arith}
use mathlib.Core.List.{Memᴰ}
use Rattle.std.proofs.Math.Option
use Rattle.std.proofs.Math.Option.{Option, none, some}
use Rattle.std.proofs.Math.ListN.{length-map}
use Rattle.centralized_telescope.specs.core.Elements.{Element, element_at}
use Rattle.centralized_telescope.specs.core.Lists.{Ascending}
use Rattle.centralized_telescope.specs.laws.ListsLaws.{get_d_map}
use Rattle.centralized_telescope.specs.core.Rounds.{bin_of}
use Rattle.centralized_telescope.specs.laws.RoundsLaws.{drawn_below_below}
use Rattle.centralized_telescope.specs.laws.BinsLaws.{place_in_bin, bin_has_place, places_ascend}
use Rattle.centralized_telescope.specs.core.Chains.{Try}
use Rattle.centralized_telescope.specs.core.Search.{bin_list, bins_of, places_in, id_of}

-- a number below n is a bin's, and no stand-in for none
bin_not_none : (o : Option ℕ) (n i : ℕ) → i < n → Option.get_or o n ≡ i → o ≡ some i
bin_not_none none n i l e = absurd (omega arith)
bin_not_none (some b) n i l e = ap some e

module _ (n R : ℕ) (kept : List Element) where
  pub length_bin_list : length (bin_list n R kept) ≡ length kept
  unfolding bin_list
  length_bin_list = length-map kept (λ (e : Element). Option.get_or (bin_of n R e) n)

  pub bin_list_at : (place : ℕ) → place < length kept → slice_index (bin_list n R kept) place ≡ Option.get_or (bin_of n R (element_at kept place)) n
  unfolding bin_list element_at
  bin_list_at place l = get_d_map (λ (e : Element). Option.get_or (bin_of n R e) n) kept place 0 _ l

module _ (T : Try) where
  abbrev N : ℕ
  N = T.settings.set_size

  pub id_below : (h : List ℕ) (i : ℕ) → id_of T h ≡ some i → i < N
  id_below h i e = drawn_below_below N i h e

  pub in_bin : (i e : ℕ) → i < N → Memᴰ e (places_in T i)
      → (e < length T.kept) × (bin_of N T.retry (element_at T.kept e) ≡ some i)
  unfolding places_in
  in_bin i e l m =
      let p = place_in_bin (bins_of T) i e m in
      let k : e < length T.kept = omega (arith, p.0, length_bin_list N T.retry T.kept) in
      (k, bin_not_none (bin_of N T.retry (element_at T.kept e)) N i l (sym (bin_list_at N T.retry T.kept e k) ∙ p.1))

  pub bin_in : (i e : ℕ) → e < length T.kept → bin_of N T.retry (element_at T.kept e) ≡ some i → Memᴰ e (places_in T i)
  unfolding places_in
  bin_in i e l b =
      bin_has_place (bins_of T) i e (omega (arith, length_bin_list N T.retry T.kept))
      (bin_list_at N T.retry T.kept e l ∙ ap (λ (o : Option ℕ). Option.get_or o N) b)

  pub bin_ascends : (i : ℕ) → Ascending ◌<◌ (places_in T i)
  unfolding places_in
  bin_ascends i = places_ascend (bins_of T) i

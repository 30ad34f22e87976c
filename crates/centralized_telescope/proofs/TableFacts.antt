-- What a try that is ready knows: the limits, and what is read of its bin table and its source.
use Rattle.std.proofs.Common.{◌≡◌, ℕ, ◌+◌, ◌-◌, ◌*◌, ◌^◌, ◌<◌, ◌≤◌, List, ◌++◌, length, get_or, take, drop, sym, ap, ◌∙◌, arith, length-take, take-append-drop}
use Rattle.std.proofs.lemmas.List.{drop-take}
use Rattle.centralized_telescope.specs.declared.ready.ReadyTry.{ReadyTry}
use Rattle.centralized_telescope.specs.laws.ParamsLaws.{lawful}
use Rattle.centralized_telescope.specs.later.VerdictExactly.{Lawful}
use Rattle.centralized_telescope.specs.core.Elements.{element_at}
use Rattle.centralized_telescope.specs.laws.ElementsLaws.{at_kept}
use Rattle.centralized_telescope.specs.core.Bins.{table_of}
use Rattle.centralized_telescope.specs.core.Rounds.{next_hash}
use Rattle.centralized_telescope.specs.core.Chains.{Try}
use Rattle.centralized_telescope.specs.core.Search.{bins_of, places_in, next_at}
use Rattle.centralized_telescope.specs.laws.TryLaws.{length_bin_list}
use Rattle.centralized_telescope.specs.inner.Source.{meant}
use Rattle.centralized_telescope.specs.inner.SourceHeld.{source_held}
use Rattle.centralized_telescope.specs.inner.Visit.{try_held}
use Rattle.centralized_telescope.proofs.BinSpans.{table_has, part_order, part_within, part_is, place_listed}

module _ (t : ReadyTry) where
  abbrev T : Try
  T = try_held t

  abbrev N : ℕ
  N = t.settings.params.set_size

  -- ---- the limits

  law : Lawful t.settings.params
  law = lawful t.settings.params t.settings.lawful

  pub set_size_most : N ≤ 32768
  set_size_most = law.set_size.1

  pub proof_size_most : t.settings.params.proof_size ≤ 1024
  proof_size_most = law.limits.proof_size

  pub bound_most : t.settings.params.dfs_bound ≤ 2 ^ 48
  bound_most = law.limits.dfs_bound_kept

  -- ---- the table

  abbrev pub own : List ℕ
  own = table_of N (bins_of T)

  abbrev pub rest : List ℕ
  rest = drop (length own) t.table.now

  pub table_is : t.table.now ≡ own ++ rest
  table_is = sym (take-append-drop (length own) t.table.now) ∙ ap (λ (l : List ℕ). l ++ rest) t.has_table

  pub table_there : N < length t.table.now
  table_there = table_has N (bins_of T) rest t.table.now table_is

  -- the places of a bin, by what is read of the table at the bin and behind it
  module _ (bin from to : ℕ) (below : bin < N) (f : from ≡ get_or t.table.now bin 0) (e : to ≡ get_or t.table.now (bin + 1) 0) where
    pub places_order : from ≤ to
    places_order = part_order N (bins_of T) rest t.table.now table_is bin from to below f e

    pub places_within : N + 1 + to ≤ length t.table.now
    places_within = part_within N (bins_of T) rest t.table.now table_is bin from to below f e

    pub places_are : take (N + 1 + to - (N + 1 + from)) (drop (N + 1 + from) t.table.now) ≡ places_in T bin
    unfolding places_in
    places_are =
        let k : ℕ = N + 1 + to - (N + 1 + from) in
        let whole : N + 1 + from + k ≡ N + 1 + to = omega (arith, places_order) in
        sym (drop-take (N + 1 + from) k t.table.now)
        ∙ rw whole (part_is N (bins_of T) rest t.table.now table_is bin from to below f e)

  -- a place of a bin
  module _ (bin : ℕ) (candidates : List ℕ) (of_bin : candidates ≡ places_in T bin) (i : ℕ) (inside : i < length candidates) where
    place_kept : get_or candidates i 0 < length T.kept
    unfolding places_in
    place_kept = omega (arith, place_listed (bins_of T) bin candidates of_bin i inside, length_bin_list N t.retry.0 T.kept)

    -- by what was read of it
    module _ (place : ℕ) (is : place ≡ get_or candidates i 0) where
      pub place_there : place < length (meant (source_held t.source))
      place_there = omega (arith, place_kept, length-take (2 * N) (meant (source_held t.source)))

      pub place_hash : (h g : List ℕ) → g ≡ next_hash h (element_at (meant (source_held t.source)) place)
          → g ≡ next_at T h (get_or candidates i 0)
      place_hash h g e =
          e
          ∙ ap (λ (k : ℕ). next_hash h (element_at (meant (source_held t.source)) k)) is
          ∙ ap (next_hash h) (at_kept (2 * N) (meant (source_held t.source)) (get_or candidates i 0) place_kept)

-- the places of a bin by what is read of the table
pub ruleset table_told = (set_size_most, table_there, places_order, places_within, places_are)

-- Document 01, Search: what a chain is, when it exists, when it passes, and which comes before which.
use Rattle.std.specs.Prelude.{◌≡◌, ℕ, ◌*◌, ◌<◌, ◌≤◌, true, ◌⊎◌, List, [], ◌∷◌, map, length, take}
use Rattle.std.proofs.Math.Option.{some}
use Rattle.centralized_telescope.specs.declared.params.Params.{Params}
use Rattle.centralized_telescope.specs.core.Elements.{Element, element_at}
use Rattle.centralized_telescope.specs.core.Lists.{Each}
use Rattle.centralized_telescope.specs.core.Rounds.{start_hash, next_hash, round_id, bin_of, says_yes}

-- ---- of a list of elements: what prover and verifier share

-- from a round with the hash h and the id i on: an element's bin is the id reached by then, and the round that it makes exists;
-- the last round's hash is `last`
unfoldable pub Grows : Params → ℕ → List ℕ → ℕ → List Element → List ℕ → Type 0
Grows p R h i [] last = last ≡ h
Grows p R h i (e ∷ es) last =
    (bin_of p.set_size R e ≡ some i)
    × ((j : ℕ) × (round_id p.set_size (next_hash h e) ≡ some j) × Grows p R (next_hash h e) j es last)

-- 01, Search, existence: there is a start round, and the elements grow from it
abbrev pub ElementsExist : Params → ℕ → ℕ → List Element → List ℕ → Type 0
ElementsExist p R S es last = (i : ℕ) × (round_id p.set_size (start_hash R S) ≡ some i) × Grows p R (start_hash R S) i es last

-- 01, Search, passing: the chain exists, is of full length, and its last hash is told yes
abbrev pub ElementsPass : Params → ℕ → ℕ → List Element → Type 0
ElementsPass p R S es =
    (length es ≡ p.proof_size) × ((last : List ℕ) × ElementsExist p R S es last × (says_yes p.x last ≡ true))

-- ---- of a search

-- a try of the search: the settings, the kept elements and the retry counter
pub record Try : Type 0 where
  pub settings : Params
  pub kept : List Element
  pub retry : ℕ

-- 01, Search, kept elements: the list up to 2 × set_size
abbrev pub try_of : Params → List Element → ℕ → Try
try_of p es R = record { settings = p; kept = take (2 * p.set_size) es; retry = R }

-- 01, Search, a chain: its S and its places, among which one may come again; `Exists` has their limits. R is the try's;
-- the hash of the last round, which they determine where the chain exists, is kept beside them
pub record Chain : Type 0 where
  pub search : ℕ
  pub places : List ℕ
  pub last : List ℕ

abbrev pub elements_of : Try → Chain → List Element
elements_of T c = map (element_at T.kept) c.places

pub record Exists (T : Try) (c : Chain) : Type 0 where
  pub below_width : c.search < T.settings.search_width
  pub at_most : length c.places ≤ T.settings.proof_size
  pub kept_places : Each (λ (place : ℕ). place < length T.kept) c.places
  pub rounds : ElementsExist T.settings T.retry c.search (elements_of T c) c.last

pub record Passes (T : Try) (c : Chain) : Type 0 where
  pub exists : Exists T c
  pub exactly : length c.places ≡ T.settings.proof_size
  pub yes : says_yes T.settings.x c.last ≡ true

-- 01, Search, the order of places: what another begins with is before it; else the first place that differs tells
unfoldable pub PlacesBefore : List ℕ → List ℕ → Type 0
PlacesBefore xs [] = ⊥
PlacesBefore [] (y ∷ ys) = Unit {0}
PlacesBefore (x ∷ xs) (y ∷ ys) = (x < y) ⊎ ((x ≡ y) × PlacesBefore xs ys)

-- 01, Search, the order of a try's chains: by S, then by places
abbrev pub Before : Chain → Chain → Type 0
Before c d = (c.search < d.search) ⊎ ((c.search ≡ d.search) × PlacesBefore c.places d.places)

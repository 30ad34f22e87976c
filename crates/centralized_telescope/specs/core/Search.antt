-- Document 01, Search: the existing chains of a try as a list in search order, and what is read off it: K, the try's count, and what it
-- finds; then the tries. That the list holds exactly the existing chains, each once and in order, is a law: specs/laws/SearchLaws.
use Rattle.std.specs.Prelude.{ℕ, zero, suc, ◌+◌, min, Bool, false, cond, List, [], ◌∷◌, ◌++◌, map, length, ◌==◌, nat_le}
use Rattle.std.proofs.Math.Option.{Option, none, some, get_or}
use Rattle.centralized_telescope.specs.declared.params.Params.{Params}
use Rattle.centralized_telescope.specs.core.Elements.{Element, element_at}
use Rattle.centralized_telescope.specs.core.Lists.{first_of, up_to_first}
use Rattle.centralized_telescope.specs.core.Rounds.{start_hash, next_hash, round_id, bin_of, says_yes}
use Rattle.centralized_telescope.specs.core.Bins.{places_of}
use Rattle.centralized_telescope.specs.core.Chains.{Try, try_of, Chain}

-- ---- the bins of a try

-- the list of bins: of each kept element its bin, or set_size where it is in none
unfoldable pub bin_list : ℕ → ℕ → List Element → List ℕ
bin_list n R kept = map (λ (e : Element). get_or (bin_of n R e) n) kept

abbrev pub bins_of : Try → List ℕ
bins_of T = bin_list T.settings.set_size T.retry T.kept

-- the kept places of the bin i, ascending
unfoldable pub places_in : Try → ℕ → List ℕ
places_in T i = places_of (bins_of T) i

module _ (T : Try) where
  -- ---- 01, Search, the order from a round on: the chain up to it, then place by place whatever begins with that place

  -- the hash of the round that the element at a place makes after one with the hash h
  abbrev pub next_at : List ℕ → ℕ → List ℕ
  next_at h place = next_hash h (element_at T.kept place)

  abbrev pub id_of : List ℕ → Option ℕ
  id_of h = round_id T.settings.set_size h

  -- what grows from a round with the hash h, if the round exists
  unfoldable pub grown : (List ℕ → ℕ → List ℕ → List Chain) → Option ℕ → List ℕ → List ℕ → List Chain
  grown grow none h places = []
  grown grow (some i) h places = grow h i places

  -- what grows from a round with the hash h by one of some candidates for the next place
  unfoldable pub along : (List ℕ → ℕ → List ℕ → List Chain) → List ℕ → List ℕ → List ℕ → List Chain
  along grow h places [] = []
  along grow h places (e ∷ es) = grown grow (id_of (next_at h e)) (next_at h e) (places ++ (e ∷ [])) ++ along grow h places es

  -- the existing chains that begin with some places, whose round has the hash h and the id i, and have at most k places more.
  -- Case j: two elements in one bin, proof_size 2. From the start round on, with k = 2 and no place yet, they are in this order
  -- [], [0], [0, 0], [0, 1], [1], [1, 0], [1, 1]: seven, and its dfs_bound of 4 cuts them behind [0, 1]
  unfoldable pub chains : ℕ → ℕ → List ℕ → ℕ → List ℕ → List Chain
  chains S zero h i places = record { search = S; places = places; last = h } ∷ []
  chains S (suc k) h i places = record { search = S; places = places; last = h } ∷ along (chains S k) h places (places_in T i)

  -- those of a search counter
  unfoldable pub chains_at : ℕ → List Chain
  chains_at S = grown (chains S T.settings.proof_size) (id_of (start_hash T.retry S)) (start_hash T.retry S) []

  -- ---- 01, Search, the order: S upwards

  -- those of w search counters from S on
  unfoldable pub chains_from : ℕ → ℕ → List Chain
  chains_from zero S = []
  chains_from (suc w) S = chains_at S ++ chains_from w (S + 1)

  abbrev pub existing : List Chain
  existing = chains_from T.settings.search_width 0

  -- whether an existing chain passes
  unfoldable pub passing : Chain → Bool
  passing c = cond (length c.places == T.settings.proof_size) (says_yes T.settings.x c.last) false

  -- ---- what is read off the list

  -- 01, Search, K: how many chains exist, none counted behind the first that passes
  abbrev pub K : ℕ
  K = up_to_first passing existing

  -- 01, Search, a try's count: K, or a smaller dfs_bound
  unfoldable pub try_count : ℕ
  try_count = min K T.settings.dfs_bound

  -- 01, Search, a try's find: the first that passes, if K ≤ dfs_bound
  unfoldable pub try_finds : Option Chain
  try_finds = cond (nat_le K T.settings.dfs_bound) (first_of passing existing) none

-- ---- the tries

-- how a search ends: the last retry counter that was tried (0 if none was), the step count, and the chain that was found, if one was
pub record Searched : Type 0 where
  pub made : ℕ
  pub count : ℕ
  pub proof : Option Chain

-- 01, Search: a find ends the tries
unfoldable pub unless_found : Option Chain → ℕ → ℕ → Searched → Searched
unless_found (some c) R count later = record { made = R; count = count; proof = some c }
unless_found none R count later = later

-- w tries after that of the retry counter R, up to which the counts came to `sum`: each try made adds its own
unfoldable pub tries_from : Params → List Element → ℕ → ℕ → ℕ → Searched
tries_from p es zero R sum = record { made = R; count = sum; proof = none }
tries_from p es (suc w) R sum =
    unless_found (try_finds (try_of p es (R + 1))) (R + 1) (sum + try_count (try_of p es (R + 1)))
    (tries_from p es w (R + 1) (sum + try_count (try_of p es (R + 1))))

-- all tries: R from 1 to max_retries
unfoldable pub searched : Params → List Element → Searched
searched p es = tries_from p es p.max_retries 0 0

-- What pooling promises on the way: which of the second list's places are added. No reader need believe this: what the calls answer is in
-- `Pool`.
use Rattle.std.specs.Prelude.{◌≡◌, ℕ, ◌+◌, ◌<◌, ◌≤◌, List, map, length, take, slice_index, Some, None, Result, Ok, Err}
use Rattle.std.specs.Prelude.{Option as Answer}
use Rattle.centralized_telescope.specs.core.Elements.{elements, element_at, Lent, max_elements}
use Rattle.centralized_telescope.specs.core.Refusals.{refusal_number}
use Rattle.centralized_telescope.specs.later.Pool.{added_to, pool, pool_refusal}
use Rattle.centralized_telescope.specs.declared.source.Source.{Source}
use Rattle.centralized_telescope.specs.declared.errors.Refusal.{Refusal}
use Rattle.centralized_telescope.specs.inner.Source.{meant}
use Rattle.centralized_telescope.specs.inner.SourceHeld.{source_held}

-- ---- the first k numbers of ws are the places of the second list that are added, up to one of its places

pub record Adding (first second : Lent) (place k : ℕ) (ws : List ℕ) : Type 0 where
  pub up_to : place ≤ length second.ends
  pub few : length first.ends + k ≤ max_elements
  pub room : max_elements ≡ length ws
  pub are : map (element_at (elements second)) (take k ws) ≡ added_to (elements first) (take place (elements second))
  pub there : (i : ℕ) → i < k → slice_index ws i < length second.ends

-- all of them
pub record AddedAre (first second : Lent) (k : ℕ) (ws : List ℕ) : Type 0 where
  pub few : length first.ends + k ≤ max_elements
  pub room : max_elements ≡ length ws
  pub are : map (element_at (elements second)) (take k ws) ≡ added_to (elements first) (elements second)
  pub there : (i : ℕ) → i < k → slice_index ws i < length second.ends

abbrev pub AddedBy : Lent → Lent → Answer ℕ → List ℕ → Type 0
AddedBy first second (Some k) ws = AddedAre first second k ws
AddedBy first second None ws = max_elements < length (pool first second)

-- ---- the pool, with them

abbrev pub PoolOf : Lent → Lent → Result Source Refusal → Type 0
PoolOf first second (Ok s) = (pool_refusal first second ≡ 0) × (meant (source_held s) ≡ pool first second)
PoolOf first second (Err k) = pool_refusal first second ≡ refusal_number k

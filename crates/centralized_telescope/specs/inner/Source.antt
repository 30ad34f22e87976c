-- What the search reads its elements from, by place: a first lent list, and behind its places those of a second one that are added. For
-- `prove` none is. The search, its promises and its proofs know a source by this file and by SourceLaws alone. Another source changes
-- these and the code's `Source`, which `SourceHeld` ties to this one.
use Rattle.std.specs.Prelude.{◌≡◌, ℕ, ◌<◌, ◌≤◌, List, ◌++◌, map, length, slice_index}
use Rattle.centralized_telescope.specs.core.Elements.{Element, elements, element_at, list_check, Lent}
use Rattle.centralized_telescope.specs.core.Elements.{max_elements}

pub record Source : Type 0 where
  pub first : Lent
  pub second : Lent
  -- places of the second
  pub added : List ℕ

-- ---- what it means, and when it may be read

abbrev pub meant : Source → List Element
meant s = elements s.first ++ map (element_at (elements s.second)) s.added

pub record Readable (s : Source) : Type 0 where
  pub first_accepted : list_check s.first ≡ 0
  pub second_accepted : list_check s.second ≡ 0
  pub few_added : length s.added ≤ max_elements
  pub added_there : (i : ℕ) → i < length s.added → slice_index s.added i < length s.second.ends

-- The settings that arguments ask for.
use Rattle.std.specs.Prelude.{◌≡◌, ℕ, ◌<◌, ◌≤◌, ◌^◌, Float}
use Rattle.centralized_telescope.specs.declared.params.Params.{Params}
use Rattle.centralized_telescope.specs.declared.params.SmallSettings.{SmallSettings}
use Rattle.centralized_telescope.specs.later.SmallCase.{small_case}
use Rattle.arguments.specs.declared.settings.Figures.{Figures}

-- Security figures within the limits that messages name.
pub record AreWithin (f : Figures) : Type 0 where
  pub soundness : f.soundness ≤ 256
  pub some_completeness : 1 ≤ f.completeness
  pub completeness : f.completeness ≤ 1024
  pub some_elements : 2 ≤ f.set_size
  pub set_size : f.set_size ≤ 32768
  pub some_bound : 1 ≤ f.lower_bound
  pub lower_bound : f.lower_bound < f.set_size

-- Settings within the limits that messages name. X has none.
pub record SettingsAreWithin (p : Params) : Type 0 where
  pub some_elements : 1 ≤ p.set_size
  pub set_size : p.set_size ≤ 32768
  pub proof_size : p.proof_size ≤ 1024
  pub max_retries : p.max_retries ≤ 65535
  pub search_width : p.search_width < 2 ^ 32
  pub dfs_bound : p.dfs_bound ≤ 2 ^ 48

-- Settings but for the set size.
abbrev pub small_of : Params → SmallSettings
small_of p = record {
  proof_size = p.proof_size;
  max_retries = p.max_retries;
  search_width = p.search_width;
  dfs_bound = p.dfs_bound;
  x = p.x;
}

-- Settings with the set size n that the small case gives for u and c.
pub record IsSmallCase (n u : ℕ) (c : Float) (p : Params) : Type 0 where
  pub set_size : p.set_size ≡ n
  pub given : small_case u c ≡ (0, small_of p)

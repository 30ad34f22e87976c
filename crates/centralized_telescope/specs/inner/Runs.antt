-- The run that the prover's check hands on.
use Rattle.std.specs.Prelude.{◌≡◌}
use Rattle.centralized_telescope.specs.declared.params.Params.{Params}
use Rattle.centralized_telescope.specs.declared.run.Run.{Run}
use Rattle.centralized_telescope.specs.core.Elements.{Lent}
use Rattle.centralized_telescope.specs.inner.Held.{held}

-- it is of these settings and this list
pub record RunOf (p : Params) (list : Lent) (run : Run) : Type 0 where
  pub settings_are : run.settings.params ≡ p
  pub list_is : held run.list ≡ list

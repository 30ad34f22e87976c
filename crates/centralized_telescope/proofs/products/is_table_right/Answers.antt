-- `is_table_right`: the table made here is the right one, and its first numbers are compared.
use Rattle.centralized_telescope.specs.core.Elements.{elements}
use Rattle.centralized_telescope.specs.inner.Held.{held}
use Rattle.centralized_telescope.specs.inner.SourceHeld.{source_held}
use Rattle.centralized_telescope.proofs.PartyAnswers.{compared_alone}
use Rattle.centralized_telescope.proofs.products.is_table_right.Goals as goal

pub returns : goal.returns
returns c =
    let a = c.args in
    compared_alone (source_held c.of_list.result) (elements (held a.list)) c.of_list.ensures a.n a.retry.0 _ _ c.fill_table.ensures a.table.now _
    c.eq.ensures

-- `try_alone`: the try's end, as the prover answers it.
use Rattle.std.proofs.Common.{◌∙◌}
use Rattle.centralized_telescope.specs.core.Elements.{elements}
use Rattle.centralized_telescope.specs.inner.Held.{held}
use Rattle.centralized_telescope.specs.inner.SourceHeld.{source_held}
use Rattle.centralized_telescope.proofs.PartyAnswers.{right_has, alone_found, alone_missing}
use Rattle.centralized_telescope.proofs.products.try_alone.Goals as goal

pub invariant_of-ready : goal.invariant_of-ready
invariant_of-ready c =
    let a = c.args in
    record {
      has_table =
          right_has a.run.settings.params (source_held c.of_list.result) (elements (held a.run.list)) c.of_list.ensures a.retry.0 a.table.now
          c.requires.1;
    }

pub returns-in-Break : goal.returns-in-Break
returns-in-Break c =
    let a = c.args in
    alone_found a.run.settings.params (source_held c.of_list.result) (elements (held a.run.list)) c.of_list.ensures a.retry a.places.now
    a.table.now _ c.prove_index.result c.prove_index.ensures _ _ c.in-Break.is

pub returns-in-Continue : goal.returns-in-Continue
returns-in-Continue c =
    let a = c.args in
    c.without_proof.ensures c.prove_index.new.places a.table.now
    ∙ alone_missing a.run.settings.params (source_held c.of_list.result) (elements (held a.run.list)) c.of_list.ensures a.retry a.places.now
    a.table.now _ c.prove_index.result c.prove_index.ensures _ c.in-Continue.is

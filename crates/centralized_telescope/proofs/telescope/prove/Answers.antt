-- `prove`: the refusals, then the tries.
use Rattle.std.proofs.Common.{List, sym, ap, ◌∙◌}
use Rattle.centralized_telescope.specs.declared.params.Params.{Params}
use Rattle.centralized_telescope.specs.core.Elements.{Element, elements, Lent}
use Rattle.centralized_telescope.specs.core.LentLists.{lent}
use Rattle.centralized_telescope.specs.core.Prover.{by_search}
use Rattle.centralized_telescope.specs.laws.RefusalsLaws.{handed_on}
use Rattle.centralized_telescope.proofs.ProveAnswers.{run_refused, run_served, run_lawful}
use Rattle.centralized_telescope.proofs.telescope.prove.Goals as goal

pub returns-in_err-run : goal.returns-in_err-run
returns-in_err-run c =
    let a = c.args in
    rw (handed_on _ c.from_residual.result c.from_residual.ensures.1) (sym (run_refused a.p (lent a.list) a.places.now a.table.now _ (sym c.in_err-run.ensures.number)))

pub prove_routine-requires : goal.prove_routine-requires
prove_routine-requires c =
    let a = c.args in
    let S = run_lawful a.p (lent a.list) a.places.now a.table.now (sym c.in_ok-run.ensures.number) in
    rw c.in_ok-run.ensures.run.settings_are (S.places_enough, S.table_enough)

pub returns : goal.returns
returns c =
    let a = c.args in
    let run = c.in_ok-run.ensures.run in
    c.prove_routine.ensures
    ∙ ap (λ (es : List Element). by_search c.in_ok-run.run'.settings.params es a.places.now a.table.now) c.of_list.ensures
    ∙ ap (λ (l : Lent). by_search c.in_ok-run.run'.settings.params (elements l) a.places.now a.table.now) run.list_is
    ∙ ap (λ (p : Params). by_search p (elements (lent a.list)) a.places.now a.table.now) run.settings_are
    ∙ sym (run_served a.p (lent a.list) a.places.now a.table.now (sym c.in_ok-run.ensures.number))

-- `alba_check_distinct`: the number of each answer.
use mathlib.Core.Path.{sym, ap, ◌∙◌}
use Rattle.centralized_telescope.specs.core.Refusals.{refusal_number}
use Rattle.centralized_telescope.specs.laws.RefusalsLaws.{refusal_number_lem}
use Rattle.centralized_telescope.specs.later.Distinct.{distinct_by}
use Rattle.harness_exports.proofs.Answer.{told, not_said, said_so}
use Rattle.harness_exports.proofs.alba_check_distinct.Goals as goal

pub returns-in-Ok : goal.returns-in-Ok
returns-in-Ok c =
    c.from.ensures ∙ said_so c.in-Ok.distinct
    ∙ told _ 0 c.in-Ok.distinct (sym (ap distinct_by c.in-Ok.is) ∙ c.check_distinct.ensures)

pub returns-in-Err : goal.returns-in-Err
returns-in-Err c =
    let k = c.in-Err.k in
    c.refusal_number.ensures ∙ not_said (refusal_number k) _ (refusal_number_lem k)
    ∙ told _ (refusal_number k) _ (sym (ap distinct_by c.in-Err.is) ∙ c.check_distinct.ensures)

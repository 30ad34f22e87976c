-- `verify`: the settings and the list pass, and the proof is judged.
use Rattle.std.proofs.Common.{sym, ap, ◌∙◌}
use Rattle.centralized_telescope.specs.core.Elements.{elements, Lent}
use Rattle.centralized_telescope.specs.core.Verifier.{judged}
use Rattle.centralized_telescope.specs.core.LentLists.{lent}
use Rattle.centralized_telescope.proofs.VerdictAnswers.{left_to_judge}
use Rattle.centralized_telescope.proofs.telescope.verify.Goals as goal

pub returns : goal.returns
returns c =
    let a = c.args in
    let list = c.in_ok-accept.ensures in
    c.judge.ensures
    ∙ ap (λ (l : Lent). judged a.p a.retry_counter.0 a.search_counter.0 (elements l)) list.same
    ∙ left_to_judge a.p a.retry_counter.0 a.search_counter.0 (lent a.list) (sym c.in_ok-check_params.ensures) (sym list.number)

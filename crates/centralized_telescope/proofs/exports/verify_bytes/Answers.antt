-- `verify_bytes`: the settings and the list pass, and the proof is judged.
use Rattle.std.proofs.Common.{sym, ap, ◌∙◌}
use Rattle.centralized_telescope.specs.core.Elements.{elements, Lent}
use Rattle.centralized_telescope.specs.core.Verifier.{judged}
use Rattle.centralized_telescope.specs.core.Exports.{numbered}
use Rattle.centralized_telescope.specs.inner.BytesHeld.{bytes_held}
use Rattle.centralized_telescope.proofs.ExportAnswers.{bytes_left_to_judge}
use Rattle.centralized_telescope.proofs.exports.verify_bytes.Goals as goal

pub returns : goal.returns
returns c =
    let a = c.args in
    let list = c.in_ok-accept_bytes.ensures in
    c.judge.ensures
    ∙ ap (λ (l : Lent). judged a.p a.retry.0 a.search.0 (elements (numbered l))) list.same
    ∙ bytes_left_to_judge a.p a.retry.0 a.search.0 (bytes_held a.list) (sym c.in_ok-check_params.ensures) (sym list.number)

-- `prepare`: the refusals, then the digest.
use Rattle.std.proofs.Common.{ℕ, List, length, sym, ap, ◌∙◌}
use Rattle.centralized_telescope.specs.core.LentLists.{lent}
use Rattle.centralized_telescope.specs.laws.RefusalsLaws.{handed_on}
use Rattle.centralized_telescope.proofs.PrepareAnswers.{prepare_refused, prepare_served, digest_of}
use Rattle.centralized_telescope.proofs.preparing.prepare.Goals as goal

pub returns-in_err-check_run : goal.returns-in_err-check_run
returns-in_err-check_run c =
    let a = c.args in
    rw (handed_on _ c.from_residual.result c.from_residual.ensures.1)
    (sym (prepare_refused a.p (lent a.list) (length a.places.now) (length a.table.now) _ (sym c.in_err-check_run.ensures.number)))

pub returns : goal.returns
returns c =
    let a = c.args in
    ap (λ (digest : List ℕ). (0, digest)) (c.run_digest.ensures ∙ digest_of a.p (lent a.list) c.in_ok-check_run.field-0 c.in_ok-check_run.ensures.run)
    ∙ sym (prepare_served a.p (lent a.list) (length a.places.now) (length a.table.now) (sym c.in_ok-check_run.ensures.number))

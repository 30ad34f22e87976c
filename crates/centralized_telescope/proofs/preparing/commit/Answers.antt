-- `commit`: the refusals, then 46 for another digest, then the prover.
use Rattle.std.proofs.Common.{sym, ap, ◌∙◌}
use Rattle.std.proofs.lemmas.Bool.{not-true, not-false}
use Rattle.centralized_telescope.specs.core.LentLists.{lent}
use Rattle.centralized_telescope.specs.later.Words.{same_bytes}
use Rattle.centralized_telescope.specs.laws.RefusalsLaws.{handed_on}
use Rattle.centralized_telescope.proofs.PrepareAnswers.{commit_refused, commit_changed, commit_served, digest_of}
use Rattle.centralized_telescope.proofs.preparing.commit.Goals as goal

pub returns-in_err-run : goal.returns-in_err-run
returns-in_err-run c =
    let a = c.args in
    rw (handed_on _ c.from_residual.result c.from_residual.ensures.1)
    (sym (commit_refused a.p a.digest (lent a.list) a.places.now a.table.now _ (sym c.in_err-run.ensures.number)))

pub returns-then-ne : goal.returns-then-ne
returns-then-ne c =
    let a = c.args in
    let digest = c.run_digest.ensures ∙ digest_of a.p (lent a.list) c.in_ok-run.run' c.in_ok-run.ensures.run in
    sym (commit_changed a.p a.digest (lent a.list) a.places.now a.table.now (sym c.in_ok-run.ensures.number)
    (sym (ap (same_bytes a.digest) digest) ∙ not-true _ (sym c.ne.ensures ∙ c.if-ne.true)))

pub returns : goal.returns
returns c =
    let a = c.args in
    let digest = c.run_digest.ensures ∙ digest_of a.p (lent a.list) c.in_ok-run.run' c.in_ok-run.ensures.run in
    c.prove.ensures
    ∙ sym (commit_served a.p a.digest (lent a.list) a.places.now a.table.now (sym c.in_ok-run.ensures.number)
    (sym (ap (same_bytes a.digest) digest) ∙ not-false _ (sym c.ne.ensures ∙ c.if-ne.false)))

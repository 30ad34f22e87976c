-- `alba_commit`: refused by the digest's length, or the answer of `commit` in numbers.
use mathlib.Core.Path.{◌∙◌}
use Rattle.harness_exports.proofs.ProverNumbers.{exported_so}
use Rattle.harness_exports.proofs.PrepareNumbers.{not_32_handed, handed}
use Rattle.harness_exports.proofs.alba_commit.Goals as goal

pub returns-then-digest-ne32 : goal.returns-then-digest-ne32
returns-then-digest-ne32 c =
    let a = c.args in
    not_32_handed _ a.digest.now _ a.places.now a.table.now a.out.now c.if-digest-ne32.true

pub returns : goal.returns
returns c =
    let a = c.args in
    exported_so _ a.out.now c.commit-answer.result _ _ _ _ c.commit-answer.ensures c.put_search.ensures.number c.put_search.ensures.put
    ∙ handed _ a.digest.now _ a.places.now a.table.now a.out.now c.settings_of-p.result
    c.settings_of-p.ensures c.if-digest-ne32.false _ c.copy_from_slice.ensures.after

-- `alba_count_chains`: refused by the length lent, or the answer of `count_chains` in numbers.
use Rattle.harness_exports.proofs.ChainNumbers.{not_one_lent, exported_counted}
use Rattle.harness_exports.proofs.alba_count_chains.Goals as goal

pub returns-then-out-ne1 : goal.returns-then-out-ne1
returns-then-out-ne1 c =
    let a = c.args in
    not_one_lent _ a.retry a.search _ a.bins.now a.counts.now a.out.now c.if-out-ne1.true

pub returns : goal.returns
returns c =
    let a = c.args in
    exported_counted _ a.retry a.search _ a.bins.now a.counts.now a.out.now c.if-out-ne1.false _ c.settings_of-p.ensures
    c.count_chains-answer.result _ _ _ _ c.count_chains-answer.ensures c.put_size.ensures.number c.put_size.ensures.put

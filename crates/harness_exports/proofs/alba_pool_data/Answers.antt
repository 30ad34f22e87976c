-- `alba_pool_data`: the part that `pool_data` hands back, copied, or none where it is longer than what is lent.
use Rattle.harness_exports.proofs.PoolNumbers.{part_short, part_written}
use Rattle.harness_exports.proofs.alba_pool_data.Goals as goal

pub returns-then-part-own : goal.returns-then-part-own
returns-then-part-own c =
    let a = c.args in
    part_short _ _ a.place a.part.now a.out.now _ c.pool_data-own.ensures c.if-part-own.true

pub returns : goal.returns
returns c =
    let a = c.args in
    part_written _ _ a.place a.part.now a.out.now _ c.pool_data-own.ensures c.if-part-own.false _ _
    c.copy_from_slice.ensures.after c.put.ensures

-- `alba_pool_size`: the answer of `pool_size` in numbers.
use Rattle.std.proofs.Common.{◌≡◌, rules, tests}
use Rattle.harness_exports.proofs.PoolNumbers.{exported_size}
use Rattle.harness_exports.proofs.alba_pool_size.Goals as goal

-- the size is the same number as a `u64`
same : (c : goal.After-slice_known-2-1) → c.map.result ≡ c.pool_size-answer.result
same c = search (rules, tests)

pub returns : goal.returns
returns c =
    exported_size _ _ c.args.out.now c.map.result _ _ (rw (same c) c.pool_size-answer.ensures)
    c.put_size.ensures.number c.put_size.ensures.put

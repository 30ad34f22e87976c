-- `pool_size`: the pool's refusals, or how many elements it has.
use Rattle.std.proofs.Common.{ap, length, ◌∙◌, rules}
use Rattle.centralized_telescope.specs.core.LentLists.{lent}
use Rattle.centralized_telescope.proofs.PoolAnswers.{size_refused, size_served}
use Rattle.centralized_telescope.proofs.pool.pool_size.Goals as goal

pub returns-in_err-pool_of : goal.returns-in_err-pool_of
returns-in_err-pool_of c =
    let a = c.args in
    search (rules, size_refused (lent a.list) (lent a.list2) c.in_err-pool_of.field-0.0 c.in_err-pool_of.ensures)

pub returns : goal.returns
returns c =
    let a = c.args in
    let made = c.in_ok-pool_of.ensures in
    size_served (lent a.list) (lent a.list2) c.len.result made.0 (c.len.ensures.exact ∙ ap length made.1)

-- `pool_of`: each list's refusal, then the pool's, in the table's order.
use Rattle.std.proofs.Common.{sym, ap, ◌∙◌, rules}
use Rattle.centralized_telescope.specs.core.Elements.{Lent}
use Rattle.centralized_telescope.specs.later.Pool.{pool}
use Rattle.centralized_telescope.specs.core.LentLists.{lent}
use Rattle.centralized_telescope.specs.inner.Held.{held}
use Rattle.centralized_telescope.proofs.PoolAnswers.{first_met, second_list_met, over_met, all_found, pool_made}
use Rattle.centralized_telescope.proofs.pool.pool_of.Goals as goal

pub returns-in_err-first : goal.returns-in_err-first
returns-in_err-first c =
    let a = c.args in
    search (rules, first_met (lent a.list) (lent a.list2) c.in_err-first.field-0.0 (sym c.in_err-first.ensures.number))

pub returns-in_err-second : goal.returns-in_err-second
returns-in_err-second c =
    let a = c.args in
    search (
      rules,
      second_list_met (lent a.list) (lent a.list2) (sym c.in_ok-first.ensures.number) c.in_err-second.field-0.0
          (sym c.in_err-second.ensures.number),
    )

pub returns-in_err-count : goal.returns-in_err-count
returns-in_err-count c =
    let a = c.args in
    let first = c.in_ok-first.ensures in
    let second = c.in_ok-second.ensures in
    search (
      rules,
      over_met (lent a.list) (lent a.list2) (sym first.number) (sym second.number) c.find_added.result c.find_added.new.added
          c.in_err-count.field-0.0 (rw (first.same, second.same) at c.find_added.ensures) (sym c.ok_or.ensures.value ∙ c.in_err-count.was),
    )

pub returns : goal.returns
returns c =
    let first = c.in_ok-first.first in
    let second = c.in_ok-second.second in
    let same = c.in_ok-first.ensures.same in
    let same2 = c.in_ok-second.ensures.same in
    let added =
    all_found (held first) (held second) first.accepted second.accepted c.find_added.result c.find_added.new.added c.in_ok-count.count
    c.find_added.ensures (sym c.ok_or.ensures.value ∙ c.in_ok-count.was) in
    let made = pool_made (held first) (held second) first.accepted second.accepted c.in_ok-count.count c.find_added.new.added added in (
      rw (same, same2) at made.0,
      made.1 ∙ ap (λ (l : Lent). pool l (held second)) same ∙ ap (λ (l : Lent). pool (lent c.args.list) l) same2,
    )

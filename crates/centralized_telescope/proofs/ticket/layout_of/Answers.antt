-- `layout_of`: an element more is passed, or one that isn't there ends the search.
use Rattle.std.proofs.Common.{arith, rules}
use Rattle.centralized_telescope.proofs.TicketReading.{one_passed, outside_passed, all_passed}
use Rattle.centralized_telescope.proofs.ticket.layout_of.Goals as goal

pub returns-in_err-head : goal.returns-in_err-head
returns-in_err-head c =
    rw c.from_residual.ensures (outside_passed _ _ _ _ _ c.loop.invariant (search rules) c.in_err-head.ensures)

pub overflow_add-end : goal.overflow_add-end
overflow_add-end c =
    let p = one_passed _ _ _ _ _ c.loop.invariant (search rules) _ c.in_ok-head.ensures in
    omega (arith, p.within)

pub overflow_add-end-in-loop : goal.overflow_add-end-in-loop
overflow_add-end-in-loop c =
    let p = one_passed _ _ _ _ _ c.loop.invariant (search rules) _ c.in_ok-head.ensures in
    omega (arith, p.within)

pub overflow_add-bytes : goal.overflow_add-bytes
overflow_add-bytes c =
    let p = one_passed _ _ _ _ _ c.loop.invariant (search rules) _ c.in_ok-head.ensures in
    omega (arith, p.small)

pub loop-preserved : goal.loop-preserved
loop-preserved c = one_passed _ _ _ _ _ c.loop.invariant (search rules) _ c.in_ok-head.ensures

pub returns : goal.returns
returns c = all_passed _ _ _ _ _ c.loop.invariant (omega arith)

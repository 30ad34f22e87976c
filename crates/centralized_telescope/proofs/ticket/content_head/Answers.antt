-- `content_head`: three numbers, each written into its part of the array.
use Rattle.std.proofs.Common.{arith}
use Rattle.centralized_telescope.proofs.TicketWriting.{both_length, head_made}
use Rattle.centralized_telescope.proofs.ticket.content_head.Goals as goal

pub slice_bounds-head-end-3 : goal.slice_bounds-head-end-3
slice_bounds-head-end-3 c =
    let z = c.args in
    omega (arith, both_length z.retry.0 z.search.0 z.count _ _ c.write_number.ensures c.write_number-2.ensures)

pub returns : goal.returns
returns c =
    let m = c in
    let w = m in
    let z = w.args in
    head_made z.retry.0 z.search.0 z.count _ _ w.write_number.ensures m.write_number-2.ensures _
    c.write_number-3.ensures

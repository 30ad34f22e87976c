-- `alba_write_ticket`: the answer of `write_ticket` in numbers.
use Rattle.std.proofs.Common.{◌≡◌, rules, tests}
use Rattle.harness_exports.proofs.TicketNumbers.{exported_written}
use Rattle.harness_exports.proofs.alba_write_ticket.Goals as goal

-- the number of blocks is the same number as a `u64`
same : (c : goal.After-slice_known-4-1) → c.map.result ≡ c.write_ticket-answer.result
same c = search (rules, tests)

pub returns : goal.returns
returns c =
    exported_written c.args.retry c.args.search _ _ c.args.out.now c.map.result _ _ _ (rw (same c) c.write_ticket-answer.ensures)
    c.put_size.ensures.number c.put_size.ensures.put

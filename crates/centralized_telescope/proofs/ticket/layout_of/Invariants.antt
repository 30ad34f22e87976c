-- `layout_of`: the first elements are passed, they end at an offset, and they have so many data bytes.
use Rattle.centralized_telescope.proofs.TicketReading.{Passed}
use Rattle.centralized_telescope.proofs.ticket.layout_of.Given as goal

abbrev pub invariant-loop : goal.invariant-loop
invariant-loop l = Passed l.ticket l.count l.counter l.end l.bytes

-- `read_elements`: the first i elements are passed and written, and the rest stand at the offset.
use Rattle.std.proofs.Common.{◌≡◌, take}
use Rattle.centralized_telescope.specs.later.ProofList.{list_over, with_buffers}
use Rattle.centralized_telescope.specs.later.Buffers.{buffers_held, SameBuffers}
use Rattle.centralized_telescope.proofs.TicketReading.{Passed, elements_of, Rest}
use Rattle.centralized_telescope.proofs.ticket.read_elements.Given as goal

abbrev pub invariant-loop-i : goal.invariant-loop-i
invariant-loop-i l =
    Passed l.ticket l.count l.i l.at l.used
    × Rest l.ticket l.count l.i l.at
    × SameBuffers l.initial.out l.out
    × (with_buffers 0 l.used (buffers_held l.out) ≡ list_over (take l.i (elements_of l.ticket l.count)) (buffers_held l.initial.out))

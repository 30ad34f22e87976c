-- `is_filling_right`: what follows the offset is copied to the front of an array, and looked at there.
use Rattle.std.proofs.Common.{◌-◌, not, drop, ap, ◌∙◌, arith}
use Rattle.centralized_telescope.specs.later.Blocks.{bodies_of}
use Rattle.centralized_telescope.proofs.TicketReading.{left_of_bodies, filling_long, filling_copied}
use Rattle.centralized_telescope.proofs.ticket.is_filling_right.Goals as goal

pub returns-then-len-gt-MAX_FILLING : goal.returns-then-len-gt-MAX_FILLING
returns-then-len-gt-MAX_FILLING c =
    let z = c.args in
    filling_long (drop z.end (bodies_of z.ticket.now)) (omega (arith, left_of_bodies z.ticket.now z.end))

pub returns : goal.returns
returns c =
    let z = c.args in
    let l = left_of_bodies z.ticket.now z.end in
    let n = c.bodies_size.result - z.end in
    ap not c.some_over_zero.ensures
    ∙ filling_copied n (drop z.end (bodies_of z.ticket.now)) _ _ (omega arith) (omega arith)
    c.copy_from_bodies.ensures

-- `alba_read_ticket`: the answer of `read_ticket` in numbers.
use Rattle.std.proofs.Common.{refl, sym, ap, ◌∙◌, rules}
use Rattle.std.specs.Prelude.{Ok, Err, Result}
use Rattle.centralized_telescope.specs.declared.errors.Refusal.{Refusal}
use Rattle.centralized_telescope.specs.declared.ticket.TicketProof.{TicketProof}
use Rattle.centralized_telescope.specs.core.Elements.{lent_of}
use Rattle.centralized_telescope.specs.later.Buffers.{buffers_held}
use Rattle.centralized_telescope.specs.later.Tickets.{ticket_read_by}
use Rattle.harness_exports.proofs.TicketNumbers.{exported_read}
use Rattle.harness_exports.proofs.alba_read_ticket.Goals as goal

pub returns-in-Ok : goal.returns-in-Ok
returns-in-Ok c =
    let a = c.args in
    let last = buffers_held c.read_ticket.new.out in
    exported_read a.«ticket».now (lent_of a.«data».now a.ends.now a.marks.now a.indexes.now) a.out.now
    (ticket_read_by (Ok c.in-Ok.proof) last) _ _ _
    (sym (ap (λ (r : Result TicketProof Refusal). ticket_read_by r last) c.in-Ok.is) ∙ c.read_ticket.ensures.read)
    refl (search rules) c.put.ensures

pub returns-in-Err : goal.returns-in-Err
returns-in-Err c =
    let a = c.args in
    let last = buffers_held c.read_ticket.new.out in
    exported_read a.«ticket».now (lent_of a.«data».now a.ends.now a.marks.now a.indexes.now) a.out.now
    (ticket_read_by (Err c.in-Err.k) last) _ _ _
    (sym (ap (λ (r : Result TicketProof Refusal). ticket_read_by r last) c.in-Err.is) ∙ c.read_ticket.ensures.read)
    c.refusal_number.ensures (search rules)
    c.put-in-Err.ensures

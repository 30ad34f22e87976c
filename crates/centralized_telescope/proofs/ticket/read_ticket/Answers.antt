-- `read_ticket`: the refusals in their order, and the elements written.
use Rattle.std.proofs.Common.{◌≡◌, sym, subst, arith}
use Rattle.std.specs.Prelude.{Option, None, Some}
use Rattle.std.proofs.lemmas.Result.{err_from_is_err_and}
use Rattle.centralized_telescope.specs.declared.errors.Refusal.TheVariants.{NoTicket}
use Rattle.centralized_telescope.specs.declared.ticket.Found.{Found}
use Rattle.centralized_telescope.specs.later.Buffers.{buffers_held}
use Rattle.centralized_telescope.specs.inner.TicketReading.{FoundSays}
use Rattle.centralized_telescope.proofs.TicketAnswers.{read_damaged, no_ticket, room_short, read_done}
use Rattle.centralized_telescope.proofs.ticket.read_ticket.Goals as goal

pub returns-then-is_damaged-clause-read : goal.returns-then-is_damaged-clause-read
returns-then-is_damaged-clause-read c = read_damaged c.args.ticket.now (buffers_held c.args.out.now) (sym c.if-is_damaged.ensures)

pub returns-in_err-found-clause-read : goal.returns-in_err-found-clause-read
returns-in_err-found-clause-read c =
    let t = c.args.ticket.now in
    let none : c.find_elements.result ≡ None = grind arith in
    let says = subst (λ (f : Option Found). FoundSays f t) none c.find_elements.ensures in
    let p = err_from_is_err_and c.from_residual.result c.from_residual.ensures.1 in
    let k : c.in_err-found.field-0.0 ≡ NoTicket = grind arith in
    rw (p.1, p.2, k) (no_ticket t (buffers_held c.args.out.now) (sym c.if-is_damaged.ensures) says)

pub returns-then-is_short-clause-read : goal.returns-then-is_short-clause-read
returns-then-is_short-clause-read c =
    let t = c.args.ticket.now in
    let some : c.find_elements.result ≡ Some c.in_ok-found.found = grind arith in
    let says = subst (λ (f : Option Found). FoundSays f t) some c.find_elements.ensures in
    room_short t (buffers_held c.args.out.now) (sym c.if-is_damaged.ensures) _ _ says _ c.is_short.ensures c.if-is_short.true

pub returns-clause-read : goal.returns-clause-read
returns-clause-read c =
    let t = c.args.ticket.now in
    let some : c.find_elements.result ≡ Some c.in_ok-found.found = grind arith in
    let says = subst (λ (f : Option Found). FoundSays f t) some c.find_elements.ensures in
    read_done t (buffers_held c.args.out.now) (sym c.if-is_damaged.ensures) _ _ says _ _ _ _ _ c.is_short.ensures c.if-is_short.false
    c.field.ensures.0 c.field-2.ensures.0 c.read_elements-bytes.ensures.read

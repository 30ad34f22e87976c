-- `write_ticket`: the refusals in their order; else the content, its filling, and the blocks made of them.
use Rattle.std.proofs.Common.{◌+◌, sym, ap, ◌∙◌, arith, rules}
use Rattle.std.proofs.lemmas.Result.{err_from_is_err_and}
use Rattle.centralized_telescope.specs.core.Elements.{Lent, elements}
use Rattle.centralized_telescope.specs.core.LentLists.{lent}
use Rattle.centralized_telescope.specs.inner.Held.{held}
use Rattle.centralized_telescope.specs.later.Blocks.{block_count}
use Rattle.centralized_telescope.specs.later.Tickets.{ticket_head_bytes, ticket_written}
use Rattle.centralized_telescope.specs.laws.ElementsLaws.{few_elements}
use Rattle.centralized_telescope.specs.laws.TicketsReadLaws.{content_length}
use Rattle.centralized_telescope.proofs.TicketAnswers.{write_refused, write_short, write_done}
use Rattle.centralized_telescope.proofs.ticket.write_ticket.Goals as goal

pub returns-in_err-accepted : goal.returns-in_err-accepted
returns-in_err-accepted c =
    let z = c.args in
    let p = err_from_is_err_and c.from_residual.result c.from_residual.ensures.1 in
    let refused = write_refused z.retry_counter.0 z.search_counter.0 (lent z.list) z.ticket.now in
    rw (p.1, p.2) (refused c.in_err-accepted.field-0.0 (sym c.in_err-accepted.ensures.number))

pub overflow_add-size : goal.overflow_add-size
overflow_add-size c = omega (arith, c.elements_size-size.ensures.1, few_elements _ c.in_ok-accepted.accepted.accepted)

pub overflow_add-count : goal.overflow_add-count
overflow_add-count c = omega (arith, c.elements_size-size.ensures.1, few_elements _ c.in_ok-accepted.accepted.accepted)

pub overflow_mul-count : goal.overflow_mul-count
overflow_mul-count c = omega (arith, c.elements_size-size.ensures.1, few_elements _ c.in_ok-accepted.accepted.accepted)

pub returns-then-ticket-count : goal.returns-then-ticket-count
returns-then-ticket-count c =
    let z = c.args in
    let list = c.in_ok-accepted.accepted in
    let long = content_length z.retry_counter.0 z.search_counter.0 (elements (held list)) in
    write_short z.retry_counter.0 z.search_counter.0 (held list) z.ticket.now list.accepted _
    (omega (arith, c.elements_size-size.ensures.0, long)) c.if-ticket-count.true
    ∙ ap (λ (l : Lent). ticket_written z.retry_counter.0 z.search_counter.0 l z.ticket.now) c.in_ok-accepted.ensures.same

pub write_content-requires : goal.write_content-requires
write_content-requires c =
    let z = c.args in
    let long = content_length z.retry_counter.0 z.search_counter.0 (elements (held c.in_ok-accepted.accepted)) in (
      ap (λ k. block_count (ticket_head_bytes + k)) c.elements_size-size.ensures.0,
      omega (arith, c.elements_size-size.ensures.0, long, c.if-ticket-count.false),
    )

pub returns : goal.returns
returns c =
    let z = c.args in
    let list = c.in_ok-accepted.accepted in
    let long = content_length z.retry_counter.0 z.search_counter.0 (elements (held list)) in
    let zeros = c.fill.ensures.after (λ y e. search rules) in
    write_done z.retry_counter.0 z.search_counter.0 (held list) z.ticket.now list.accepted _
    (omega (arith, c.elements_size-size.ensures.0, long)) c.if-ticket-count.false _ _ c.write_content.ensures zeros _ c.seal.ensures
    ∙ ap (λ (l : Lent). ticket_written z.retry_counter.0 z.search_counter.0 l z.ticket.now) c.in_ok-accepted.ensures.same

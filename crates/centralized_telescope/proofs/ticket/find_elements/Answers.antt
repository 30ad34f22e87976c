-- `find_elements`: whatever a test finds wrong, the blocks are no ticket; what passes all of them is one.
use Rattle.std.proofs.Common.{ℕ, length, drop, sym, ap, ◌∙◌, arith, eqb-true}
use Rattle.std.proofs.lemmas.Bool.{eqb-false}
use Rattle.centralized_telescope.specs.later.Blocks.{bodies_of}
use Rattle.centralized_telescope.specs.later.Tickets.{elements_part, ticket_head_bytes}
use Rattle.centralized_telescope.specs.inner.TicketReading.{filling_right}
use Rattle.centralized_telescope.specs.laws.BlocksLaws.{undamaged}
use Rattle.centralized_telescope.specs.laws.TicketsLaws.{layout_within}
use Rattle.centralized_telescope.specs.laws.TicketsReadLaws.{ticket_found, ticket_empty, ticket_miscounted, ticket_many}
use Rattle.centralized_telescope.specs.laws.TicketsReadLaws.{ticket_outside, ticket_filling}
use Rattle.centralized_telescope.proofs.TicketReading.{left_of_bodies}
use Rattle.centralized_telescope.proofs.ticket.find_elements.Goals as goal
use Rattle.centralized_telescope.proofs.ticket.find_elements.Goals.{then-is_empty-via-then-is_empty, then-is_empty-via-else-is_empty+then-stated_blocks-ticket}

pub returns-then-is_empty : goal.returns-then-is_empty
returns-then-is_empty c =
    let t = c.args.ticket.now in
    elim c.then-is_empty.branch [
      | then-is_empty-via-then-is_empty w ↦ ticket_empty t (eqb-true (length t) 0 (sym w.if-is_empty.ensures))
      | then-is_empty-via-else-is_empty+then-stated_blocks-ticket w ↦
          ticket_miscounted t (λ e. omega (arith, w.if-stated_blocks-ticket.true, w.stated_blocks.ensures, e))
    ]

pub field-elements-requires : goal.field-elements-requires
field-elements-requires c =
    let t = c.args.ticket.now in
    let some = eqb-false (length t) 0 (sym c.if-is_empty.ensures) in
    (omega (arith, (undamaged t c.requires).size, some), omega arith)

pub returns-then-elements-gt-MAX_ELEMENTS : goal.returns-then-elements-gt-MAX_ELEMENTS
returns-then-elements-gt-MAX_ELEMENTS c =
    ticket_many c.args.ticket.now (omega (arith, c.field-elements.ensures.0, c.if-elements-gt-MAX_ELEMENTS.true))

pub layout_of-requires : goal.layout_of-requires
layout_of-requires c =
    let t = c.args.ticket.now in
    let some = eqb-false (length t) 0 (sym c.if-is_empty.ensures) in
    (omega (arith, (undamaged t c.requires).size, some), c.if-elements-gt-MAX_ELEMENTS.false)

pub returns-in_err-layout : goal.returns-in_err-layout
returns-in_err-layout c =
    let t = c.args.ticket.now in
    rw c.from_residual.ensures
    (ticket_outside t (λ i. omega (arith, c.type_inv.ticket i)) (rw c.field-elements.ensures.0 at c.in_err-layout.ensures))

pub is_filling_right-requires : goal.is_filling_right-requires
is_filling_right-requires c =
    let t = c.args.ticket.now in
    let some = eqb-false (length t) 0 (sym c.if-is_empty.ensures) in
    let l = c.in_ok-layout.ensures in
    omega (
      arith,
      l.ends_at,
      layout_within c.field-elements.result (elements_part (bodies_of t)) l.laid,
      left_of_bodies t ticket_head_bytes,
      (undamaged t c.requires).size,
      some,
    )

pub returns-then-not-is_filling_right : goal.returns-then-not-is_filling_right
returns-then-not-is_filling_right c =
    let t = c.args.ticket.now in
    let l = rw c.field-elements.ensures.0 at c.in_ok-layout.ensures in
    ticket_filling t (λ i. omega (arith, c.type_inv.ticket i))
    (sym (c.if-not-is_filling_right.ensures ∙ ap (λ (k : ℕ). filling_right (drop k (bodies_of t))) l.ends_at))

pub returns : goal.returns
returns c =
    let t = c.args.ticket.now in
    let some = eqb-false (length t) 0 (sym c.if-is_empty.ensures) in
    let l = rw c.field-elements.ensures.0 at c.in_ok-layout.ensures in
    record {
      some_block = omega (arith, (undamaged t c.requires).size, some);
      is =
          ticket_found t (λ i. omega (arith, c.type_inv.ticket i)) c.requires some
          (sym c.stated_blocks.ensures ∙ c.if-stated_blocks-ticket.false)
          (omega (arith, c.field-elements.ensures.0, c.if-elements-gt-MAX_ELEMENTS.false)) l.laid
          (sym (c.if-not-is_filling_right.ensures ∙ ap (λ (k : ℕ). filling_right (drop k (bodies_of t))) l.ends_at));
      counted = c.field-elements.ensures.0;
      few = c.if-elements-gt-MAX_ELEMENTS.false;
      laid = c.in_ok-layout.ensures.laid;
      uses = c.in_ok-layout.ensures.uses;
    }

-- `head_at`: what is read at an offset is what stands there, and each return passes on one test of the layout.
use Rattle.std.proofs.Common.{drop, arith, ◌∙◌}
use Rattle.centralized_telescope.specs.later.Blocks.{bodies_of}
use Rattle.centralized_telescope.proofs.TicketReading.{left_of_bodies, laid, outside, head_copied}
use Rattle.centralized_telescope.proofs.ticket.head_at.Goals as goal
use Rattle.centralized_telescope.proofs.ticket.head_at.Goals.{then-size-gt-MAX_DATA_BYTES-via-then-size-gt-MAX_DATA_BYTES, then-size-gt-MAX_DATA_BYTES-via-else-size-gt-MAX_DATA_BYTES+then-left-len-2}

pub returns-then-left-lt5 : goal.returns-then-left-lt5
returns-then-left-lt5 c =
    let t = c.args.ticket.now in
    outside (drop c.args.at (bodies_of t)) (λ f. omega (arith, f.within, left_of_bodies t c.args.at))

pub returns-then-mark-gt1 : goal.returns-then-mark-gt1
returns-then-mark-gt1 c =
    let t = c.args.ticket.now in
    let s = drop c.args.at (bodies_of t) in
    let l = left_of_bodies t c.args.at in
    let h = head_copied s _ _ c.min.result (omega (arith, l)) c.copy_from_bodies.ensures (omega (arith, l)) in
    outside s (λ f. omega (arith, f.marked, h.mark))

pub returns-then-left-len : goal.returns-then-left-len
returns-then-left-len c =
    let t = c.args.ticket.now in
    let s = drop c.args.at (bodies_of t) in
    let l = left_of_bodies t c.args.at in
    let h = head_copied s _ _ c.min.result (omega (arith, l)) c.copy_from_bodies.ensures (omega (arith, l)) in
    outside s (λ f. omega (arith, f.within, h.mark, l))

pub returns-then-size-gt-MAX_DATA_BYTES : goal.returns-then-size-gt-MAX_DATA_BYTES
returns-then-size-gt-MAX_DATA_BYTES c =
    let t = c.args.ticket.now in
    let s = drop c.args.at (bodies_of t) in
    let l = left_of_bodies t c.args.at in
    let h = head_copied s _ _ c.min.result (omega (arith, l)) c.copy_from_bodies.ensures (omega (arith, l)) in
    let size = c.number-size.ensures.0 ∙ h.size (omega (arith, l, h.mark)) (omega (arith, h.mark)) in
    elim c.then-size-gt-MAX_DATA_BYTES.branch [
      | then-size-gt-MAX_DATA_BYTES-via-then-size-gt-MAX_DATA_BYTES w ↦
          outside s (λ f. omega (arith, f.short, size, w.if-size-gt-MAX_DATA_BYTES.true))
      | then-size-gt-MAX_DATA_BYTES-via-else-size-gt-MAX_DATA_BYTES+then-left-len-2 w ↦
          outside s (λ f. omega (arith, f.within, size, h.mark, l, w.if-left-len-2.true))
    ]

pub returns : goal.returns
returns c =
    let t = c.args.ticket.now in
    let s = drop c.args.at (bodies_of t) in
    let l = left_of_bodies t c.args.at in
    let h = head_copied s _ _ c.min.result (omega (arith, l)) c.copy_from_bodies.ensures (omega (arith, l)) in
    let size = c.number-size.ensures.0 ∙ h.size (omega (arith, l, h.mark)) (omega (arith, h.mark)) in
    record {
      laid = laid s (omega (arith, h.mark)) (omega (arith, size)) (omega (arith, l, h.mark, size));
      «index» = c.index_of.ensures ∙ rw c.number.ensures.0 (h.«index» (omega (arith, l, h.mark)) (omega (arith, h.mark)));
      len = omega (arith, h.mark);
      size = size;
    }

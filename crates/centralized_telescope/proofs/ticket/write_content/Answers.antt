-- `write_content`: the number of blocks, the head behind it, then the elements.
use Rattle.std.proofs.Common.{length, sym, ap, ◌∙◌, arith, length-take-le}
use Rattle.sampling.specs.core.BigEndian.{bytes_of}
use Rattle.centralized_telescope.specs.core.Elements.{elements}
use Rattle.centralized_telescope.specs.inner.Held.{held}
use Rattle.centralized_telescope.specs.laws.ElementsLaws.{length_elements}
use Rattle.centralized_telescope.specs.laws.TicketsReadLaws.{content_length}
use Rattle.centralized_telescope.proofs.TicketWriting.{length_head_of, content_put}
use Rattle.centralized_telescope.proofs.ticket.write_content.Goals as goal

pub slice_bounds-write_number-end : goal.slice_bounds-write_number-end
slice_bounds-write_number-end c =
    let z = c.args in
    omega (arith, c.requires.1, content_length z.proof.retry.0 z.proof.search.0 (elements (held z.proof.list)))

pub slice_bounds-write_number-end-2 : goal.slice_bounds-write_number-end-2
slice_bounds-write_number-end-2 c =
    let z = c.args in
    sym (length-take-le 4 z.out.now (omega (arith, c.requires.1, content_length z.proof.retry.0 z.proof.search.0 (elements (held z.proof.list)))))

pub copy_at-requires : goal.copy_at-requires
copy_at-requires c =
    let z = c.args in
    omega (
      arith,
      c.requires.1,
      ap length c.content_head-head.ensures ∙ length_head_of z.proof.retry.0 z.proof.search.0 c.len.result,
      content_length z.proof.retry.0 z.proof.search.0 (elements (held z.proof.list)),
    )

pub write_elements_bytes-requires : goal.write_elements_bytes-requires
write_elements_bytes-requires c =
    let z = c.args in
    omega (
      arith,
      c.requires.1,
      c.copy_at.auto.out,
      content_length z.proof.retry.0 z.proof.search.0 (elements (held z.proof.list)),
    )

pub returns : goal.returns
returns c =
    let z = c.args in
    let es = elements (held z.proof.list) in
    let room = length-take-le 4 z.out.now (omega (arith, c.requires.1, content_length z.proof.retry.0 z.proof.search.0 es)) in
    -- four bytes are written
    let stated = c.write_number.ensures ∙ ap (λ k. bytes_of k z.count) room in
    content_put z.count z.proof.retry.0 z.proof.search.0 _ es c.requires.0 (length_elements _ z.proof.list.accepted ∙ sym c.len.ensures) z.out.now _ _ _ _ stated
    c.content_head-head.ensures c.copy_at.ensures c.write_elements_bytes.ensures

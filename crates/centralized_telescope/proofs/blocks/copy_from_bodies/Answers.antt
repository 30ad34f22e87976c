-- `copy_from_bodies`: `done` bytes of the part are copied. A turn copies what one body has of the rest.
use Rattle.std.proofs.Common.{◌+◌, ◌%◌, ◌≤◌, drop, arith}
use Rattle.centralized_telescope.specs.later.Blocks.{bodies_of, body_bytes}
use Rattle.centralized_telescope.specs.laws.BlocksReadLaws.{block_offset}
use Rattle.centralized_telescope.proofs.BlockWriting.{copied_more, part_long}
use Rattle.centralized_telescope.proofs.BlockReading.{part_is, bodies_long}
use Rattle.centralized_telescope.proofs.blocks.copy_from_bodies.Goals as goal

pub loop-done-preserved : goal.loop-done-preserved
loop-done-preserved c =
    let l = c.loop-done in
    let z = c.args in
    let n = c.min-n.result in
    let f : (z.at + l.done) % body_bytes + n ≤ body_bytes = omega arith in
    let g : l.done + n ≤ z.len = omega arith in
    let e = part_long (block_offset (z.at + l.done)) n z.ticket.now (omega arith) in (
      g,
      omega (arith, l.invariant.1, c.copy_at.auto.out),
      copied_more z.out.now (drop z.at (bodies_of z.ticket.now)) z.used l.done n (omega arith)
          (bodies_long z.ticket.now z.at z.len l.done n c.requires.0 f g) _ _ _ l.invariant.2
          (part_is z.ticket.now z.at z.len l.done n c.requires.0 f g) e c.copy_at.ensures,
    )

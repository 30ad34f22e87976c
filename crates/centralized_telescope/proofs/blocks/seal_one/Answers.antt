-- `seal_one`: the body is copied out, since its block may lie over it, and written with its check behind it.
use Rattle.std.proofs.Common.{◌*◌, arith, rules}
use Rattle.centralized_telescope.proofs.BlockWriting.{part_copied, block_made}
use Rattle.centralized_telescope.specs.later.Blocks.{body_bytes, block_bytes}
use Rattle.centralized_telescope.proofs.blocks.seal_one.Goals as goal

pub returns : goal.returns
returns c =
    let o = c.args.out.now in
    let body = part_copied (body_bytes * c.args.k) body_bytes o _ (omega arith) c.copy_from_slice.ensures.after in
    rw body at
    (block_made (block_bytes * c.args.k) o _ _ _ _ c.requires (search rules) c.check_of-check.ensures c.copy_at.ensures c.copy_at-2.ensures)

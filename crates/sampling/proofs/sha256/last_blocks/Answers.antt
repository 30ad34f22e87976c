-- `last_blocks`: one block, or the second after it.
use Rattle.std.proofs.Common.{◌≡◌, ◌+◌, ◌/◌, arith}
use Rattle.sampling.specs.laws.HashLaws.{one_block_from, two_blocks_from}
use Rattle.sampling.proofs.sha256.last_blocks.Goals as goal
use Rattle.sampling.proofs.sha256.last_blocks.Goals.{then-filled-ge56, else-filled-ge56}

pub returns : goal.returns
returns c =
    let one = c.compress-s.ensures in
    let a = c.args in
    let h = a.h in
    let m = a.m.now in
    elim c.if-filled-ge56.branch [
      | then-filled-ge56 w ↦
          let k : (a.filled + 72) / 64 ≡ 2 = omega arith in
          rw (c.digest.ensures, w.s-is, w.compress-s-then-filled-ge56.ensures, one, k, two_blocks_from h m)
      | else-filled-ge56 w ↦
          let k : (a.filled + 72) / 64 ≡ 1 = omega arith in
          rw (c.digest.ensures, w.s-is, one, k, one_block_from h m)
    ]

-- `write_number`: what is left of v in the first k bytes, before those that are written, makes the bytes of v.
use Rattle.std.proofs.Common.{◌≡◌, arith}
use Rattle.sampling.proofs.Written.{one_written, all_written}
use Rattle.sampling.proofs.big_endian.write_number.Goals as goal

pub loop-k-preserved : goal.loop-k-preserved
loop-k-preserved c =
    let l = c.loop-k in
    one_written l.k l.rest l.out _ (omega arith) (omega arith) l.invariant

pub returns : goal.returns
returns c =
    let l = c.loop-k in
    let e : l.k ≡ 0 = omega arith in
    all_written l.rest l.out _ (rw e at l.invariant)

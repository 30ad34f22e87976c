-- `tail_of`: the bytes that the block holds behind nothing, and the padding behind them.
use Rattle.std.proofs.Common.{◌≡◌, length, take, sym, ◌∙◌, arith, length-take, length-take-le}
use Rattle.sampling.proofs.MessageEnd.{first_laid, padding_laid}
use Rattle.sampling.proofs.sha256.tail_of.Goals as goal

pub slice_bounds-with_bytes-end : goal.slice_bounds-with_bytes-end
slice_bounds-with_bytes-end c = simp length-take (omega arith)

pub with_bytes-requires : goal.with_bytes-requires
with_bytes-requires c = simp length-take (omega arith)

pub returns : goal.returns
returns c =
    let a = c in
    let t = take a.args.filled a.args.block in
    let size : length t ≡ a.args.filled = length-take-le _ _ (omega arith) in
    c.pad.ensures
    ∙ rw (c.with_bytes.ensures, first_laid t (omega arith))
    (padding_laid t a.args.filled a.args.len (sym size) (omega arith) (omega arith))

-- `word_at`: the number of four bytes.
use Rattle.std.proofs.Common.{◌+◌, ◌-◌, arith}
use Rattle.sampling.proofs.BytesRead.{word_fits, word_read}
use Rattle.sampling.proofs.sha256.word_at.Goals as goal

pub overflow_cast-result : goal.overflow_cast-result
overflow_cast-result c =
    let o = c in
    omega (
      arith,
      word_fits o.args.s.now o.args.i (o.args.i + 4 - o.args.i) c.number_of.result o.requires (omega arith)
          c.number_of.ensures.1,
    )

pub returns : goal.returns
returns c =
    let o = c in
    word_read o.args.s.now o.args.i (o.args.i + 4 - o.args.i) c.number_of.result o.requires (omega arith)
    c.number_of.ensures.0

-- `number`: the part of the bytes, read by itself.
use Rattle.std.proofs.Common.{◌+◌, ◌-◌, arith}
use Rattle.centralized_telescope.proofs.NumbersRead.{part_number}
use Rattle.centralized_telescope.proofs.numbers.number.Goals as goal

pub returns : goal.returns
returns c =
    let o = c in
    let a = o.args in
    part_number a.bytes.now a.at a.k (a.at + a.k - a.at) c.number_of.result o.requires.0 o.requires.1 (omega arith)
    c.number_of.ensures

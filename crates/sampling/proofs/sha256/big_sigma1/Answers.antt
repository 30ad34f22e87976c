-- `big_sigma1`: three rotations, one in the other.
use Rattle.std.proofs.Common.{rules}
use Rattle.sampling.specs.laws.WordLaws.{rotr_nested_twice}
use Rattle.sampling.proofs.sha256.big_sigma1.Goals as goal

pub returns : goal.returns
returns c =
    let a = c in
    rw (c.rotr-3.ensures, c.rotr-2.ensures, c.rotr.ensures)
    (rotr_nested_twice a.args.x (search rules) 14 5 6 (search rules))

-- `small_sigma1`: two rotations, one in the other, and a shift.
use Rattle.std.proofs.Common.{rules}
use Rattle.sampling.specs.laws.WordLaws.{rotr_nested}
use Rattle.sampling.proofs.sha256.small_sigma1.Goals as goal

pub returns : goal.returns
returns c =
    let a = c in
    rw (c.rotr-2.ensures, c.rotr.ensures, rotr_nested a.args.x (search rules) 2 17 (search rules))

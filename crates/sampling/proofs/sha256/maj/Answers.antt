-- `maj`: the bit that two of three have.
use Rattle.std.proofs.Common.{rules}
use Rattle.sampling.specs.laws.WordLaws.{maj_shorter}
use Rattle.sampling.proofs.sha256.maj.Goals as goal

pub returns : goal.returns
returns c = let a = c.args in maj_shorter a.x a.y a.z (search rules) (search rules) (search rules)

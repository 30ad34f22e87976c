-- `ch`: the word chosen from two.
use Rattle.std.proofs.Common.{rules}
use Rattle.sampling.specs.laws.WordLaws.{ch_shorter}
use Rattle.sampling.proofs.sha256.ch.Goals as goal

pub returns : goal.returns
returns c = let a = c.args in ch_shorter a.x a.y a.z (search rules) (search rules) (search rules)

use Rattle.std.proofs.Common.{rules}
use Rattle.text.proofs.WordsRead.{before_space, without_space}
use Rattle.text.proofs.words.first.Goals as goal

pub returns-in-Some : goal.returns-in-Some
returns-in-Some c = search (rules, before_space)

pub returns-in-None : goal.returns-in-None
returns-in-None c = search (rules, without_space)

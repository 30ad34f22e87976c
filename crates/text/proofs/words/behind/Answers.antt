use Rattle.std.proofs.Common.{rules}
use Rattle.text.proofs.WordsRead.{behind_space, behind_all}
use Rattle.text.proofs.words.behind.Goals as goal

pub returns-in-Some : goal.returns-in-Some
returns-in-Some c = search (rules, behind_space)

pub returns-in-None : goal.returns-in-None
returns-in-None c = search (rules, behind_all)

use Rattle.std.proofs.Common.{rules}
use Rattle.text.proofs.WordsRead.{counted}
use Rattle.text.proofs.words.count.Goals as goal

pub returns : goal.returns
returns c = search (rules, counted)

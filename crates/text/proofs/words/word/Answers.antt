use Rattle.std.proofs.Common.{rules}
use Rattle.text.proofs.WordsRead.{none_passed, one_passed, word_is}
use Rattle.text.proofs.words.word.Goals as goal

pub loop-init : goal.loop-init
loop-init c = search (rules, none_passed)

pub loop-preserved : goal.loop-preserved
loop-preserved c = search (rules, one_passed)

pub returns : goal.returns
returns c = search (rules, word_is)

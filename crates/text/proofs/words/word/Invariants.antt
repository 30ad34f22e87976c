use Rattle.std.proofs.Common.{◌≡◌}
use Rattle.text.specs.Words.{behind_words}
use Rattle.text.proofs.words.word.Given as goal

abbrev pub invariant-loop : goal.invariant-loop
invariant-loop l = l.rest ≡ behind_words l.counter l.line

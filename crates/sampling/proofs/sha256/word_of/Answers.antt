-- `word_of`: the block's word or the word made is the schedule's.
use Rattle.std.proofs.Common.{rules}
use Rattle.sampling.specs.core.Fips180.{block}
use Rattle.sampling.proofs.Schedule.{block_word, made_word}
use Rattle.sampling.proofs.sha256.word_of.Goals as goal

pub returns-then-this-ne0 : goal.returns-then-this-ne0
returns-then-this-ne0 g c = λ h v i.
    let M = block c.args.s.now c.args.o in
    made_word M _ _ (c.requires.1 (search rules)) c.requires.0 i.word (c.next_word.ensures M)

pub returns-else-this-ne0 : goal.returns-else-this-ne0
returns-else-this-ne0 g c = λ h v i.
    block_word c.args.s.now c.args.o c.args.t (c.requires.2 (search rules)) c.word_at.ensures

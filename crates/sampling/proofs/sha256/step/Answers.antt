-- `step`: one round more.
use Rattle.sampling.specs.core.Fips180.{block}
use Rattle.sampling.proofs.Rounds.{one_more}
use Rattle.sampling.proofs.sha256.step.Goals as goal

pub returns : goal.returns
returns g c = λ h i.
    one_more (block c.args.s.now c.args.o) _ _ c.requires.0 (c.word_of-x.ensures h c.args.v i) c.one_round.ensures h i

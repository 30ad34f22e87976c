-- `all_rounds`: the rounds before 16 and those from 16 on.
use Rattle.sampling.specs.core.Fips180.{block}
use Rattle.sampling.proofs.Rounds.{no_round}
use Rattle.sampling.proofs.sha256.all_rounds.Goals as goal

pub returns : goal.returns
returns c =
    let a = c.args in
    (c.rounds_from.ensures a.h (c.rounds_from-v.ensures a.h (no_round a.h (block a.s.now a.o)))).variables

-- `add_mod`: the sum where it stays below n, and the sum less n where it does not.
use Rattle.sampling.proofs.Remainder.{sum_under, sum_over}
use Rattle.sampling.proofs.sample.add_mod.Goals as goal

pub returns-then-b-room : goal.returns-then-b-room
returns-then-b-room c = let a = c.args in sum_under a.a a.b a.n c.if-b-room.true

pub returns : goal.returns
returns c = let a = c.args in sum_over a.a a.b a.n c.requires.0 c.requires.1 c.if-b-room.false

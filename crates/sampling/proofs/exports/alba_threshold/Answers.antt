-- `alba_threshold`: the two refusals, else both halves of X.
use Rattle.std.proofs.Common.{sym, arith}
use Rattle.sampling.proofs.ExportedAnswers.{room_refused, q_refused, q_converted}
use Rattle.sampling.proofs.exports.alba_threshold.Goals as goal

pub returns-then-out-ne2 : goal.returns-then-out-ne2
returns-then-out-ne2 c = let a = c.args in room_refused a.q a.out.now c.if-out-ne2.true

pub returns-in_default : goal.returns-in_default
returns-in_default c = let a = c.args in q_refused a.q a.out.now c.if-out-ne2.false (sym c.in_default.ensures)

pub returns : goal.returns
returns c = let a = c.args in q_converted a.q a.out.now c.if-out-ne2.false c.in-Ok.x (omega arith) (sym c.in-Ok.ensures)

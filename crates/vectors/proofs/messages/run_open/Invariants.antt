use Rattle.std.proofs.Common.{◌<◌}
use Rattle.vectors.proofs.messages.run_open.Given as goal

abbrev pub invariant-loop-number : goal.invariant-loop-number
invariant-loop-number g l = l.report.lines < l.number

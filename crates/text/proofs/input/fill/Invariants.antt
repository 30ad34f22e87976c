use Rattle.std.proofs.Common.{◌≡◌, ◌-◌, ◌≤◌, length, take, min}
use Rattle.text.proofs.input.fill.Given as goal

abbrev pub invariant-loop-len : goal.invariant-loop-len
invariant-loop-len g l = (min l.from (length l.buf) ≤ l.len) × (l.len ≤ length l.buf) × (length l.buf ≡ length l.initial.buf) × (take l.from l.buf ≡ take l.from l.initial.buf)

abbrev pub decreases-loop-len : goal.decreases-loop-len
decreases-loop-len g l = length l.buf - l.len

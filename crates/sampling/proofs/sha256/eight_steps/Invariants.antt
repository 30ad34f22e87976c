-- `eight_steps`: after i of them the variables and the array are those of i rounds more.
use Rattle.std.proofs.Common.{◌+◌}
use Rattle.sampling.specs.core.Fips180.{block}
use Rattle.sampling.specs.inner.HashInner.{RoundsFrom}
use Rattle.sampling.proofs.sha256.eight_steps.Given as goal

abbrev pub invariant-loop-i : goal.invariant-loop-i
invariant-loop-i g l = RoundsFrom (block l.s l.o) l.t (l.t + l.i) l.initial.u l.initial.w l.u l.w

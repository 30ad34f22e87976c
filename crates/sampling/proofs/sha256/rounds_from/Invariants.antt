-- `rounds_from`: after k times eight rounds the variables and the array are those of so many rounds more.
use Rattle.std.proofs.Common.{◌+◌, ◌*◌}
use Rattle.sampling.specs.core.Fips180.{block}
use Rattle.sampling.specs.inner.HashInner.{RoundsFrom}
use Rattle.sampling.proofs.sha256.rounds_from.Given as goal

abbrev pub invariant-loop-k : goal.invariant-loop-k
invariant-loop-k g l = RoundsFrom (block l.s l.o) l.from (l.from + 8 * l.k) l.initial.u l.initial.w l.u l.w

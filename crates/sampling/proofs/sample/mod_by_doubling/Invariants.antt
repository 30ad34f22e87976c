-- `mod_by_doubling`: after k doublings the high half's remainder is that of hi * 2 ^ k.
use Rattle.std.proofs.Common.{◌≡◌, ◌*◌, ◌%◌, ◌^◌}
use Rattle.sampling.proofs.sample.mod_by_doubling.Given as goal

abbrev pub invariant-loop-k : goal.invariant-loop-k
invariant-loop-k l = l.high ≡ l.i.hi * 2 ^ l._k % l.n

-- `copy_over`: the first i bytes are copied.
use Rattle.std.proofs.Common.{◌≡◌, take}
use Rattle.sampling.proofs.copying.copy_over.Given as goal

abbrev pub invariant-loop-i : goal.invariant-loop-i
invariant-loop-i l = take l.i l.out ≡ take l.i l.bytes

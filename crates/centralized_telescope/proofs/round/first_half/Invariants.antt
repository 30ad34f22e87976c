-- `first_half`: the first i bytes are copied.
use Rattle.std.proofs.Common.{◌≡◌, length, take}
use Rattle.centralized_telescope.proofs.round.first_half.Given as goal

abbrev pub invariant-loop-i : goal.invariant-loop-i
invariant-loop-i l = (length l.half ≡ 16) × (take l.i l.half ≡ take l.i l.h)

-- `seal`: the blocks from the k-th on are made.
use Rattle.std.proofs.Common.{◌≡◌, length}
use Rattle.centralized_telescope.proofs.BlockWriting.{sealed_from}
use Rattle.centralized_telescope.proofs.blocks.seal.Given as goal

abbrev pub invariant-loop-k : goal.invariant-loop-k
invariant-loop-k l = (length l.out ≡ length l.initial.out) × (l.out ≡ sealed_from l.k l.n l.initial.out)

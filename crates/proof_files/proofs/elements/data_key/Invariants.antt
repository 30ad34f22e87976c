use Rattle.std.proofs.Common.{◌<◌}
use Rattle.proof_files.proofs.elements.data_key.Given as goal

abbrev pub invariant-loop-byte : goal.invariant-loop-byte
invariant-loop-byte l = l.key < 32749

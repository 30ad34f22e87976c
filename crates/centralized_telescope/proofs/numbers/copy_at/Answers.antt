-- `copy_at`: a copy over the middle of a buffer.
use Rattle.std.proofs.Common.{arith}
use Rattle.centralized_telescope.proofs.ProofWriting.{copied}
use Rattle.centralized_telescope.proofs.numbers.copy_at.Goals as goal

pub returns : goal.returns
returns c =
    let z = c.args in
    copied z.at z.part.now z.out.now _ _ (omega arith) c.copy_from_slice.ensures.after

-- `put_number`: a part of the buffer is the number.
use Rattle.std.proofs.Common.{arith}
use Rattle.centralized_telescope.proofs.ElementWriting.{number_put}
use Rattle.centralized_telescope.proofs.element_bytes.put_number.Goals as goal

pub returns : goal.returns
returns c = let a = c.args in number_put a.v a.size a.at _ a.out.now _ c.requires (omega arith) c.write_number.ensures

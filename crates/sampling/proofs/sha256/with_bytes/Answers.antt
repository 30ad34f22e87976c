-- `with_bytes`: the copy, in the part that starts at `at`.
use Rattle.std.proofs.Common.{◌≡◌, length, arith, rules}
use Rattle.sampling.proofs.Written.{copied_in}
use Rattle.sampling.proofs.sha256.with_bytes.Goals as goal

pub returns : goal.returns
returns g c =
    let z = c.args in
    let long : length z.blocks ≡ g.row.N = search rules in
    copied_in z.blocks z.s.now _ z.at _ (omega arith) (omega arith) c.copy_over.ensures

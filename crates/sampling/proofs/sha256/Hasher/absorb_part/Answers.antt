-- `absorb_part`: the string stays in the block that is being filled.
use Rattle.std.proofs.Common.{sym}
use Rattle.sampling.specs.laws.HasherLaws.{within_block}
use Rattle.sampling.proofs.sha256.Hasher.absorb_part.Goals as goal

pub returns : goal.returns
returns c =
    let a = c in
    rw c.with_bytes.ensures (sym (within_block a.args.self a.args.s.now a.requires.0))

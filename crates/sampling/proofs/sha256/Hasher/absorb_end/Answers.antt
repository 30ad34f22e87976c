-- `absorb_end`: the string fills the block, and the block goes into the hash value.
use Rattle.std.proofs.Common.{sym}
use Rattle.sampling.specs.laws.HasherLaws.{fills_block}
use Rattle.sampling.proofs.sha256.Hasher.absorb_end.Goals as goal

pub returns : goal.returns
returns c =
    let a = c in
    rw (c.compress.ensures, c.with_bytes-full.ensures)
    (sym (fills_block a.args.self a.args.s.now a.requires.0))

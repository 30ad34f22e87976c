-- `digest`: the strings are within the limit of the hash, so it answers with a digest.
use Rattle.std.proofs.Common.{refl}
use Rattle.centralized_telescope.proofs.RoundHashes.{digest_is}
use Rattle.centralized_telescope.proofs.round.digest.Goals as goal

pub unwrap-requires : goal.unwrap-requires
unwrap-requires c = let z = c.args in rw (digest_is z.label.now z.a.now z.b.now z.c.now _ c.requires c.sha256.ensures) refl

pub returns : goal.returns
returns c =
    let z = c.args in
    let e = digest_is z.label.now z.a.now z.b.now z.c.now _ c.requires c.sha256.ensures in
    cc

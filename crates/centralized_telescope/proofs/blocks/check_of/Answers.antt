-- `check_of`: the body is within the limit of the hash, and a copy of 8 bytes lies over the 8 that were there.
use Rattle.std.proofs.Common.{refl}
use Rattle.centralized_telescope.proofs.BlockWriting.{digest_of_body, check_is}
use Rattle.centralized_telescope.proofs.blocks.check_of.Goals as goal

pub unwrap-digest-requires : goal.unwrap-digest-requires
unwrap-digest-requires c = rw (digest_of_body c.args.body.now _ c.requires c.sha256.ensures) refl

pub returns : goal.returns
returns c =
    let e = digest_of_body c.args.body.now _ c.requires c.sha256.ensures in
    check_is c.args.body.now _ c.requires c.sha256.ensures _ _ c.copy_from_slice.ensures.after cc

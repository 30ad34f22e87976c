-- `run_digest`: the hash of all that was absorbed, since accepted elements are few enough for it.
use Rattle.std.proofs.Common.{refl}
use Rattle.centralized_telescope.specs.inner.Held.{held}
use Rattle.centralized_telescope.specs.laws.PrepareLaws.{digest_given}
use Rattle.centralized_telescope.proofs.preparing.run_digest.Goals as goal

pub unwrap-requires : goal.unwrap-requires
unwrap-requires c =
    let run = c.args.run in
    rw (digest_given run.settings.params (held run.list) run.list.accepted _ _ c.absorb_run.ensures c.finish.ensures) refl

pub returns : goal.returns
returns c =
    let run = c.args.run in
    let e = digest_given run.settings.params (held run.list) run.list.accepted _ _ c.absorb_run.ensures c.finish.ensures in
    cc

-- `absorb_head`: eight numbers, one after the other.
use Rattle.std.proofs.Common.{◌^◌, ◌<◌, ap, ◌∙◌}
use Rattle.sampling.specs.core.BigEndian.{bytes_of}
use Rattle.sampling.specs.declared.sha256.Hasher.{Hasher}
use Rattle.sampling.specs.later.Hasher.{absorbed}
use Rattle.centralized_telescope.specs.laws.PrepareLaws.{head_absorbed}
use Rattle.centralized_telescope.proofs.preparing.absorb_head.Goals as goal

-- X's low word is a `u64`
low_fits : (c : goal.After-absorb_number) → c.args.p.x.lo < 2 ^ 64
low_fits c = c.well_formed.0.1.1.1.1.1.1.1.0.1.1.1.0.1

pub returns : goal.returns
returns c =
    let z = c.args in
    head_absorbed z.p z.count (low_fits c) _ _ _ _ _ _ _ _
    (c.absorb_number-size.ensures ∙ ap (λ (h : Hasher). absorbed h (bytes_of 8 z.p.set_size)) c.new.ensures)
    c.absorb_number-proof.ensures c.absorb_number-retries.ensures
    c.absorb_number-width.ensures c.absorb_number-bound.ensures c.absorb_number-elements.ensures c.absorb_number-high.ensures
    c.absorb_number.ensures

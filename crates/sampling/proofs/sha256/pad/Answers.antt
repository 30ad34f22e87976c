-- `pad`: the bit 1, and the length in bits where it stands.
use Rattle.std.proofs.Common.{◌∙◌}
use Rattle.sampling.proofs.sha256.pad.Goals as goal

pub returns : goal.returns
returns c = c.with_bytes.ensures ∙ rw (c.length_at.ensures, c.eight_bytes-bits.ensures)

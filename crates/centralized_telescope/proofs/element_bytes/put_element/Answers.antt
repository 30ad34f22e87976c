-- `put_element`: mark and index, the data length and the data, one behind the other.
use Rattle.std.proofs.Common.{◌≤◌, length, refl, arith}
use Rattle.centralized_telescope.specs.inner.Held.{element_read}
use Rattle.centralized_telescope.proofs.ElementWriting.{puts, element_parts}
use Rattle.centralized_telescope.proofs.element_bytes.put_element.Goals as goal

pub returns : goal.returns
returns c =
    let e = element_read c.args.element in
    let from : c.args.from ≤ length c.args.out.now = omega (arith, c.requires) in
    rw (element_parts e)
    (puts _ _ _ _ _ _ _ _ from (puts _ _ _ _ _ _ _ _ from c.put_index-size.ensures c.put_number-data.ensures)
    (record { behind = refl; written = c.copy_at.ensures }))

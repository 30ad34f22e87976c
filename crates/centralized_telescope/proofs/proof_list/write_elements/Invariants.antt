-- `write_elements`: the elements at the first i places are written, and `used` is how many data bytes they took.
use Rattle.std.proofs.Common.{◌≡◌, ◌*◌, ◌≤◌, take}
use Rattle.centralized_telescope.specs.core.Elements.{max_data_bytes}
use Rattle.centralized_telescope.specs.inner.Held.{held}
use Rattle.centralized_telescope.specs.later.ProofList.{chosen, list_over, with_buffers}
use Rattle.centralized_telescope.specs.later.Buffers.{buffers_held, SameBuffers}
use Rattle.centralized_telescope.proofs.proof_list.write_elements.Given as goal

abbrev pub invariant-loop-i : goal.invariant-loop-i
invariant-loop-i l =
    (l.used ≤ max_data_bytes * l.i)
    × SameBuffers l.initial.out l.out
    × (with_buffers 0 l.used (buffers_held l.out) ≡ list_over (take l.i (chosen l.places (held l.list))) (buffers_held l.initial.out))

-- `data_size`: `size` is how many data bytes the elements at the first places have.
use Rattle.std.proofs.Common.{◌≡◌, ◌*◌, ◌≤◌, length, take}
use Rattle.centralized_telescope.specs.core.Elements.{max_data_bytes}
use Rattle.centralized_telescope.specs.inner.Held.{held}
use Rattle.centralized_telescope.specs.later.ProofList.{chosen, joined_data}
use Rattle.centralized_telescope.proofs.proof_list.data_size.Given as goal

abbrev pub invariant-loop-place : goal.invariant-loop-place
invariant-loop-place l =
    (l.size ≤ max_data_bytes * l.place-index) × (l.size ≡ length (joined_data (take l.place-index (chosen l.places (held l.list)))))

-- `elements_size`: the size of the first i elements.
use Rattle.std.proofs.Common.{◌≡◌, ◌+◌, ◌*◌, ◌≤◌, length, take}
use Rattle.centralized_telescope.specs.core.Elements.{elements, max_data_bytes}
use Rattle.centralized_telescope.specs.inner.Held.{held}
use Rattle.centralized_telescope.specs.later.ElementBytes.{elements_bytes, max_head_bytes}
use Rattle.centralized_telescope.proofs.element_bytes.elements_size.Given as goal

abbrev pub invariant-loop-i : goal.invariant-loop-i
invariant-loop-i l =
    (l.size ≤ (max_head_bytes + max_data_bytes) * l.i)
    × (l.size ≡ length (elements_bytes (take l.i (elements (held l.list)))))

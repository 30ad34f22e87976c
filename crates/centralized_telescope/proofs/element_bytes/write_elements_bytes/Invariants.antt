-- `write_elements_bytes`: the first i elements stand behind what was there up to `from`.
use Rattle.std.proofs.Common.{◌≡◌, ◌++◌, length, take}
use Rattle.centralized_telescope.specs.core.Lists.{over}
use Rattle.centralized_telescope.specs.core.Elements.{elements}
use Rattle.centralized_telescope.specs.inner.Held.{held}
use Rattle.centralized_telescope.specs.later.ElementBytes.{elements_bytes}
use Rattle.centralized_telescope.proofs.element_bytes.write_elements_bytes.Given as goal

abbrev pub invariant-loop-i : goal.invariant-loop-i
invariant-loop-i l =
    (l.used ≡ length (take l.from l.initial.out ++ elements_bytes (take l.i (elements (held l.list)))))
    × (l.out ≡ over (take l.from l.initial.out ++ elements_bytes (take l.i (elements (held l.list)))) l.initial.out)

-- `copy_from_bodies`: `done` bytes of the part are copied. A turn copies what one body has of the rest.
use Rattle.std.proofs.Common.{◌≡◌, ◌+◌, ◌-◌, ◌≤◌, ◌++◌, length, take, drop}
use Rattle.centralized_telescope.specs.later.Blocks.{bodies_of}
use Rattle.centralized_telescope.proofs.blocks.copy_from_bodies.Given as goal

abbrev pub invariant-loop-done : goal.invariant-loop-done
invariant-loop-done l =
    (l.done ≤ l.len) × (length l.out ≡ length l.initial.out) × (l.out ≡ take l.used l.initial.out ++ (take l.done (drop l.at (bodies_of l.ticket)) ++ drop (l.used + l.done) l.initial.out))

abbrev pub decreases-loop-done : goal.decreases-loop-done
decreases-loop-done l = l.len - l.done

-- `smallest`: none of the sizes below u will do.
use Rattle.std.proofs.Common.{◌≡◌, ℕ, ◌-◌, ◌*◌, ◌^◌, ◌≤◌, ◌<◌, length}
use Rattle.centralized_telescope.specs.inner.Digits.{number_in, NotAbove}
use Rattle.centralized_telescope.proofs.security.smallest.Given as goal

abbrev pub invariant-loop-u : goal.invariant-loop-u
invariant-loop-u l =
    (length l.left ≡ length l.initial.left)
    × (length l.right ≡ length l.initial.right)
    × (number_in l.left ≡ number_in l.initial.left * l.n ^ (l.u - 1))
    × (number_in l.right ≡ number_in l.initial.right * l.f ^ (l.u - 1))
    × ((v : ℕ) → 1 ≤ v → v < l.u → NotAbove (number_in l.initial.left) l.n (number_in l.initial.right) l.f v → ⊥)

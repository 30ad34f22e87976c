-- A list of elements in lent slices: its n elements and b data bytes stand at the start of each.
use Rattle.std.specs.Prelude.{ℕ, ◌≤◌, List, length}

abbrev pub Within : ℕ → ℕ → List ℕ → List ℕ → List ℕ → List ℕ → Type 0
Within n b bytes ends marks indexes = (b ≤ length bytes) × (n ≤ length ends) × (n ≤ length marks) × (n ≤ length indexes)

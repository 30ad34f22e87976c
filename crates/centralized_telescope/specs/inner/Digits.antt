-- What the functions of digits.rt and security.rt promise each other: whole numbers in digits of 32 bits, the lowest first.
use Rattle.std.specs.Prelude.{ℕ, zero, suc, ◌+◌, ◌*◌, ◌^◌, ◌<◌, ◌≤◌, List, length, slice_index, Option, Some, None}
use Rattle.centralized_telescope.specs.core.Params.{max_proof_size}

-- what the first k digits stand for
unfoldable pub stands_for : ℕ → List ℕ → ℕ
stands_for zero ds = 0
stands_for (suc k) ds = stands_for k ds + (2 ^ 32) ^ k * slice_index ds k

-- what all of them stand for
abbrev pub number_in : List ℕ → ℕ
number_in ds = stands_for (length ds) ds

-- the two numbers of a size u
abbrev pub NotAbove : ℕ → ℕ → ℕ → ℕ → ℕ → Type 0
NotAbove A n B f u = B * f ^ u ≤ A * n ^ u

-- the smallest u from 1 to 1,024 at which B * f ^ u isn't above A * n ^ u, if there is one
unfoldable pub SmallestOrNone : ℕ → ℕ → ℕ → ℕ → Option ℕ → Type 0
SmallestOrNone A n B f None = (v : ℕ) → 1 ≤ v → v ≤ max_proof_size → NotAbove A n B f v → ⊥
SmallestOrNone A n B f (Some u) = (1 ≤ u) × (u ≤ max_proof_size) × NotAbove A n B f u × ((v : ℕ) → 1 ≤ v → v < u → NotAbove A n B f v → ⊥)

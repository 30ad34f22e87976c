-- A lent list as the code reads it. ElementsLaws and ProofListLaws tie this to `elements`, and the proofs to `list_check`.
use Rattle.std.specs.Prelude.{ℕ, ◌-◌, Bool, not, ◌||◌, List, [], ◌∷◌, take, drop, ◌==◌, nat_lt, slice_index}
use Rattle.std.proofs.Math.Option.{Option}
use Rattle.sampling.specs.core.FirstNumber.{line, first_number}
use Rattle.centralized_telescope.specs.core.Elements.{index_of, max_elements}

-- ---- one place

-- where the data of the element at a place starts: of the first at 0, of each other at the end before it
unfoldable pub start_at : List ℕ → ℕ → ℕ
start_at ends place = slice_index (0 ∷ ends) place

-- its data bytes
unfoldable pub data_at : List ℕ → List ℕ → ℕ → List ℕ
data_at bytes ends place = take (slice_index ends place - start_at ends place) (drop (start_at ends place) bytes)

-- its index, if it has one
abbrev pub index_at : List ℕ → List ℕ → ℕ → Option ℕ
index_at marks indexes place = index_of (slice_index marks place) (slice_index indexes place)

-- ---- the list's number

-- the same number by what is found in a list: the lengths of ends, marks and indexes; a mark over 1, a wrong end, over-long data
abbrev pub found_number : ℕ → ℕ → ℕ → Bool → Bool → Bool → ℕ
found_number n m x over wrong long =
    first_number (line 4 (not (n == m) || (not (n == x) || (over || wrong))) ∷ line 5 (nat_lt max_elements n || long) ∷ [])

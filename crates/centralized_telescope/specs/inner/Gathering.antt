-- Elements' bytes that are put into a buffer, one behind the other.
use Rattle.std.specs.Prelude.{◌≡◌, ℕ, ◌+◌, List, ◌∷◌, ◌++◌, length, take, drop}
use Rattle.std.proofs.Math.Option.{Option}
use Rattle.centralized_telescope.specs.core.Elements.{index_bytes}
use Rattle.centralized_telescope.specs.later.Words.{mark_of}

-- y stands at the offset `from`, and ends at `to`
pub record Put (y : List ℕ) (from : ℕ) (out after : List ℕ) (to : ℕ) : Type 0 where
  pub behind : to ≡ from + length y
  pub written : after ≡ take from out ++ (y ++ drop (from + length y) out)

-- what stands before an element's data length
abbrev pub mark_bytes : Option ℕ → List ℕ
mark_bytes index = mark_of index ∷ index_bytes index

-- room for the bytes of one element at least
abbrev pub gather_room : ℕ
gather_room = 8192

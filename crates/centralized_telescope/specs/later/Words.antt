-- Words about lists of numbers and indexes that the definitions and contracts of this tier share.
use Rattle.std.specs.Prelude.{ℕ, Bool, List}
use Rattle.std.specs.Str.{bytes_eq}
use Rattle.std.proofs.Math.Option.{Option, none, some}

-- two lists hold the same numbers
abbrev pub same_bytes : List ℕ → List ℕ → Bool
same_bytes = bytes_eq

-- an index as it is lent: its mark and its number, both 0 where there is none
abbrev pub mark_of : Option ℕ → ℕ
mark_of none = 0
mark_of (some n) = 1

abbrev pub number_of : Option ℕ → ℕ
number_of none = 0
number_of (some n) = n

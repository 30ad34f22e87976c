-- Document 02, N1, elements as bytes, numbers big-endian: what a ticket holds of each (02, N9, hashes the same).
use Rattle.std.specs.Prelude.{ℕ, List, [], ◌∷◌, ◌++◌, length}
use Rattle.std.proofs.Math.Option.{Option}
use Rattle.sampling.specs.core.BigEndian.{bytes_of}
use Rattle.centralized_telescope.specs.core.Elements.{Element, index_bytes}
use Rattle.centralized_telescope.specs.later.Words.{mark_of}

-- of an element before its data: the mark, the index if the mark is 1, the data length
abbrev pub head_bytes : Option ℕ → ℕ → List ℕ
head_bytes index len = (mark_of index ∷ []) ++ (index_bytes index ++ bytes_of 4 len)

-- those are so many at most: 1, 8 and 4
abbrev pub max_head_bytes : ℕ
max_head_bytes = 13

unfoldable pub element_bytes : Element → List ℕ
element_bytes e = head_bytes e.index (length e.bytes) ++ e.bytes

unfoldable pub elements_bytes : List Element → List ℕ
elements_bytes [] = []
elements_bytes (e ∷ es) = element_bytes e ++ elements_bytes es

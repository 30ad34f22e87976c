-- Document 01, Elements, and the two lines of its table that are about a list.
use Rattle.std.specs.Prelude.{ℕ, ◌-◌, Bool, false, cond, not, ◌||◌, ltb, List, [], ◌∷◌, ◌++◌, length, ◌==◌, nat_lt, slice_index_or, slice_range}
use Rattle.std.proofs.Math.Option.{Option, none, some}
use Rattle.std.specs.Borrow.{Bor}
use denote.Triple.Both.{Both}
use Rattle.sampling.specs.core.FirstNumber.{line, first_number}
use Rattle.sampling.specs.core.BigEndian.{bytes_of}
use Rattle.centralized_telescope.specs.core.Lists.{some_of}

-- ---- 01, Elements: data bytes, with an index or without

pub record Element : Type 0 where
  pub bytes : List ℕ
  pub index : Option ℕ

-- 01, Elements, Tail: the data, and behind it the index, if there is one, in 8 bytes
abbrev pub index_bytes : Option ℕ → List ℕ
index_bytes none = []
index_bytes (some n) = bytes_of 8 n

unfoldable pub tail : Element → List ℕ
tail e = e.bytes ++ index_bytes e.index

-- ---- 01, Elements, a lent list: an element's data goes from the end before it (the first's from 0) to its own; with the mark 1 it has an
-- index

-- a list as it is lent: the data of all elements, one behind the other; and of each its end there, its mark and its index
pub record Lent : Type 0 where
  pub bytes : List ℕ
  pub ends : List ℕ
  pub marks : List ℕ
  pub indexes : List ℕ

-- the list with these four parts
abbrev pub lent_of : List ℕ → List ℕ → List ℕ → List ℕ → Lent
lent_of bytes ends marks indexes = record { bytes = bytes; ends = ends; marks = marks; indexes = indexes }

-- a slice as a contract has it, at the call and at the end
abbrev pub Slice : Type 0
Slice = Both (Bor (List ℕ)) (Bor (List ℕ))

-- the list that four slices hold at the call
abbrev pub lent_at_entry : Slice → Slice → Slice → Slice → Lent
lent_at_entry bytes ends marks indexes = lent_of bytes.entry.now ends.entry.now marks.entry.now indexes.entry.now

abbrev pub index_of : ℕ → ℕ → Option ℕ
index_of mark n = cond (mark == 1) (some n) none

-- the elements whose data starts at `from`
unfoldable pub elements_from : ℕ → List ℕ → List ℕ → List ℕ → List ℕ → List Element
elements_from from bytes [] marks indexes = []
elements_from from bytes (end ∷ ends) [] indexes = []
elements_from from bytes (end ∷ ends) (mark ∷ marks) [] = []
elements_from from bytes (end ∷ ends) (mark ∷ marks) (n ∷ indexes) =
    record { bytes = slice_range bytes from end; index = index_of mark n } ∷ elements_from end bytes ends marks indexes

-- what a lent list means
abbrev pub elements : Lent → List Element
elements lent = elements_from 0 lent.bytes lent.ends lent.marks lent.indexes

-- the element at a place of a list
unfoldable pub element_at : List Element → ℕ → Element
element_at es place = slice_index_or es place (record { bytes = []; index = none })

-- ---- 01, the table, list, 4: unequal lengths, a mark above 1, an end below the one before or past the data

abbrev pub mark_over : List ℕ → Bool
mark_over marks = some_of (ltb 1) marks

-- of ends behind one at `from`, with so many data bytes
unfoldable pub end_wrong : ℕ → ℕ → List ℕ → Bool
end_wrong from limit [] = false
end_wrong from limit (end ∷ ends) = nat_lt end from || (nat_lt limit end || end_wrong end limit ends)

unfoldable pub malformed : Lent → Bool
malformed lent =
    let record { bytes = bytes; ends = ends; marks = marks; indexes = indexes } = lent in
    not (length ends == length marks)
    || (not (length ends == length indexes) || (mark_over marks || end_wrong 0 (length bytes) ends))

-- ---- 01, the table, list, 5: too many elements, or one too long

-- an element has so many data bytes at most, a list so many elements
abbrev pub max_data_bytes : ℕ
max_data_bytes = 4096

abbrev pub max_elements : ℕ
max_elements = 65536

unfoldable pub data_long : ℕ → List ℕ → Bool
data_long from [] = false
data_long from (end ∷ ends) = nat_lt max_data_bytes (end - from) || data_long end ends

unfoldable pub too_large : List ℕ → Bool
too_large ends = nat_lt max_elements (length ends) || data_long 0 ends

-- the list's number: 4, then 5, or 0 where it is accepted
unfoldable pub list_check : Lent → ℕ
list_check lent = first_number (line 4 (malformed lent) ∷ line 5 (too_large lent.ends) ∷ [])

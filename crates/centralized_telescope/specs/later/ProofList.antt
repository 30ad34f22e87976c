-- Elements written out the way lists are lent, which document 01, Verifier, has a prover's proof be, and what `write_proof` answers and
-- leaves in each lent buffer.
use Rattle.std.specs.Prelude.{◌≡◌, ℕ, ◌+◌, Bool, cond, ◌||◌, List, [], ◌∷◌, ◌++◌, map, length, take, ◌==◌, nat_le, nat_lt, Result, Ok, Err}
use Rattle.centralized_telescope.specs.core.Elements.{Element, elements, element_at, list_check, Lent, max_elements, lent_of}
use Rattle.centralized_telescope.specs.later.Words.{mark_of, number_of}
use Rattle.centralized_telescope.specs.core.Lists.{some_of, over}
use Rattle.sampling.specs.core.FirstNumber.{line, first_number}
use Rattle.centralized_telescope.specs.core.Refusals.{refusal_number}
use Rattle.centralized_telescope.specs.declared.errors.Refusal.{Refusal}

-- ---- elements as a list: data bytes, ends, marks and indexes

unfoldable pub joined_data : List Element → List ℕ
joined_data [] = []
joined_data (e ∷ es) = e.bytes ++ joined_data es

-- of elements whose data starts at `from`
unfoldable pub ends_from : ℕ → List Element → List ℕ
ends_from from [] = []
ends_from from (e ∷ es) = (from + length e.bytes) ∷ ends_from (from + length e.bytes) es

abbrev pub marks_of : List Element → List ℕ
marks_of es = map (λ (e : Element). mark_of e.index) es

abbrev pub indexes_of : List Element → List ℕ
indexes_of es = map (λ (e : Element). number_of e.index) es

-- the list of them
abbrev pub list_of : List Element → Lent
list_of es = lent_of (joined_data es) (ends_from 0 es) (marks_of es) (indexes_of es)

-- ---- lists in lent buffers

-- a list over the first numbers of buffers
abbrev pub over_all : Lent → Lent → Lent
over_all list buffers =
    lent_of (over list.bytes buffers.bytes) (over list.ends buffers.ends)
    (over list.marks buffers.marks) (over list.indexes buffers.indexes)

-- the list that the first numbers of buffers are: so many data bytes, and an end, a mark and an index for each element
abbrev pub front_of : ℕ → ℕ → Lent → Lent
front_of len count buffers =
    lent_of (take len buffers.bytes) (take count buffers.ends) (take count buffers.marks) (take count buffers.indexes)

-- buffers are too short for `count` elements with `size` data bytes in all
unfoldable pub buffers_short : ℕ → ℕ → Lent → Bool
buffers_short count size buffers =
    nat_lt (length buffers.ends) count
    || (nat_lt (length buffers.marks) count || (nat_lt (length buffers.indexes) count || nat_lt (length buffers.bytes) size))

-- ---- the elements at some places of a lent list

abbrev pub chosen : List ℕ → Lent → List Element
chosen places lent = map (element_at (elements lent)) places

-- a place is past a list of `len` elements
abbrev pub place_out : ℕ → List ℕ → Bool
place_out len places = some_of (nat_le len) places

-- ---- the answer: its number and how many data bytes were written; and the lent buffers afterwards

pub record ProofList : Type 0 where
  pub number : ℕ
  pub len : ℕ
  pub buffers : Lent

-- the answer with these parts
abbrev pub with_buffers : ℕ → ℕ → Lent → ProofList
with_buffers number len buffers = record { number = number; len = len; buffers = buffers }

-- elements over the first numbers of lent buffers
unfoldable pub list_over : List Element → Lent → ProofList
list_over es buffers = with_buffers 0 (length (joined_data es)) (over_all (list_of es) buffers)

module _ (places : List ℕ) (lent buffers : Lent) where
  -- the first refusal, or 0: those of the list; then, of the places, 4 for one past the list, and 5 for more than a list has, 65,536;
  -- 42 for a lent buffer that is too short
  unfoldable pub write_refusal : ℕ
  write_refusal =
      first_number
      (list_check lent
      ∷ line 4 (place_out (length lent.ends) places)
      ∷ line 5 (nat_lt max_elements (length places))
      ∷ line 42 (buffers_short (length places) (length (joined_data (chosen places lent))) buffers)
      ∷ [])

  -- the elements at the places over the buffers; 01, Lent and given back, refusals: the number, a 0, and the buffers as lent
  unfoldable pub proof_list : ProofList
  proof_list =
      cond (write_refusal == 0) (list_over (chosen places lent) buffers) (with_buffers write_refusal 0 buffers)

-- the number for each answer, and the buffers with it
abbrev pub proof_list_by : Result ℕ Refusal → Lent → ProofList
proof_list_by (Ok len) buffers = with_buffers 0 len buffers
proof_list_by (Err k) buffers = with_buffers (refusal_number k) 0 buffers

-- ---- what is written is a list that is accepted, of the elements at the places

-- the list that an answer leaves, an element for each place
abbrev pub written_list : List ℕ → ProofList → Lent
written_list places r = front_of r.len (length places) r.buffers

abbrev pub ProofListed : Type 0
ProofListed =
    (places : List ℕ) (lent buffers : Lent) → (proof_list places lent buffers).number ≡ 0
    → (list_check (written_list places (proof_list places lent buffers)) ≡ 0)
    × (elements (written_list places (proof_list places lent buffers)) ≡ chosen places lent)

-- Document 02, N1 and N7, what holds of tickets beyond the single calls: six claims over the definitions that the contracts of
-- `write_ticket`, `read_ticket`, `verify` and `alba_verify` equate their results with.
use Rattle.std.specs.Prelude.{◌≡◌, ℕ, ◌*◌, ◌/◌, ◌^◌, ◌<◌, ◌≤◌, true, false, ◌↔◌, List, [], ◌∷◌, ◌++◌, length, take, ◌≢◌, slice_index}
use Rattle.sampling.specs.core.BigEndian.{big_endian, bytes_of}
use Rattle.centralized_telescope.specs.declared.params.Params.{Params}
use Rattle.centralized_telescope.specs.core.Lists.{Each, over}
use Rattle.centralized_telescope.specs.core.Elements.{Element, elements, list_check, Lent, lent_of}
use Rattle.centralized_telescope.specs.core.Verifier.{verdict}
use Rattle.centralized_telescope.specs.core.Exports.{numbers_of, exported_verdict}
use Rattle.centralized_telescope.specs.later.ProofList.{joined_data, front_of, buffers_short}
use Rattle.centralized_telescope.specs.later.Blocks.{bodies_of, damaged, block_bytes}
use Rattle.centralized_telescope.specs.later.Tickets.{ticket, ProofFits, IsTicket, blocks_in, TicketWritten, ticket_written, TicketRead}
use Rattle.centralized_telescope.specs.later.Tickets.{unread, ticket_read}

-- ---- words

-- the blocks that a writer wrote
abbrev pub blocks_of : TicketWritten → List ℕ
blocks_of w = take (block_bytes * w.count) w.buffer

-- the list that a reader read: so many data bytes, and as many ends, marks and indexes as there are elements
abbrev pub read_list : TicketRead → Lent
read_list r = front_of r.len r.count r.buffers

-- four buffers with room for some elements
abbrev pub HasRoom : List Element → Lent → Type 0
HasRoom es buffers = buffers_short (length es) (length (joined_data es)) buffers ≡ false

-- a proof handed from a writer, into `out`, to a reader, into four other buffers
module _ (R S : ℕ) (lent : Lent) (out : List ℕ) (buffers : Lent) where
  abbrev pub carried : TicketRead
  carried = ticket_read (blocks_of (ticket_written R S lent out)) buffers

  -- the premise: R, S and the indexes are of 64 bits, the list is accepted, and the buffers have room: the writer's for the ticket, the
  -- reader's for the elements
  pub record CanCarry : Type 0 where
    pub retry : R < 2 ^ 64
    pub search : S < 2 ^ 64
    pub index_numbers : Each (λ (v : ℕ). v < 2 ^ 64) lent.indexes
    pub accepted : list_check lent ≡ 0
    pub long : length (ticket R S (elements lent)) ≤ length out
    pub room : HasRoom (elements lent) buffers

-- ---- 02, N1: reading a written ticket, into buffers with room, gives R, S and the same elements

pub record ReadBack (R S : ℕ) (es : List Element) (r : TicketRead) : Type 0 where
  pub number : r.number ≡ 0
  pub retry : r.retry ≡ R
  pub search : r.search ≡ S
  pub count : r.count ≡ length es
  pub same : elements (read_list r) ≡ es
  -- as a list that is accepted
  pub accepted : list_check (read_list r) ≡ 0
  -- without spare data
  pub data_alone : take r.len r.buffers.bytes ≡ joined_data es
  -- and with index 0 where the mark is 0
  pub index_zero : (i : ℕ) → i < r.count → slice_index r.buffers.marks i ≡ 0 → slice_index r.buffers.indexes i ≡ 0

abbrev pub ReadsBack : Type 0
ReadsBack =
    (R S : ℕ) (lent : Lent) (out : List ℕ) (buffers : Lent) → CanCarry R S lent out buffers
    → ((ticket_written R S lent out).number ≡ 0)
    × ReadBack R S (elements lent) (carried R S lent out buffers)

-- ---- 02, N1: writing what was read, into a buffer with room, gives the same blocks

pub record WrittenBack (t out : List ℕ) (w : TicketWritten) : Type 0 where
  pub number : w.number ≡ 0
  pub count : w.count ≡ length t / block_bytes
  pub blocks : w.buffer ≡ over t out

-- what was read, r, written into a buffer
abbrev pub written_again : TicketRead → List ℕ → TicketWritten
written_again r = ticket_written r.retry r.search (read_list r)

abbrev pub WritesBack : Type 0
WritesBack =
    (t : List ℕ) (buffers : Lent) (out : List ℕ) → (ticket_read t buffers).number ≡ 0 → length t ≤ length out
    → WrittenBack t out (written_again (ticket_read t buffers) out)

-- ---- 02, N1: the verifier judges the proof read as the one written, under any settings

-- what was read, r, judged
abbrev pub judged_again : Params → TicketRead → ℕ
judged_again p r = verdict p r.retry r.search (read_list r)

abbrev pub JudgedAlike : Type 0
JudgedAlike =
    (p : Params) (R S : ℕ) (lent : Lent) (out : List ℕ) (buffers : Lent) → CanCarry R S lent out buffers
    → judged_again p (carried R S lent out buffers) ≡ verdict p R S lent

-- ---- 01, Lent and given back, with 02, N1: so does the exported verifier, which takes ends and indexes in bytes, as a loader has them

-- numbers in k big-endian bytes each
unfoldable pub in_bytes : ℕ → List ℕ → List ℕ
in_bytes k [] = []
in_bytes k (v ∷ vs) = bytes_of k v ++ in_bytes k vs

-- a list with its ends and indexes so written
abbrev pub lent_in_bytes : Lent → Lent
lent_in_bytes lent = lent_of lent.bytes (in_bytes 4 lent.ends) lent.marks (in_bytes 8 lent.indexes)

-- what was read, r, so written and judged
abbrev pub judged_in_bytes : Params → TicketRead → ℕ
judged_in_bytes p r = exported_verdict p r.retry r.search (lent_in_bytes (read_list r))

abbrev pub BytesJudgedAlike : Type 0
BytesJudgedAlike =
    -- numbers that fit into k bytes are read as they were written
    ((k : ℕ) (vs : List ℕ) → 0 < k → Each (λ (v : ℕ). v < 256 ^ k) vs → numbers_of k (in_bytes k vs) ≡ vs)
    -- so a list is judged as it is, with ends of 32 bits and indexes of 64, which `verify` takes
    × ((p : Params) (R S : ℕ) (lent : Lent) → Each (λ (v : ℕ). v < 2 ^ 32) lent.ends → Each (λ (v : ℕ). v < 2 ^ 64) lent.indexes
    → exported_verdict p R S (lent_in_bytes lent) ≡ verdict p R S lent)
    -- whatever ticket was read is judged as `verify` judges it
    × ((p : Params) (t : List ℕ) (buffers : Lent) → Each (λ (b : ℕ). b < 256) t → (ticket_read t buffers).number ≡ 0
    → judged_in_bytes p (ticket_read t buffers) ≡ judged_again p (ticket_read t buffers))
    -- and a ticket that a writer wrote as the proof that was written
    × ((p : Params) (R S : ℕ) (lent : Lent) (out : List ℕ) (buffers : Lent) → CanCarry R S lent out buffers
    → judged_in_bytes p (carried R S lent out buffers) ≡ verdict p R S lent)

-- ---- 02, N1: which bytes the reader refuses with which number: of whole blocks whose checks hold, 41 is for those that are no proof's
-- ticket; and what it reads is the proof whose ticket they are

module _ (t : List ℕ) (buffers : Lent) where
  abbrev pub answer : TicketRead
  answer = ticket_read t buffers

  pub record TicketOrNot : Type 0 where
    -- 40 comes exactly where the size isn't whole blocks or a check fails
    pub damage : (answer.number ≡ 40) ↔ (damaged t ≡ true)
    -- 41 exactly where the blocks are whole and their checks hold, and the bytes are no proof's ticket
    pub no_ticket : (answer.number ≡ 41) ↔ ((damaged t ≡ false) × (IsTicket t → ⊥))
    -- no proof's ticket is damaged
    pub undamaged : IsTicket t → damaged t ≡ false
    -- 42 exactly where the bytes are the ticket of a proof for which a buffer is too short
    pub short : (answer.number ≡ 42) ↔ ((k : IsTicket t) × (HasRoom k.2 buffers → ⊥))
    -- a proof's ticket is read where the buffers have room
    pub reads : (k : IsTicket t) → HasRoom k.2 buffers → answer.number ≡ 0
    -- what is read is within the limits
    pub fits : answer.number ≡ 0 → ProofFits answer.retry answer.search (elements (read_list answer))
    -- and the bytes are its ticket
    pub same : answer.number ≡ 0 → t ≡ ticket answer.retry answer.search (elements (read_list answer))

-- no two proofs have one ticket
pub record SameProof (R S : ℕ) (es : List Element) (R' S' : ℕ) (es' : List Element) : Type 0 where
  pub retry : R ≡ R'
  pub search : S ≡ S'
  pub same : es ≡ es'

abbrev pub OneProof : Type 0
OneProof =
    (R S : ℕ) (es : List Element) (R' S' : ℕ) (es' : List Element) → ProofFits R S es → ProofFits R' S' es'
    → ticket R S es ≡ ticket R' S' es'
    → SameProof R S es R' S' es'

abbrev pub TicketsExactly : Type 0
TicketsExactly =
    ((t : List ℕ) (buffers : Lent) → Each (λ (b : ℕ). b < 256) t → TicketOrNot t buffers)
    × OneProof

-- ---- 02, N7: the number of blocks, which the first four bytes of a ticket are

abbrev pub BlocksCounted : Type 0
BlocksCounted =
    -- a card reader that has these bytes knows how much to fetch
    ((t : List ℕ) → IsTicket t → length t ≡ block_bytes * big_endian 4 t)
    -- the first block, or any longer front, states the same number
    × ((t : List ℕ) (n : ℕ) → IsTicket t → block_bytes ≤ n → blocks_in (bodies_of (take n t)) ≡ big_endian 4 t)
    -- and whole blocks whose checks hold, of which there are more or fewer, are refused with 41
    × ((t : List ℕ) (buffers : Lent) → damaged t ≡ false → (big_endian 4 t ≢ length t / block_bytes)
    → ticket_read t buffers ≡ unread 41 buffers)

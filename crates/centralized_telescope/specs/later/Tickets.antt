-- Document 02, N1 and N7, a ticket: the number of its blocks, R, S and a proof's elements in the joined bodies of blocks; what the writer
-- and the reader answer, and every lent buffer afterwards.
use Rattle.std.specs.Prelude.{◌≡◌, ℕ, zero, suc, ◌+◌, ◌*◌, ◌^◌, ◌<◌, ◌≤◌, Bool, cond, not, ◌&&◌, ◌||◌, ltb, List, [], ◌∷◌, ◌++◌, length, take, drop, ◌==◌, nat_lt, slice_index, Result, Ok, Err}
use Rattle.std.proofs.Math.Option.{Option}
use Rattle.sampling.specs.core.BigEndian.{big_endian, bytes_of}
use Rattle.centralized_telescope.specs.declared.ticket.TicketProof.{TicketProof}
use Rattle.centralized_telescope.specs.core.Lists.{Each, some_of, over}
use Rattle.sampling.specs.core.FirstNumber.{line, first_number}
use Rattle.centralized_telescope.specs.later.Words.{same_bytes, number_of}
use Rattle.centralized_telescope.specs.core.Refusals.{refusal_number}
use Rattle.centralized_telescope.specs.declared.errors.Refusal.{Refusal}
use Rattle.centralized_telescope.specs.core.Elements.{Element, index_bytes, index_of, elements, list_check, Lent, max_data_bytes}
use Rattle.centralized_telescope.specs.core.Elements.{max_elements}
use Rattle.centralized_telescope.specs.later.ProofList.{joined_data, list_of, over_all, buffers_short}
use Rattle.centralized_telescope.specs.later.ElementBytes.{element_bytes, elements_bytes}
use Rattle.centralized_telescope.specs.later.Blocks.{block_count, blocks, bodies_of, damaged, block_bytes}

-- ---- 02, N1 and N7, the layout of the joined bodies

-- so many bytes stand before the elements: 4, 8, 8 and 4
abbrev pub ticket_head_bytes : ℕ
ticket_head_bytes = 24

-- the number of blocks that hold the content, R, S, the number of elements, and the elements
unfoldable pub content : ℕ → ℕ → List Element → List ℕ
content R S es =
    let count : ℕ = block_count (ticket_head_bytes + length (elements_bytes es)) in
    bytes_of 4 count ++ (bytes_of 8 R ++ (bytes_of 8 S ++ (bytes_of 4 (length es) ++ elements_bytes es)))

-- the ticket of a proof
unfoldable pub ticket : ℕ → ℕ → List Element → List ℕ
ticket R S es = blocks (content R S es)

-- ---- when bytes are a ticket

-- an element within the limits: 01's on the data, and an index of 64 bits
abbrev pub ElementFits : Element → Type 0
ElementFits e = (length e.bytes ≤ max_data_bytes) × (number_of e.index < 2 ^ 64)

-- a proof within the limits: 01's on a list, and counters of 64 bits
pub record ProofFits (R S : ℕ) (es : List Element) : Type 0 where
  pub retry : R < 2 ^ 64
  pub search : S < 2 ^ 64
  pub few : length es ≤ max_elements
  pub each : Each ElementFits es

-- there are R, S and elements within the limits whose ticket they are
abbrev pub IsTicket : List ℕ → Type 0
IsTicket t = (R : ℕ) × (S : ℕ) × (es : List Element) × ProofFits R S es × (t ≡ ticket R S es)

-- ---- what a reader finds in the joined bodies b, if they are a ticket's

-- the number of blocks that they state
abbrev pub blocks_in : List ℕ → ℕ
blocks_in b = big_endian 4 b

abbrev pub retry_in : List ℕ → ℕ
retry_in b = big_endian 8 (drop 4 b)

abbrev pub search_in : List ℕ → ℕ
search_in b = big_endian 8 (drop 12 b)

-- the number of elements
abbrev pub count_in : List ℕ → ℕ
count_in b = big_endian 4 (drop 20 b)

-- behind them all
abbrev pub elements_part : List ℕ → List ℕ
elements_part b = drop ticket_head_bytes b

-- the element that bytes begin with
unfoldable pub element_in : List ℕ → Element
element_in s =
    let index : Option ℕ = index_of (slice_index s 0) (big_endian 8 (drop 1 s)) in
    let behind : List ℕ = drop (1 + length (index_bytes index)) s in
    record { bytes = take (big_endian 4 behind) (drop 4 behind); index = index }

-- the n elements that bytes begin with
unfoldable pub elements_in : ℕ → List ℕ → List Element
elements_in zero s = []
elements_in (suc n) s = element_in s ∷ elements_in n (drop (length (element_bytes (element_in s))) s)

abbrev pub proof_in : List ℕ → List Element
proof_in b = elements_in (count_in b) (elements_part b)

-- 01's list limits are exceeded
abbrev pub over_limits : List Element → Bool
over_limits es = nat_lt max_elements (length es) || some_of (λ (e : Element). ltb max_data_bytes (length e.bytes)) es

-- whether bytes are the ticket of what is found in them, within the limits
unfoldable pub is_ticket : List ℕ → Bool
is_ticket t =
    let b : List ℕ = bodies_of t in
    not (over_limits (proof_in b)) && same_bytes (ticket (retry_in b) (search_in b) (proof_in b)) t

-- ---- the writer's answer: its number and the number of blocks; and the lent buffer afterwards

pub record TicketWritten : Type 0 where
  pub number : ℕ
  pub count : ℕ
  pub buffer : List ℕ

module _ (R S : ℕ) (lent : Lent) (out : List ℕ) where
  -- 02, N1, the writer's refusals: those of the list, then 42 for a buffer too short
  unfoldable pub ticket_write_refusal : ℕ
  ticket_write_refusal =
      first_number
      (list_check lent
      ∷ line 42 (nat_lt (length out) (block_bytes * block_count (length (content R S (elements lent)))))
      ∷ [])

  unfoldable pub ticket_written : TicketWritten
  ticket_written =
      cond (ticket_write_refusal == 0) (record {
        number = 0;
        count = block_count (length (content R S (elements lent)));
        buffer = over (ticket R S (elements lent)) out;
      }) (record { number = ticket_write_refusal; count = 0; buffer = out })

abbrev pub ticket_written_by : Result ℕ Refusal → List ℕ → TicketWritten
ticket_written_by (Ok n) out = record { number = 0; count = n; buffer = out }
ticket_written_by (Err k) out = record { number = refusal_number k; count = 0; buffer = out }

-- ---- the reader's answer: its number, R, S, how many elements and how many data bytes; and the lent buffers afterwards

pub record TicketRead : Type 0 where
  pub number : ℕ
  pub retry : ℕ
  pub search : ℕ
  pub count : ℕ
  pub len : ℕ
  pub buffers : Lent

-- the answer with these parts
abbrev pub read_of : ℕ → ℕ → ℕ → ℕ → ℕ → Lent → TicketRead
read_of number R S count len buffers =
    record { number = number; retry = R; search = S; count = count; len = len; buffers = buffers }

abbrev pub unread : ℕ → Lent → TicketRead
unread k buffers = read_of k 0 0 0 0 buffers

-- R, S and elements, with the elements laid out over the first numbers of the buffers
unfoldable pub read_out : ℕ → ℕ → List Element → Lent → TicketRead
read_out R S es buffers = read_of 0 R S (length es) (length (joined_data es)) (over_all (list_of es) buffers)

module _ (t : List ℕ) (buffers : Lent) where
  -- 02, N1, the reader's refusals: 40; 41 for bytes that are no ticket; 42 for a buffer too short
  unfoldable pub ticket_read_refusal : ℕ
  ticket_read_refusal =
      first_number
      (line 40 (damaged t)
      ∷ line 41 (not (is_ticket t))
      ∷ line 42 (buffers_short (length (proof_in (bodies_of t))) (length (joined_data (proof_in (bodies_of t)))) buffers)
      ∷ [])

  unfoldable pub ticket_read : TicketRead
  ticket_read =
      cond (ticket_read_refusal == 0)
      (read_out (retry_in (bodies_of t)) (search_in (bodies_of t)) (proof_in (bodies_of t)) buffers)
      (unread ticket_read_refusal buffers)

abbrev pub ticket_read_by : Result TicketProof Refusal → Lent → TicketRead
ticket_read_by (Ok r) buffers = read_of 0 r.retry.0 r.search.0 r.elements r.bytes buffers
ticket_read_by (Err k) buffers = unread (refusal_number k) buffers

-- Document 02, N5, what planned amounts are good for, and how many blocks any ticket can have: five claims over the definitions that the
-- contracts of `plan`, `prove`, `write_proof` and `write_ticket` equate their results with, and an example.
use Rattle.std.specs.Prelude.{◌≡◌, ℕ, ◌+◌, ◌*◌, ◌^◌, ◌<◌, ◌≤◌, ◌⊎◌, List, [], ◌∷◌, length, take, replicate}
use Rattle.sampling.specs.declared.sample.U128.{U128}
use Rattle.sampling.specs.core.BigEndian.{big_endian}
use Rattle.centralized_telescope.specs.declared.params.Params.{Params}
use Rattle.centralized_telescope.specs.declared.planning.Amounts.{Amounts}
use Rattle.centralized_telescope.specs.core.Lists.{Each}
use Rattle.centralized_telescope.specs.core.Elements.{Element, elements, Lent, lent_of}
use Rattle.centralized_telescope.specs.later.Words.{mark_of}
use Rattle.centralized_telescope.specs.core.Prover.{Proved, refused, proved}
use Rattle.centralized_telescope.specs.later.ProofList.{ProofList, proof_list}
use Rattle.centralized_telescope.specs.later.ElementBytes.{max_head_bytes}
use Rattle.centralized_telescope.specs.later.Tickets.{ticket_head_bytes, IsTicket, TicketWritten, ticket_written}
use Rattle.centralized_telescope.specs.core.Demand3.{Accepted, proof_elements, Listed}
use Rattle.centralized_telescope.specs.later.Plan.{planned}
use Rattle.centralized_telescope.specs.later.Blocks.{block_count, block_bytes}

-- a is what planning gives for settings and a longest length that it doesn't refuse
abbrev pub IsPlan : Params → ℕ → Amounts → Type 0
IsPlan p longest a = planned p longest ≡ (0, a)

-- ---- 02, N5: with these amounts lent the prover never gives 6, for every list

abbrev pub PlanSuffices : Type 0
PlanSuffices =
    (p : Params) (longest : ℕ) (a : Amounts) → IsPlan p longest a
    → (lent : Lent) (places table : List ℕ) → a.places ≤ length places → a.bin_table ≤ length table
    → (proved p lent places table).number ≡ 6
    → ⊥

-- ---- 02, N5: with fewer places or table numbers, on an accepted list, 6 always comes

abbrev pub PlanNeeded : Type 0
PlanNeeded =
    (p : Params) (longest : ℕ) (a : Amounts) → IsPlan p longest a
    → (lent : Lent) (places table : List ℕ) → Accepted lent → (length places < a.places) ⊎ (length table < a.bin_table)
    → proved p lent places table ≡ refused 6 places table

-- ---- 02, N5: no run's count passes the step count, whatever the run is lent

abbrev pub StepsNotPassed : Type 0
StepsNotPassed =
    (p : Params) (longest : ℕ) (a : Amounts) → IsPlan p longest a
    → (lent : Lent) (places table : List ℕ) → (proved p lent places table).count ≤ a.most_steps

-- ---- 02, N5: the writer of the prover's proof never gives 42 on a buffer of so many blocks

-- a proof found in a list with `places` and `table` lent
module _ (p : Params) (lent : Lent) (places table : List ℕ) where
  abbrev pub found : Proved
  found = proved p lent places table

  abbrev pub found_elements : List Element
  found_elements = proof_elements p (elements lent) found

  -- its list, written out by `write_proof` into four buffers
  abbrev pub own_list : Lent → ProofList
  own_list buffers = proof_list (take p.proof_size found.places) lent buffers

  -- and its ticket, written from any accepted list with its elements
  abbrev pub found_ticket : Listed found_elements → List ℕ → TicketWritten
  found_ticket l out = ticket_written found.retry found.search l.lent out

  pub record TicketFits (longest : ℕ) (a : Amounts) : Type 0 where
    -- `write_proof` makes such a list (`ProofListed`) where there is room for so many elements with the longest data
    pub listed : (buffers : Lent) → a.places * longest ≤ length buffers.bytes → a.places ≤ length buffers.ends
        → a.places ≤ length buffers.marks → a.places ≤ length buffers.indexes → (own_list buffers).number ≡ 0
    -- the ticket of any such list is written
    pub number : (l : Listed found_elements) (out : List ℕ) → block_bytes * a.ticket_blocks ≤ length out → (found_ticket l out).number ≡ 0
    -- it has no more blocks than planned
    pub blocks : (l : Listed found_elements) (out : List ℕ) → (found_ticket l out).count ≤ a.ticket_blocks
    -- but as many where each element of the proof has an index and the longest data
    pub tight : (l : Listed found_elements) (out : List ℕ) → block_bytes * a.ticket_blocks ≤ length out
        → Each (λ (e : Element). (length e.bytes ≡ longest) × (mark_of e.index ≡ 1)) found_elements
        → (found_ticket l out).count ≡ a.ticket_blocks

abbrev pub TicketFitsClaim : Type 0
TicketFitsClaim =
    (p : Params) (longest : ℕ) (a : Amounts) → IsPlan p longest a
    → (lent : Lent) (places table : List ℕ) → Each (λ (e : Element). length e.bytes ≤ longest) (elements lent)
    → (proved p lent places table).number ≡ 0
    → TicketFits p lent places table longest a

-- ---- 02, N5 with N7: so a card reader knows how many blocks a ticket can have, by whomever it was written

abbrev pub TicketBounded : Type 0
TicketBounded =
    (t : List ℕ) (k : IsTicket t) (longest : ℕ) → Each (λ (e : Element). length e.bytes ≤ longest) k.2
    → big_endian 4 t ≤ block_count (ticket_head_bytes + length k.2 * (max_head_bytes + longest))

-- ---- 02, N5: the bound on blocks is tight. The ticket of thirteen elements, each with an index and 24 data bytes, holds 505 bytes, one
-- more than a body has

abbrev pub thirteen_settings : Params
thirteen_settings =
    let half : U128 = record { hi = 2 ^ 63; lo = 0 } in
    record { set_size = 14; proof_size = 13; max_retries = 4; search_width = 3; dfs_bound = 600; x = half }

-- their ticket into a buffer of so many bytes
abbrev pub thirteen_into : ℕ → ℕ → ℕ → TicketWritten
thirteen_into R S size =
    ticket_written R S
    (lent_of (replicate 312 97) (24 ∷ 48 ∷ 72 ∷ 96 ∷ 120 ∷ 144 ∷ 168 ∷ 192 ∷ 216 ∷ 240 ∷ 264 ∷ 288 ∷ 312 ∷ []) (replicate 13 1)
    (0 ∷ 1 ∷ 2 ∷ 3 ∷ 4 ∷ 5 ∷ 6 ∷ 7 ∷ 8 ∷ 9 ∷ 10 ∷ 11 ∷ 12 ∷ []))
    (replicate size 0)

abbrev pub TightExample : Type 0
TightExample =
    IsPlan thirteen_settings 24 (record { places = 13; bin_table = 43; most_steps = 2400; ticket_blocks = 2 })
    × ((R S : ℕ) → ((thirteen_into R S 1024).count ≡ 2) × ((thirteen_into R S 1023).number ≡ 42))

-- What the harness's own calls answer.
use Rattle.std.specs.Prelude.{◌≡◌, Bool, cond, List, [], ◌∷◌, ℕ, zero, suc, eqb, leb, ltb, Float, length}
use Rattle.sampling.specs.core.Hash.{hashed}
use Rattle.std.specs.Borrow.{MutBor}
use denote.Triple.Both.{Both}
use Rattle.centralized_telescope.specs.core.Elements.{Lent, lent_of}
use Rattle.centralized_telescope.specs.core.Lists.{over}
use Rattle.centralized_telescope.specs.later.Distinct.{distinct}
use Rattle.centralized_telescope.specs.later.SmallCase.{small_case}
use Rattle.centralized_telescope.specs.later.Plan.{planned}
use Rattle.centralized_telescope.specs.later.Pool.{pool_size, pool_data, proved_pool}
use Rattle.centralized_telescope.specs.later.Prepare.{prepared, committed}
use Rattle.centralized_telescope.specs.later.ProofSize.{SizeIs}
use Rattle.centralized_telescope.specs.core.Prover.{Proved, proved}
use Rattle.centralized_telescope.specs.later.Tickets.{TicketWritten, ticket_written, TicketRead, ticket_read}
use Rattle.centralized_telescope.specs.later.TwoProducts.{both_tried}
use Rattle.centralized_telescope.specs.later.Shape.{Shaped, shaped}
use Rattle.centralized_telescope.specs.declared.params.Params.{Params}
use Rattle.centralized_telescope.specs.declared.planning.Amounts.{Amounts}
use Rattle.centralized_telescope.specs.declared.params.SmallSettings.{SmallSettings}

-- a buffer that is lent for writing as a contract has it, at the call and at the end
abbrev pub Buffer : Type 0
Buffer = Both (MutBor (List ℕ)) (MutBor (List ℕ))

-- what four buffers hold at the call
abbrev pub buffers_at_entry : Buffer → Buffer → Buffer → Buffer → Lent
buffers_at_entry bytes ends marks indexes = lent_of bytes.entry.now ends.entry.now marks.entry.now indexes.entry.now

-- the list that four buffers hold at the end of a call
abbrev pub lent_at_exit : Buffer → Buffer → Buffer → Buffer → Lent
lent_at_exit bytes ends marks indexes = lent_of bytes.exit.now ends.exit.now marks.exit.now indexes.exit.now

-- the hash of m: its number, and the lent bytes afterwards; 8 where they aren't 32
unfoldable pub exported_hash : List ℕ → List ℕ → ℕ × List ℕ
exported_hash m out = cond (eqb (length out) 32) (hashed m) (8, out)

-- settings as six numbers, X by its high word and its low
abbrev pub six : SmallSettings → List ℕ
six s = s.proof_size ∷ s.max_retries ∷ s.search_width ∷ s.dfs_bound ∷ s.x.hi ∷ s.x.lo ∷ []

-- 0 with the settings in the lent numbers, or a refusal's number with the lent numbers as they were
abbrev pub with_settings : ℕ → SmallSettings → List ℕ → ℕ × List ℕ
with_settings zero s out = (0, six s)
with_settings (suc k) s out = (suc k, out)

-- the small case: its number, and the lent numbers afterwards; 8 where they aren't six
unfoldable pub exported_small_case : ℕ → Float → List ℕ → ℕ × List ℕ
exported_small_case u c out = cond (eqb (length out) 6) (with_settings (small_case u c).0 (small_case u c).1 out) (8, out)

-- the yes as 0, the no as 1, or a refusal's number
abbrev pub said : ℕ → Bool → ℕ
said zero r = cond r 0 1
said (suc k) r = suc k

-- distinctness of a list
unfoldable pub exported_distinct : Lent → ℕ
exported_distinct lent = let r : ℕ × Bool = distinct lent in said r.0 r.1

-- numbers in the first lent ones, where there are as many
unfoldable pub with_numbers : List ℕ → List ℕ → List ℕ
with_numbers numbers out = cond (leb (length numbers) (length out)) (over numbers out) out

-- ---- the prover

-- R, S and the step count
abbrev pub counters_of : Proved → List ℕ
counters_of r = r.retry ∷ r.search ∷ r.count ∷ []

-- these in the first three lent numbers, where there are as many
abbrev pub with_counters : Proved → List ℕ → List ℕ
with_counters r out = with_numbers (counters_of r) out

-- the number, and places, bin table and the lent numbers afterwards
abbrev pub exported_search : Proved → List ℕ → ℕ × List ℕ × List ℕ × List ℕ
exported_search r out = (r.number, r.places, r.table, with_counters r out)

unfoldable pub exported_prove : Params → Lent → List ℕ → List ℕ → List ℕ → ℕ × List ℕ × List ℕ × List ℕ
exported_prove p lent places table out = exported_search (proved p lent places table) out

-- the same over a pool
unfoldable pub exported_prove_pool : Params → Lent → Lent → List ℕ → List ℕ → List ℕ → ℕ × List ℕ × List ℕ × List ℕ
exported_prove_pool p first second places table out = exported_search (proved_pool p first second places table) out

-- ---- tickets

-- a number in the first lent one, where there is one
abbrev pub with_first : ℕ → List ℕ → List ℕ
with_first v out = with_numbers (v ∷ []) out

-- the number, and the lent blocks and numbers afterwards
unfoldable pub exported_write_ticket : ℕ → ℕ → Lent → List ℕ → List ℕ → ℕ × List ℕ × List ℕ
exported_write_ticket R S lent blocks out =
    let r : TicketWritten = ticket_written R S lent blocks in
    (r.number, r.buffer, with_first r.count out)

-- R, S, the number of elements and that of data bytes in the first four lent numbers, where there are as many
abbrev pub with_read : TicketRead → List ℕ → List ℕ
with_read r out = with_numbers (r.retry ∷ r.search ∷ r.count ∷ r.len ∷ []) out

-- the number, and the lent buffers and numbers afterwards
unfoldable pub exported_read_ticket : List ℕ → Lent → List ℕ → ℕ × Lent × List ℕ
exported_read_ticket t buffers out =
    let r : TicketRead = ticket_read t buffers in
    (r.number, r.buffers, with_read r out)

-- ---- planning

-- places, bin-table numbers, steps and blocks in the first four lent numbers, where there are as many
abbrev pub with_amounts : Amounts → List ℕ → List ℕ
with_amounts a out = with_numbers (a.places ∷ a.bin_table ∷ a.most_steps ∷ a.ticket_blocks ∷ []) out

-- the number, and the lent numbers afterwards
unfoldable pub exported_plan : Params → ℕ → List ℕ → ℕ × List ℕ
exported_plan p longest out = ((planned p longest).0, with_amounts (planned p longest).1 out)

-- ---- the proof size

-- the number, and the lent numbers afterwards: the size, 0 with a refusal, in the first of them
abbrev pub ExportedSize : ℕ → ℕ → ℕ → ℕ → List ℕ → ℕ → List ℕ → Type 0
ExportedSize s c n f out number out' = (u : ℕ) × SizeIs s c n f number u × (out' ≡ with_first u out)

-- ---- the pool

-- the number, and the lent numbers afterwards: the size, 0 with a refusal, in the first of them
unfoldable pub exported_pool_size : Lent → Lent → List ℕ → ℕ × List ℕ
exported_pool_size first second out = ((pool_size first second).0, with_first (pool_size first second).1 out)

-- the part in the first of the lent bytes and its length in the first of the lent numbers; or 42 with both as they were, where it is longer
unfoldable pub exported_pool_data : Lent → Lent → ℕ → List ℕ → List ℕ → ℕ × List ℕ × List ℕ
exported_pool_data first second place part out =
    let own : List ℕ = pool_data first second place in
    cond (ltb (length part) (length own)) (42, part, out) (0, over own part, with_first (length own) out)

-- ---- prepare and commit

-- the number, and the lent bytes afterwards: the digest with 0, else as they were; 8 where they aren't 32
unfoldable pub exported_prepare : Params → Lent → ℕ → ℕ → List ℕ → ℕ × List ℕ
exported_prepare p lent places_len table_len out =
    let r : ℕ × List ℕ = prepared p lent places_len table_len in
    cond (eqb (length out) 32) (r.0, cond (eqb r.0 0) r.1 out) (8, out)

-- as of the prover; 8 with all as it was where the digest isn't 32 bytes
unfoldable pub exported_commit : Params → List ℕ → Lent → List ℕ → List ℕ → List ℕ → ℕ × List ℕ × List ℕ × List ℕ
exported_commit p digest lent places table out =
    cond (eqb (length digest) 32) (exported_search (committed p digest lent places table) out) (8, places, table, out)

-- ---- two parties

-- number, S and step count of the first, then of the second
abbrev pub parties_numbers : Proved → Proved → List ℕ
parties_numbers a b = a.number ∷ a.search ∷ a.count ∷ b.number ∷ b.search ∷ b.count ∷ []

-- 0, each party's places, and the lent numbers
abbrev pub parties_served : Proved × Proved → ℕ × List ℕ × List ℕ × List ℕ
parties_served r = (0, r.0.places, r.1.places, parties_numbers r.0 r.1)

-- both served from one list and one bin table; 8 with all as it was where the lent numbers aren't six
unfoldable pub exported_two_products : Lent → ℕ → List ℕ → Params → ℕ → List ℕ → Params → ℕ → List ℕ → List ℕ
    → ℕ × List ℕ × List ℕ × List ℕ
exported_two_products lent table_retry table p R places p' R' places' out =
    cond (eqb (length out) 6) (parties_served (both_tried lent table_retry table p R places p' R' places')) (8, places, places', out)

-- ---- the chains of one search counter by their length

-- the number, bin table and counts afterwards, and how many pass, 0 with a refusal, in the lent number; 8 with all as it was where that isn't
-- one number
unfoldable pub exported_count_chains : Params → ℕ → ℕ → Lent → List ℕ → List ℕ → List ℕ → ℕ × List ℕ × List ℕ × List ℕ
exported_count_chains p R S lent bins counts out =
    let r : Shaped = shaped p R S lent counts bins in
    cond (eqb (length out) 1) (r.number, r.table, r.counts, with_first r.passing out) (8, bins, counts, out)

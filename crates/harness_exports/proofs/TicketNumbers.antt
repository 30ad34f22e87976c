-- The answers on tickets in numbers.
use mathlib.Core.Path.{◌≡◌}
use mathlib.Core.List.{List}
use Prim.Native.Nat.{ℕ}
use Rattle.std.specs.Prelude.{Result, Ok, Err}
use Rattle.centralized_telescope.specs.core.Elements.{Lent}
use Rattle.centralized_telescope.specs.later.ProofSize.{size_by}
use Rattle.centralized_telescope.specs.later.Tickets.{ticket_written, ticket_written_by, TicketRead, ticket_read}
use Rattle.centralized_telescope.specs.declared.errors.Refusal.{Refusal}
use Rattle.harness_exports.specs.Exported.{with_first, exported_write_ticket, with_read, exported_read_ticket}

-- ---- the writer

-- k is the answer's number
pub exported_written : (R S : ℕ) (lent : Lent) (blocks out : List ℕ) (a : Result ℕ Refusal) (k : ℕ) (blocks' out' : List ℕ)
    → ticket_written_by a blocks' ≡ ticket_written R S lent blocks
    → k ≡ (size_by a).0
    → out' ≡ with_first (size_by a).1 out
    → (k, blocks', out') ≡ exported_write_ticket R S lent blocks out
unfolding exported_write_ticket
exported_written R S lent blocks out (Ok n) k blocks' out' e ek eo = rw (ek, eo, ← e)
exported_written R S lent blocks out (Err r) k blocks' out' e ek eo = rw (ek, eo, ← e)

-- ---- the reader

-- r is what the definition answers
pub exported_read : (t : List ℕ) (buffers : Lent) (out : List ℕ) (r : TicketRead) (k : ℕ) (buffers' : Lent) (out' : List ℕ)
    → r ≡ ticket_read t buffers
    → k ≡ r.number
    → buffers' ≡ r.buffers
    → out' ≡ with_read r out
    → (k, buffers', out') ≡ exported_read_ticket t buffers out
unfolding exported_read_ticket
exported_read t buffers out r k buffers' out' e ek eb eo = rw (ek, eb, eo, e)

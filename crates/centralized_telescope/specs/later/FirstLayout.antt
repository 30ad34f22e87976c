-- Document 02, N7, tickets of the first layout, N1's before a number of blocks stood on them. They are written no more; this file is
-- for the claim on them alone.
use Rattle.std.specs.Prelude.{◌≡◌, ℕ, ◌^◌, ◌<◌, List, [], ◌++◌, length}
use Rattle.sampling.specs.core.BigEndian.{bytes_of}
use Rattle.centralized_telescope.specs.core.Elements.{Element, Lent}
use Rattle.centralized_telescope.specs.later.Blocks.{blocks}
use Rattle.centralized_telescope.specs.later.ElementBytes.{elements_bytes}
use Rattle.centralized_telescope.specs.later.Tickets.{ticket, unread, ticket_read}

-- R, S, the number of elements, and the elements
unfoldable pub first_ticket : ℕ → ℕ → List Element → List ℕ
first_ticket R S es = blocks (bytes_of 8 R ++ (bytes_of 8 S ++ (bytes_of 4 (length es) ++ elements_bytes es)))

abbrev pub FirstRefused : Type 0
FirstRefused =
    -- 02, N7: with R below 2^32 it is refused with 41, and no lent buffer is altered
    ((R S : ℕ) (es : List Element) → R < 2 ^ 32 → (buffers : Lent)
    → ticket_read (first_ticket R S es) buffers ≡ unread 41 buffers)
    -- but not with every R: here the first layout's bytes are those of another proof's ticket
    × (first_ticket (2 ^ 32) 0 [] ≡ ticket 0 0 [])

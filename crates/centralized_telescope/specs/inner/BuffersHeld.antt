-- What the buffers hold while a list is written.
use Rattle.std.proofs.Math.Option.{Option}
use Rattle.std.specs.Prelude.{ℕ, slice_set}
use Rattle.centralized_telescope.specs.core.Elements.{Lent, lent_of}
use Rattle.centralized_telescope.specs.later.Words.{mark_of, number_of}

-- with an element's end, mark and index at a place
abbrev pub with_element : ℕ → ℕ → Option ℕ → Lent → Lent
with_element place end index buffers =
    lent_of buffers.bytes (slice_set buffers.ends place end) (slice_set buffers.marks place (mark_of index))
    (slice_set buffers.indexes place (number_of index))

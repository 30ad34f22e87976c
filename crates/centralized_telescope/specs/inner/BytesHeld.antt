-- The list that the code's value of a list in bytes holds.
use Rattle.centralized_telescope.specs.core.Elements.{Lent, lent_of}
use Rattle.centralized_telescope.specs.declared.in_bytes.LentBytes.{LentBytes}

abbrev pub bytes_held : LentBytes → Lent
bytes_held list = lent_of list.data.now list.ends.now list.marks.now list.indexes.now

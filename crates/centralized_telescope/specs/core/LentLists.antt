-- The list that a call is lent: what its four slices hold.
use Rattle.centralized_telescope.specs.core.Elements.{Lent, lent_of}
use Rattle.centralized_telescope.specs.declared.lists.Lent.{Lent as LentSlices}

abbrev pub lent : LentSlices → Lent
lent list = lent_of list.data.now list.ends.now list.marks.now list.indexes.now

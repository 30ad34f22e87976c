-- What inner values of the code stand for: an accepted list, something that may be missing, an element that was read.
use Rattle.std.proofs.Math.Option.{Option, none, some}
use Rattle.std.specs.Prelude.{Some, None}
use Rattle.std.specs.Prelude.{Option as Answer}
use Rattle.centralized_telescope.specs.core.Elements.{Lent, lent_of, Element}
use Rattle.centralized_telescope.specs.declared.lists.AcceptedList.{AcceptedList}
use Rattle.centralized_telescope.specs.declared.lists.Element.{Element as ElementRead}

-- the list that is accepted
abbrev pub held : AcceptedList → Lent
held list = lent_of list.data.now list.ends.now list.marks.now list.indexes.now

-- something that the code answers, or none: an index, a round's id, an element's bin
abbrev pub option_of : {A : Type 0} → Answer A → Option A
option_of (Some a) = some a
option_of None = none

-- the element that was read
abbrev pub element_read : ElementRead → Element
element_read e = record { bytes = e.data.now; index = option_of e.«index» }

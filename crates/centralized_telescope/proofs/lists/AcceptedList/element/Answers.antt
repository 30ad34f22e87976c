-- `element`: its data and its index.
use Rattle.centralized_telescope.specs.laws.ElementsLaws.{same_parts}
use Rattle.centralized_telescope.proofs.lists.AcceptedList.element.Goals as goal

pub returns : goal.returns
returns c = same_parts c.own_data.ensures.«data» c.own_index.ensures

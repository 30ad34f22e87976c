-- `own_index`: the lists of marks and of indexes are as long as the list.
use Rattle.std.proofs.Common.{◌∙◌, ap, sym}
use Rattle.centralized_telescope.specs.core.Elements.{Element}
use Rattle.centralized_telescope.specs.inner.Held.{held}
use Rattle.centralized_telescope.specs.laws.ElementsLaws.{place_within, element_there}
use Rattle.centralized_telescope.proofs.lists.AcceptedList.own_index.Goals as goal

pub bounds-self-place : goal.bounds-self-place
bounds-self-place c = (place_within (held c.args.self) c.args.self.accepted c.args.place c.requires).0

pub bounds-self-place-2 : goal.bounds-self-place-2
bounds-self-place-2 c = (place_within (held c.args.self) c.args.self.accepted c.args.place c.requires).1

pub returns : goal.returns
returns c =
    let list = c.args.self in
    c.index_of.ensures
    ∙ sym (ap (λ (e : Element). e.index) (element_there (held list) list.accepted c.args.place c.requires))
